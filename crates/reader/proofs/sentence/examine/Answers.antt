use native.Mathlib.Omega.{arith}
use Rattle.fallible.proofs.Calls.{left}
use Rattle.parser.proofs.Readings.{module_asked, records_part}
use Rattle.reader.proofs.Cases.{records}
use Rattle.reader.proofs.Complaints.{examine_stopped, examine_none, examine_refused, examine_found}
use Rattle.reader.proofs.sentence.examine.Goals as goal

pub returns-in_err-state : goal.returns-in_err-state
returns-in_err-state c =
    rw (left c.from_residual.ensures.1)
    (examine_stopped _ c.requires.0.0 c.requires.0.1 c.in_err-state.ensures.is)

pub returns-then-state-eq0 : goal.returns-then-state-eq0
returns-then-state-eq0 c =
    examine_none _ c.requires.0.0 c.requires.0.1 c.in_ok-state.ensures.is c.if-state-eq0.true

pub invariant_of-tokens-clause-held : goal.invariant_of-tokens-clause-held
invariant_of-tokens-clause-held c = (records _ c.requires.0.0 c.requires.0.1 c.in_ok-state.ensures.is).held

pub invariant_of-tokens-clause-parts : goal.invariant_of-tokens-clause-parts
invariant_of-tokens-clause-parts c = (records _ c.requires.0.0 c.requires.0.1 c.in_ok-state.ensures.is).parts

pub parse_tokens-requires : goal.parse_tokens-requires
parse_tokens-requires c =
    let g = records _ c.requires.0.0 c.requires.0.1 c.in_ok-state.ensures.is in (
      rw c.requires.2 (module_asked _ c.run.new.text _ _ g.held (record { room = g.room; few = g.few }) c.requires.1 (omega arith) (omega arith)),
      c.requires.2,
    )

pub returns-in_err-parse_tokens : goal.returns-in_err-parse_tokens
returns-in_err-parse_tokens c =
    rw (left c.from_residual-in_err-parse_tokens.ensures.1)
    (examine_refused _ c.requires.0.0 c.requires.0.1 c.in_ok-state.ensures.is c.if-state-eq0.false _ c.in_err-parse_tokens.ensures)

pub invariant_of-result-clause-reported_few : goal.invariant_of-result-clause-reported_few
invariant_of-result-clause-reported_few c =
    omega (arith, c.in_ok-parse_tokens.ensures.fewer, c.in_ok-parse_tokens.ensures.few)

pub invariant_of-result-clause-full_few : goal.invariant_of-result-clause-full_few
invariant_of-result-clause-full_few c = omega (arith, c.in_ok-parse_tokens.ensures.few)

pub invariant_of-result-clause-is : goal.invariant_of-result-clause-is
invariant_of-result-clause-is c =
    let g = records _ c.requires.0.0 c.requires.0.1 c.in_ok-state.ensures.is in
    rw (records_part _ _ c.as_chunks.ensures.front g.words)
    (examine_found _ c.requires.0.0 c.requires.0.1 c.in_ok-state.ensures.is c.if-state-eq0.false c.in_ok-parse_tokens.ensures)
