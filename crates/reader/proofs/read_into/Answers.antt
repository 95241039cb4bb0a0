use Rattle.parser.proofs.Readings.{records_part, records_length}
use Rattle.reader.proofs.Cases.{whole_stopped, whole_none, whole_read, records}
use mathlib.Core.Path.{◌∙◌}
use native.Mathlib.Omega.{arith}
use Rattle.reader.proofs.read_into.Goals as goal

pub returns-in-Err : goal.returns-in-Err
returns-in-Err c = (
  c.in-Err.ensures,
  c.cleared-written.ensures
      ∙ whole_stopped _ _ (c.requires.0.0, c.requires.0.1, c.requires.1) c.in-Err.ensures.is,
)

pub returns-then-found-eq0 : goal.returns-then-found-eq0
returns-then-found-eq0 c = (
  c.in-Ok.ensures,
  c.cleared-written-then-found-eq0.ensures
      ∙ whole_none _ _ (c.requires.0.0, c.requires.0.1, c.requires.1) c.in-Ok.ensures.is c.if-found-eq0.true,
)

pub invariant_of-tokens-clause-held : goal.invariant_of-tokens-clause-held
invariant_of-tokens-clause-held c = (records _ c.requires.0.0 c.requires.0.1 c.in-Ok.ensures.is).held

pub invariant_of-tokens-clause-parts : goal.invariant_of-tokens-clause-parts
invariant_of-tokens-clause-parts c = (records _ c.requires.0.0 c.requires.0.1 c.in-Ok.ensures.is).parts

pub read_tokens-written-requires : goal.read_tokens-written-requires
read_tokens-written-requires c =
    let g = records _ c.requires.0.0 c.requires.0.1 c.in-Ok.ensures.is in (
      c.requires.1,
      (
        omega (arith, c.if-found-eq0.false),
        record { room = g.room; few = rw (records_length _ _ c.as_chunks.ensures.front g.words) g.few },
      ),
    )

pub returns : goal.returns
returns c =
    let g = records _ c.requires.0.0 c.requires.0.1 c.in-Ok.ensures.is in (
      c.in-Ok.ensures,
      whole_read _ _ (c.requires.0.0, c.requires.0.1, c.requires.1) c.in-Ok.ensures.is _ _ c.if-found-eq0.false
          (rw (records_part _ _ c.as_chunks.ensures.front g.words) at c.read_tokens-written.ensures),
    )
