use Rattle.steps.proofs.SameKind.{same_number, other_number}
use Rattle.fallible.proofs.Calls.{left, refusal_is, stop_is}
use Rattle.statement.proofs.Declared.{compound_stops, array_reads, struct_reads, compound_end, compound_other}
use Rattle.steps.proofs.OneToken.{write_node_stop}
use Rattle.steps.proofs.Moves.{asks_moved}
use mathlib.Core.Path.{refl}
use native.Mathlib.Omega.{arith}
use Rattle.statement.proofs.declarations.compound.Goals as goal
use Rattle.statement.proofs.declarations.compound.Goals.{in-LBracket, in-LBrace}

pub returns-in_err-expect : goal.returns-in_err-expect
returns-in_err-expect c = rw (left c.from_residual.ensures.1)
    (compound_stops c.in_err-expect.ensures (stop_is _))

pub returns-in-End : goal.returns-in-End
returns-in-End c =
    compound_end c.in_ok-expect.ensures refl c.peek-t.ensures
    (asks_moved c.requires.asks c.expect.ensures.moved (omega (arith, c.expect.auto))
    (omega (arith, c.expect.auto)))
    c.raise.ensures (same_number c.in-End.is) c.at_end-error.ensures

pub returns-in_default : goal.returns-in_default
returns-in_default c =
    compound_other c.in_ok-expect.ensures refl c.peek-t.ensures
    (asks_moved c.requires.asks c.expect.ensures.moved (omega (arith, c.expect.auto))
    (omega (arith, c.expect.auto)))
    c.raise-in_default.ensures (other_number c.in_default.not-End) (other_number c.in_default.not-LBracket) (other_number c.in_default.not-LBrace)
    c.new-error.ensures

pub returns : goal.returns
returns c = elim c.match-t.branch [
  | in-LBracket w ↦ let F = rw w.what-is at c.write_node.ensures in
      array_reads c.in_ok-expect.ensures refl c.peek-t.ensures (same_number w.in-LBracket.is) (rw w.what-is at c.in_ok-count.ensures) (F _ _)
  | in-LBrace w ↦ let F = rw w.what-is at c.write_node.ensures in
      struct_reads c.in_ok-expect.ensures refl c.peek-t.ensures (same_number w.in-LBrace.is) (rw w.what-is at c.in_ok-count.ensures) (F _ _)
]

pub returns-in_err-count : goal.returns-in_err-count
returns-in_err-count c = rw (left c.from_residual-in_err-count.ensures.1) (elim c.match-t.branch [
  | in-LBracket w ↦ array_reads c.in_ok-expect.ensures refl c.peek-t.ensures (same_number w.in-LBracket.is)
      (rw w.what-is at c.in_err-count.ensures) (write_node_stop (refusal_is _))
  | in-LBrace w ↦ struct_reads c.in_ok-expect.ensures refl c.peek-t.ensures (same_number w.in-LBrace.is)
      (rw w.what-is at c.in_err-count.ensures) (write_node_stop (refusal_is _))
])
