use native.Mathlib.Numerals.{add-one}
use native.Mathlib.Omega.{arith}
use borrow.Author.Tests.{eq-eqb}
use Rattle.source.proofs.Laws.{ascii_lead, along_law, step_law}
use Rattle.source.proofs.step_byte.Goals as goal

pub returns-then-s-c-eq10 : goal.returns-then-s-c-eq10
returns-then-s-c-eq10 c =
    let e = c.if-s-c-eq10.true in
    step_law c.requires.0 c.requires.1 (omega (arith, ascii_lead _ c.requires.2)) (rw (eq-eqb _ _ e, add-one))
    (omega arith) (omega arith)

pub returns : goal.returns
returns c = along_law c.requires.0 c.requires.1 c.requires.2 c.if-s-c-eq10.false c.along.ensures
