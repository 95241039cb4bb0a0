use native.Mathlib.Numerals.{add-one}
use native.Mathlib.Omega.{arith}
use borrow.Author.Tests.{ne_eqb}
use Rattle.source.proofs.Laws.{step_law}
use Rattle.source.proofs.step_along.Goals as goal

pub returns : goal.returns
returns c =
    let p = c.requires.0 in
    step_law p.stands p.inside (omega (arith, c.width.ensures)) (rw (ne_eqb _ _ p.no_newline, add-one)) (omega arith) (omega arith)
