use mathlib.Core.Path.{refl}
use native.Mathlib.Omega.{arith}
use Rattle.stored.proofs.Parts.{at_end, not_at_end}
use Rattle.stored.proofs.body.Body.end.Goals as goal

pub returns-then-self-gt0 : goal.returns-then-self-gt0
returns-then-self-gt0 c = rw c.if-not-self.false (not_at_end _ _ c.if-self-gt0.true)

pub returns : goal.returns
returns c = (rw c.if-not-self.false (at_end _ _ (omega (arith, c.if-self-gt0.false))), refl)
