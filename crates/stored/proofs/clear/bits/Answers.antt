use native.Mathlib.Omega.{arith}
use Rattle.stored.proofs.Texts.{bounded_more}
use Rattle.stored.proofs.clear.bits.Goals as goal

pub loop-k-preserved : goal.loop-k-preserved
loop-k-preserved c = (bounded_more _ _ _ _ c.loop-k.invariant.0, omega (arith, c.loop-k-test.true))
