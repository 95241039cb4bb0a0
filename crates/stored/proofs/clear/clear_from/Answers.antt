use native.Mathlib.Omega.{arith}
use Rattle.stored.proofs.Zeros.{zero_block, zero_rest}
use Rattle.stored.proofs.clear.clear_from.Goals as goal

pub loop-i-preserved : goal.loop-i-preserved
loop-i-preserved c =
    let b = c.clear_block.ensures in
    (zero_block c.loop-i.invariant.0 b, omega (arith, b.size, c.loop-i-test.true))

pub returns : goal.returns
returns c = zero_rest c.loop-i.invariant.0 c.loop-i.invariant.1 c.fill_from.ensures
