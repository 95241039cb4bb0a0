use native.Mathlib.Omega.{arith}
use Rattle.stored.proofs.Texts.{ascii_start, ascii_more, ascii_end}
use Rattle.stored.proofs.body.is_ascii.Goals as goal

pub loop-i-init : goal.loop-i-init
loop-i-init c = ascii_start _

pub loop-i-preserved : goal.loop-i-preserved
loop-i-preserved c = ascii_more c.loop-i.invariant c.loop-i-test.true (omega (arith, c.if-bytes-i-ge128.false))

pub returns : goal.returns
returns c = λ t. ascii_end c.loop-i.invariant (omega (arith, c.loop-i-test.false))
