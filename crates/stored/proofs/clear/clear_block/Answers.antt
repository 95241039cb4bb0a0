use Rattle.stored.proofs.Zeros.{zero_already}
use Rattle.stored.proofs.clear.clear_block.Goals as goal

pub returns-then-bits-eq0 : goal.returns-then-bits-eq0
returns-then-bits-eq0 c = zero_already _ _ _ _ c.bits.ensures c.if-bits-eq0.true c.requires
