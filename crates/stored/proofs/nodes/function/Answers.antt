use Rattle.stored.proofs.Taking.{not_first}
use Rattle.stored.proofs.nodes.function.Goals as goal

pub returns-in_err-result : goal.returns-in_err-result
returns-in_err-result c = rw c.from_residual.ensures (not_first _ _ _ c.in_err-result.ensures)
