use mathlib.Core.List.{[], ◌∷◌}
use Rattle.stored.proofs.Taking.{not_first}
use Rattle.stored.proofs.nodes.one_and.Goals as goal

pub returns-in_err-others : goal.returns-in_err-others
returns-in_err-others c = rw c.from_residual.ensures (not_first _ _ (_ ∷ []) c.in_err-others.ensures)
