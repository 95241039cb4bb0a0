use mathlib.Core.Path.{ap}
use Rattle.definition.specs.Stored.{with_row}
use Rattle.stored.proofs.OneField.{no_row, bad_body, good_body}
use Rattle.stored.proofs.field.with_tag.Goals as goal

pub returns-in_default : goal.returns-in_default
returns-in_default c = ap (with_row _ _) (no_row _ c.requires c.in_default.ensures.1)

pub returns-in_err-role : goal.returns-in_err-role
returns-in_err-role c = rw c.from_residual.ensures (bad_body c.in-Ok.tag _ _ c.requires c.in-Ok.ensures c.in_err-role.ensures)

pub returns : goal.returns
returns c = good_body c.in-Ok.tag _ _ c.requires c.in-Ok.ensures _ c.in_ok-role.ensures
