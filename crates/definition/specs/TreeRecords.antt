-- How many records the tree of a file has. Assumes nothing.
use Rattle.std.specs.Prelude.{true, false, List, ℕ, zero, suc, eqb, length, drop, get_or}
use Rattle.definition.specs.Tag as Tag
use Rattle.definition.specs.Demand.{field_size}

-- the number of fields up to the first 5F, that one included, within n fields
unfoldable pub tree_records_from : ℕ → List ℕ → ℕ
tree_records_from zero bs = 0
tree_records_from (suc n) bs =
    suc (elim (eqb (get_or bs 0 0) Tag.Module) [ true ↦ 0 | false ↦ tree_records_from n (drop (field_size bs) bs) ])

unfoldable pub tree_records : List ℕ → ℕ
unfolding tree_records_from
tree_records bs = tree_records_from (length bs) bs
