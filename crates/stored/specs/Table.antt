-- The code's children, roles and fields as those of the table. Assumes nothing.
use Rattle.std.specs.Prelude.{◌≡◌, List, [], ◌∷◌, ◌++◌, ℕ, replicate}
use Rattle.std.proofs.Math.Option.{Option, none, some}
use Rattle.definition.specs.declared.tag.Tag.{Tag}
use Rattle.definition.specs.Numbers.{tag_number}
use Rattle.definition.specs.Format as F
use Rattle.definition.specs.Format.{Part, rows, find}
use Rattle.definition.specs.Stored as S
use Rattle.stored.specs.declared.nodes.Children.{Children}
use Rattle.stored.specs.declared.nodes.Role.{Role}
use Rattle.stored.specs.declared.field.Found.{Found}

-- the kinds of children
abbrev pub as_children : Children → List ℕ
as_children Children.Empty = []
as_children (Children.One kind) = kind ∷ []
as_children (Children.Two first second) = first ∷ second ∷ []
as_children (Children.Many kind count) = replicate count kind
as_children (Children.OneAndMany first kind count) = first ∷ replicate count kind
as_children (Children.Function parameters bodies) = replicate parameters F.named_type ++ (F.type ∷ replicate bodies F.statement)

abbrev pub sort_of : Role → F.Sort
sort_of (Role.Node kind children) = F.node kind
sort_of (Role.Root items) = F.root
sort_of (Role.Error list) = F.error list

abbrev pub children_of : Role → List ℕ
children_of (Role.Node kind children) = as_children children
children_of (Role.Root items) = replicate items F.item
children_of (Role.Error list) = []

-- a field with a tag
abbrev pub as_found : Found → S.Found
as_found f = record { tag = f.number; size = f.size; sort = sort_of f.role; children = children_of f.role }

-- ---- the row of a tag

abbrev pub row_of : Tag → Option F.Row
row_of tag = find (tag_number tag) rows

abbrev pub parts_in : Option F.Row → List Part
parts_in none = []
parts_in (some w) = w.body

abbrev pub sort_in : Option F.Row → F.Sort
sort_in none = F.root
sort_in (some w) = w.sort

abbrev pub children_in : Option F.Row → ℕ → ℕ → List ℕ
children_in none b c = []
children_in (some w) b c = w.children b c

-- a role by the row of its tag and the numbers of its body, where o is what was read of it
pub record ByRow (w : Option F.Row) (o : Option F.Numbers) (x : Role) : Type 0 where
  pub numbers : F.Numbers
  pub read : o ≡ some numbers
  pub sort : sort_of x ≡ sort_in w
  pub children : children_of x ≡ children_in w numbers.byte numbers.count
