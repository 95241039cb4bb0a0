-- What tests and reads of a part of a body ensure. Assumes nothing.
use Rattle.std.specs.Prelude.{◌≡◌, List, [], ◌∷◌, ℕ, ◌+◌, ◌<◌, ◌≤◌, drop, get_or, Option, MatchOption}
use Rattle.std.proofs.Math.Option as Math
use Rattle.std.proofs.Math.Option.{none, some}
use Rattle.definition.specs.Choice.{pick}
use Rattle.definition.specs.Source.{At, decode, fresh, is_some, utf8}
use Rattle.definition.specs.Format as F
use Rattle.definition.specs.Stored as S
use Rattle.stored.specs.declared.body.Part.{Part}
use Rattle.stored.specs.declared.body.Numbers.{Numbers}
use Rattle.stored.specs.declared.body.Body.{Body}
use Rattle.stored.specs.declared.nodes.Role.{Role}
use Rattle.stored.specs.Table.{parts_in, ByRow}

-- no byte of the k from an offset on is above n
abbrev pub Bounded : List ℕ → ℕ → ℕ → ℕ → Type 0
Bounded bs at k n = (j : ℕ) → j < k → get_or bs (at + j) 0 ≤ n

-- the first i bytes are ASCII: whether the others are UTF-8 decides
pub record Ascii (bs : List ℕ) (i : ℕ) : Type 0 where
  pub place : At
  pub same : utf8 bs ≡ is_some (decode fresh place (drop i bs))

abbrev pub as_part : Part → F.Part
as_part Part.Place = F.place
as_part Part.PlaceOrNowhere = F.place_or_nowhere
as_part (Part.Byte least most) = F.byte least most
as_part Part.Base = F.base
as_part Part.Count = F.count
as_part Part.Eight = F.eight
as_part Part.Text = F.text

abbrev pub as_numbers : Numbers → F.Numbers
as_numbers n = record { byte = n.byte; count = n.count }

-- the numbers of the parts ps, from what is left of a body on
abbrev pub left : List F.Part → Body → Math.Option F.Numbers
left ps b = pick b.good (S.numbers ps b.rest.now (as_numbers b.numbers)) none

-- after the part p
abbrev pub Reads : F.Part → Body → Body → Type 0
Reads p b b' = (ps : List F.Part) → left (p ∷ ps) b ≡ left ps b'

-- the role, if the body ends here
abbrev pub Ends : Role → Body → Option Role → Type 0
Ends role b r = MatchOption r (left [] b ≡ none) (λ x. (left [] b ≡ some (as_numbers b.numbers)) × (x ≡ role))

-- the role by a row, if what is left of a body has the row's parts
abbrev pub RoleBy : Math.Option F.Row → Body → Option Role → Type 0
RoleBy w b r = MatchOption r (left (parts_in w) b ≡ none) (λ x. ByRow w (left (parts_in w) b) x)

-- the same for a whole body
abbrev pub RoleOf : Math.Option F.Row → List ℕ → Option Role → Type 0
RoleOf w bs r =
    MatchOption r (S.numbers (parts_in w) bs F.no_numbers ≡ none) (λ x. ByRow w (S.numbers (parts_in w) bs F.no_numbers) x)
