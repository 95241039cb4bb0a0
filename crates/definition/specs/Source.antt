-- `source.rs`, and what Rust's `str` does for it (docs/FORMAT.md, Characters and places): places, UTF-8 (RFC 3629),
-- and a script's characters with their places. Assumes nothing.
use Rattle.std.specs.Prelude.{Bool, true, false, ◌&&◌, List, [], ◌∷◌, ◌++◌, ℕ, suc, pred, ◌+◌, ◌-◌, ◌*◌, eqb, ltb, leb, length}
use Rattle.std.proofs.Math.Option.{Option, none, some}
use Rattle.definition.specs.Choice.{◌⇒◌, pick, first}

-- ---- places

-- `SourceLocation`: line and column, both from 1
pub record Place : Type 0 where
  pub line : ℕ
  pub column : ℕ

abbrev pub place_at : ℕ → ℕ → Place
place_at line column = record { line = line; column = column }

-- `SourceLocation::stub()`, the place of an error at the end of the input
abbrev pub nowhere : Place
nowhere = record { line = 0; column = 0 }

abbrev pub same_place : Place → Place → Bool
same_place p q = eqb p.line q.line && eqb p.column q.column

-- the place after the character that begins with the byte b; a newline belongs to the line it ends
abbrev pub after : ℕ → Place → Place
after b p = pick (eqb b 10) (record { line = suc p.line; column = 1 }) (record { line = p.line; column = suc p.column })

-- ---- characters

-- a character: its first byte, its other bytes, the offset of the first in the script, and its place
pub record Ch : Type 0 where
  pub byte : ℕ
  pub more : List ℕ
  pub offset : ℕ
  pub place : Place

-- its number: the bits of the first byte after its mark, then six bits of each other byte
abbrev pub six_more : ℕ → ℕ → ℕ
six_more n b = n * 64 + (b - 0x80)

abbrev pub code_of : ℕ → List ℕ → ℕ
code_of b [] = b
code_of b (x ∷ []) = six_more (b - 0xC0) x
code_of b (x ∷ y ∷ []) = six_more (six_more (b - 0xE0) x) y
code_of b (x ∷ y ∷ z ∷ more) = six_more (six_more (six_more (b - 0xF0) x) y) z

abbrev pub code : Ch → ℕ
code c = code_of c.byte c.more

-- where a character stands
pub record At : Type 0 where
  pub offset : ℕ
  pub place : Place

-- there, the character with the first byte b and the others m; and where the next one stands
abbrev pub char_at : At → ℕ → List ℕ → Ch
char_at p b m = record { byte = b; more = m; offset = p.offset; place = p.place }

abbrev pub past : At → ℕ → List ℕ → At
past p b m = record { offset = suc (length m) + p.offset; place = after b p.place }

-- what must follow a first byte: how many more bytes, and the bounds of the next one; those after it are 128 to 191
pub data Lead : Type 0 where
  single : Lead
  with_more : ℕ → ℕ → ℕ → Lead
  wrong : Lead

unfoldable pub lead : ℕ → Lead
unfolding first
lead b =
    first
    ((ltb b 0x80 ⇒ single) ∷ (ltb b 0xC2 ⇒ wrong) ∷ (ltb b 0xE0 ⇒ with_more 1 0x80 0xBF) ∷ (eqb b 0xE0 ⇒ with_more 2 0xA0 0xBF) ∷ (eqb b 0xED ⇒ with_more 2 0x80 0x9F) ∷
    (ltb b 0xF0 ⇒ with_more 2 0x80 0xBF) ∷ (eqb b 0xF0 ⇒ with_more 3 0x90 0xBF) ∷ (ltb b 0xF4 ⇒ with_more 3 0x80 0xBF) ∷ (eqb b 0xF4 ⇒ with_more 3 0x80 0x8F) ∷ [])
    wrong

-- between two characters; or within one: its first byte, the bytes since, how many are missing, bounds of the next
pub data Pending : Type 0 where
  fresh : Pending
  within : ℕ → List ℕ → ℕ → ℕ → ℕ → Pending

abbrev pub and_then : Ch → Option (List Ch) → Option (List Ch)
and_then c none = none
and_then c (some cs) = some (c ∷ cs)

-- decodes the bytes to characters, the first of them at p
unfoldable pub decode : Pending → At → List ℕ → Option (List Ch)
unfolding lead
decode fresh p [] = some []
decode (within l m n lo hi) p [] = none
decode fresh p (b ∷ bs) =
    elim (lead b) [
      | single ↦ and_then (char_at p b []) (decode fresh (past p b []) bs)
      | with_more n lo hi ↦ decode (within b [] n lo hi) p bs
      | wrong ↦ none
    ]
decode (within l m n lo hi) p (b ∷ bs) =
    elim (leb lo b && leb b hi) [
      | true ↦ elim (leb n 1) [
        | true ↦ and_then (char_at p l (m ++ (b ∷ []))) (decode fresh (past p l (m ++ (b ∷ []))) bs)
        | false ↦ decode (within l (m ++ (b ∷ [])) (pred n) 0x80 0xBF) p bs
      ]
      | false ↦ none
    ]

-- the place of the first character
abbrev pub start : At
start = record { offset = 0; place = place_at 1 1 }

-- `add_locations`: the characters of a script with their places, if the script is UTF-8
unfoldable pub characters : List ℕ → Option (List Ch)
unfolding decode
characters bs = decode fresh start bs

abbrev pub is_some : {A : Type 0} → Option A → Bool
is_some none = false
is_some (some a) = true

unfoldable pub utf8 : List ℕ → Bool
unfolding characters
utf8 bs = is_some (characters bs)
