-- The characters from a cursor on. Assumes nothing.
use Rattle.std.specs.Prelude.{◌≡◌, true, false, Result, MatchResult, List, [], ◌∷◌, ℕ, ◌+◌, ◌<◌, ◌≤◌, length, get_or, take, drop}
use Rattle.std.proofs.Math.Option.{Option, none, some}
use Rattle.definition.specs.Source.{Place, At, Ch, Lead, single, with_more, wrong, lead, decode, fresh, characters, code}
use Rattle.definition.specs.Classes.{is_foreign}
use Rattle.definition.specs.declared.place.Place as D
use Rattle.definition.specs.declared.refusal.Refusal.{Refusal}
use Rattle.source.specs.declared.Cursor.{Cursor}

-- ---- places

-- how many bytes of a character follow its first
abbrev pub more : Lead → ℕ
more single = 0
more (with_more n lo hi) = n
more wrong = 0

abbrev pub placed : Cursor → Place
placed c = record { line = c.line; column = c.column }

-- the same place as the code has it
abbrev pub PlaceOf : Cursor → D.Place → Type 0
PlaceOf c p = p ≡ record { line = c.line; column = c.column }

-- where the character at the cursor stands
abbrev pub at_of : Cursor → At
at_of c = record { offset = c.at; place = placed c }

abbrev pub or_none : Option (List Ch) → List Ch
or_none none = []
or_none (some cs) = cs

-- the characters from the cursor on
unfoldable pub rest : List ℕ → Cursor → List Ch
unfolding decode
rest s c = or_none (decode fresh (at_of c) (drop c.at s))

pub record Stands (s : List ℕ) (c : Cursor) : Type 0 where
  pub is : decode fresh (at_of c) (drop c.at s) ≡ some (rest s c)
  pub inside : c.at ≤ length s
  pub lined : c.line ≤ c.at + 1
  pub columned : c.column ≤ c.at + 1

-- the character at the cursor
abbrev pub char : List ℕ → Cursor → Ch
char s c = record { byte = get_or s c.at 0; more = take (more (lead (get_or s c.at 0))) (drop (c.at + 1) s); offset = c.at; place = placed c }

pub record Stepped (s : List ℕ) (c r : Cursor) : Type 0 where
  pub chars : rest s c ≡ char s c ∷ rest s r
  pub stands : Stands s r
  pub wide : r.at ≡ more (lead (get_or s c.at 0)) + 1 + c.at

-- at the cursor is a character, and no newline
pub record InLine (s : List ℕ) (c : Cursor) : Type 0 where
  pub stands : Stands s c
  pub inside : c.at < length s
  pub no_newline : get_or s c.at 0 ≡ 10 → ⊥

-- the number of the character at the cursor, or the refusal of a foreign one
abbrev pub CodeAt : List ℕ → Cursor → Result ℕ Refusal → Type 0
CodeAt s c r =
    MatchResult r (λ n. (n ≡ code (char s c)) × (is_foreign (code (char s c)) ≡ false))
    (λ x. (x ≡ Refusal.ForeignCharacter) × (is_foreign (code (char s c)) ≡ true))

-- the cursor after n characters of one byte that are no newlines
abbrev pub along_line : Cursor → ℕ → Cursor
along_line c n = record { at = c.at + n; line = c.line; column = c.column + n }

-- the cursor at the start of a script
abbrev pub origin : Cursor
origin = record { at = 0; line = 1; column = 1 }

-- ---- the first tests

-- a refusal that is due: the script is too long, or it is no UTF-8
pub data Unfit (s : List ℕ) : Refusal → Type 0 where
  too_long : 16384 < length s → Unfit s Refusal.ScriptLength
  not_text : length s ≤ 16384 → characters s ≡ none → Unfit s Refusal.NotUtf8

abbrev pub Admits : {A : Type 0} → List ℕ → Result A Refusal → Type 0
Admits s r = MatchResult r (λ u. Stands s origin × (length s ≤ 16384)) (Unfit s)
