-- A token, and the value of an integer's text. Assumes nothing.
use Rattle.std.specs.Prelude.{Bool, true, false, List, [], ◌∷◌, ℕ, ◌+◌, ◌*◌, ◌-◌, eqb, leb}
use Rattle.definition.specs.Ascii.{char}
use Rattle.definition.specs.Source.{Place, nowhere}
use Rattle.definition.specs.Kind as K

-- `Token`: four kinds have a text, Integer has a base; else they are empty and 0. Beside the Rust's: whether a Minus or
-- assembly lost something
pub record Tok : Type 0 where
  pub kind : ℕ
  pub place : Place
  pub text : List ℕ
  pub base : ℕ
  pub lost : Bool

-- one that lost nothing, by kind, place, text and base
abbrev pub tok : ℕ → Place → List ℕ → ℕ → Tok
tok k p text base = record { kind = k; place = p; text = text; base = base; lost = false }

-- one of two kinds that can lose something, by kind, place, text and whether it did
abbrev pub tok_losing : ℕ → Place → List ℕ → Bool → Tok
tok_losing k p text l = record { kind = k; place = p; text = text; base = 0; lost = l }

-- what `peek` and `next` give if no token is left
abbrev pub end_token : Tok
end_token = tok K.End nowhere [] 0

infix 50 ◌is◌
abbrev pub ◌is◌ : Tok → ℕ → Bool
t is k = eqb t.kind k

abbrev pub next_token : List Tok → Tok
next_token [] = end_token
next_token (t ∷ ts) = t

abbrev pub tail : List Tok → List Tok
tail [] = []
tail (t ∷ ts) = ts

-- the value of a digit: 0 to 9, A to Z, a to z
abbrev pub digit : ℕ → ℕ
digit c = elim (leb c (char "9")) [ true ↦ c - char "0" | false ↦ elim (leb c (char "Z")) [ true ↦ c - 55 | false ↦ c - 87 ] ]

-- the value of digits in a base, where n is the value of the digits before them
unfoldable pub number : ℕ → ℕ → List ℕ → ℕ
number base n [] = n
number base n (c ∷ cs) = number base (n * base + digit c) cs

-- whether the text begins with a dash
abbrev pub dashed : List ℕ → Bool
dashed [] = false
dashed (c ∷ cs) = eqb c (char "-")
