-- Misreadings of docs/FORMAT.md, each excluded by a law or by a small script. This module is checked before the other
-- proofs, so that it is the one that fails if a definition is misread. Assumes nothing.
use mathlib.Core.Path.{◌≡◌, refl, sym, subst}
use mathlib.Core.Bool.{true, false}
use mathlib.Core.List.{List, [], ◌∷◌, map}
use mathlib.Core.Option.{Option, none, some}
use Prim.Native.Nat.{ℕ}
use borrow.Author.Tests.{ne_eqb}
use Rattle.definition.specs.Ascii.{ascii}
use Rattle.definition.specs.Source.{Place, Ch, code, characters}
use Rattle.definition.specs.Kind as K
use Rattle.definition.specs.Tokenizer.{quoted, one_unknown, digits, zero_turn, token_text}
use Rattle.definition.specs.Fallible.{Err}
use Rattle.definition.specs.Act.{Items, Res, gives, refused}
use Rattle.definition.specs.Losses.{losses}
use Rattle.definition.specs.Parser.{parse_module}
use Rattle.definition.specs.Demand.{tokens_of_script}

-- an escape other than `r`, `n` and `t` is unknown, also a backslash or a quote
pub unknown_escape : (c : Ch) (cs : List Ch) → (c.byte ≡ 114 → ⊥) → (c.byte ≡ 110 → ⊥) → (c.byte ≡ 116 → ⊥)
    → quoted true (c ∷ cs) ≡ one_unknown (quoted false cs)
unfolding quoted
unknown_escape c cs r n t = rw (quoted, ne_eqb c.byte 114 r, ne_eqb c.byte 110 n, ne_eqb c.byte 116 t)

-- one leading zero is dropped, a second one is kept
pub second_zero : (p : Place) (c : Ch) (cs : List Ch) → c.byte ≡ 48
    → zero_turn p (c ∷ cs) ≡ token_text (digits 10 cs).rest K.Integer p (48 ∷ (digits 10 cs).text) 10
unfolding zero_turn digits
second_zero p c cs e =
    subst (λ (b : ℕ). zero_turn p (record { byte = b; more = c.more; offset = c.offset; place = c.place } ∷ cs) ≡ token_text
    (digits 10 cs).rest K.Integer p (48 ∷ (digits 10 cs).text) 10) (sym e) refl

-- a character of two bytes takes one column: in `"é"a` the `a` is at 1:4
pub columns : map (λ t. t.place.column) (tokens_of_script (34 ∷ 195 ∷ 169 ∷ 34 ∷ 97 ∷ [])) ≡ 1 ∷ 4 ∷ []
unfolding tokens_of_script
columns = refl

-- the examples of RFC 3629, 7, of one to four bytes: the mark of a first byte is no part of the number
abbrev codes : Option (List Ch) → List ℕ
codes none = []
codes (some cs) = map code cs

pub numbers : codes (characters (0x41 ∷ 0xE2 ∷ 0x89 ∷ 0xA2 ∷ 0xCE ∷ 0x91 ∷ 0xF0 ∷ 0xA3 ∷ 0x8E ∷ 0xB4 ∷ [])) ≡ 0x41 ∷ 0x2262 ∷ 0x391 ∷ 0x233B4 ∷ []
unfolding characters
numbers = refl

-- the columns of the reported errors
abbrev reported : Res Items → List ℕ
reported (gives i s) = map (λ e. e.place.column) i.errors
reported (refused n) = []

-- errors are not sorted by place: those of the body come before those of the parameters
pub unsorted : reported (parse_module [] (tokens_of_script (ascii "fn f(1:T){+;}"))) ≡ 11 ∷ 12 ∷ 6 ∷ []
unfolding tokens_of_script parse_module ascii
unsorted = refl

-- the numbers and columns of losses: white space that a Minus consumed is none, and they are placed at the dash and at
-- `asm`
abbrev numbered : List Err → List ℕ
numbered [] = []
numbered (e ∷ es) = e.number ∷ e.place.column ∷ numbered es

pub lost : numbered (losses (tokens_of_script (ascii "a - b -c asm {} asm{"))) ≡ 20 ∷ 7 ∷ 21 ∷ 17 ∷ []
unfolding tokens_of_script losses ascii
lost = refl
