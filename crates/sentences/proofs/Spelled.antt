-- The spelling of a token: names, escapes, texts. Assumes nothing.
use mathlib.Core.Path.{◌≡◌, refl, sym, ap, ◌∙◌}
use mathlib.Core.Bool.{Bool, true, false}
use mathlib.Core.List.{List, [], ◌∷◌, ◌++◌, map, append_assoc, append-nil}
use mathlib.Core.Option.{Option, none, some}
use Prim.Native.Nat.{ℕ, zero, suc, ◌≤◌, ◌<◌}
use Prim.Native.String.{String}
use native.Mathlib.Omega.{arith}
use borrow.Author.Tests.{eq-eqb, ne_eqb}
use lib.Dec.{eqb, ltb}
use lib.ListN.{get_or}
use Rattle.std.proofs.lemmas.Bool.Decides.{nat_tests}
use Rattle.std.specs.Borrow.{Bor}
use Rattle.std.specs.List.{flat_map}
use Rattle.std.specs.Str.{IsUtf8, chars}
use Rattle.std.specs.Prelude as L
use Rattle.std.specs.Option.{SomeIff, unwrap_or}
use Rattle.std.specs.Char as C
use Rattle.definition.specs.Ascii.{ascii, char}
use Rattle.definition.specs.Choice.{first}
use Rattle.definition.specs.Classes.{between}
use Rattle.definition.specs.Kind as K
use Rattle.definition.specs.Source.{Ch, code, characters, is_some, utf8}
use Rattle.definition.specs.Records.{has_text}
use Rattle.definition.specs.Sentence.{digit_char, kind_name, in_base, escaped, escaped_all, in_quotes, base_part, in_parentheses, spelled}
use Rattle.sentences.specs.Spelling.{entry}
use Rattle.source.proofs.Utf8.{utf8_true, utf8_false, same_chars}

-- ---- names

-- an entry of a table, where `d` is empty
pub entry_or : (ts : List (Bor (List ℕ))) (i : ℕ) (d : Bor (List ℕ)) → d.now ≡ [] → (get_or ts i d).now ≡ entry ts i
unfolding entry
entry_or [] i d e = e
entry_or (t ∷ ts) zero d e = refl
entry_or (t ∷ ts) (suc i) d e = entry_or ts i d e

-- it is the definition's, where the tables are the same
pub entry_same : (ts : List (Bor (List ℕ))) (ys : List String) → map (λ (t : Bor (List ℕ)). t.now) ts ≡ map ascii ys
    → (i : ℕ) → entry ts i ≡ ascii (get_or ys i "")
unfolding entry ascii
entry_same [] [] m i = refl
entry_same [] (y ∷ ys) m i = absurd (cc m)
entry_same (t ∷ ts) [] m i = absurd (cc m)
entry_same (t ∷ ts) (y ∷ ys) m zero = cc m
entry_same (t ∷ ts) (y ∷ ys) m (suc i) = entry_same ts ys (cc m) i

-- ---- characters

no_true : false ≡ true → ⊥
no_true e = cc

-- a character that no other form has
module _ (n : ℕ) where
  number_form : eqb n 34 ≡ false → eqb n 92 ≡ false → eqb n 10 ≡ false → eqb n 13 ≡ false → eqb n 9 ≡ false → between 32 126 n ≡ false
      → ascii "\\u{" ++ in_base 16 n ++ ascii "}" ≡ escaped n
  unfolding escaped first
  number_form a b c d e f = rw (escaped, first, a, b, c, d, e, f)

  pub escaped_low : n < 32 → (n ≡ 10 → ⊥) → (n ≡ 13 → ⊥) → (n ≡ 9 → ⊥) → ascii "\\u{" ++ in_base 16 n ++ ascii "}" ≡ escaped n
  escaped_low h a b c =
      number_form (ne_eqb n 34 (λ e. omega arith)) (ne_eqb n 92 (λ e. omega arith)) (ne_eqb n 10 a) (ne_eqb n 13 b) (ne_eqb n 9 c) (grind (arith, nat_tests))

  pub escaped_high : 127 ≤ n → ascii "\\u{" ++ in_base 16 n ++ ascii "}" ≡ escaped n
  escaped_high h =
      number_form (ne_eqb n 34 (λ e. omega arith)) (ne_eqb n 92 (λ e. omega arith)) (ne_eqb n 10 (λ e. omega arith)) (ne_eqb n 13 (λ e. omega arith))
      (ne_eqb n 9 (λ e. omega arith)) (grind (arith, nat_tests))

escaped_each : (cs : List Ch) → escaped_all cs ≡ flat_map escaped (map code cs)
unfolding escaped_all
escaped_each [] = refl
escaped_each (c ∷ cs) = ap (λ (x : List ℕ). escaped (code c) ++ x) (escaped_each cs)

pub quoted : (bs : List ℕ) → IsUtf8 bs → (char "\"" ∷ []) ++ (flat_map escaped (chars bs) ++ (char "\"" ∷ [])) ≡ in_quotes bs
unfolding in_quotes ascii utf8
quoted bs h = go (characters bs) refl (utf8_true bs h)
  where
    go : (o : Option (List Ch)) → characters bs ≡ o → is_some (characters bs) ≡ true
        → (char "\"" ∷ []) ++ (flat_map escaped (chars bs) ++ (char "\"" ∷ [])) ≡ in_quotes bs
    go none e t = absurd (no_true (sym (ap is_some e) ∙ t))
    go (some cs) e t = rw (in_quotes, e, same_chars bs cs e, escaped_each cs)

pub unquoted : (bs : List ℕ) → (IsUtf8 bs → ⊥) → [] ≡ in_quotes bs
unfolding in_quotes utf8
unquoted bs h = go (characters bs) refl (utf8_false bs h)
  where
    go : (o : Option (List Ch)) → characters bs ≡ o → is_some (characters bs) ≡ false → [] ≡ in_quotes bs
    go none e t = rw (in_quotes, e)
    go (some cs) e t = absurd (no_true (sym t ∙ ap is_some e))

-- ---- the token

-- the base of an Integer
module _ {k : ℕ} (base : ℕ) where
  pub base_integer : k ≡ K.Integer → ascii ", " ++ in_base 10 base ≡ base_part k base
  unfolding base_part
  base_integer e = rw (base_part, eq-eqb k K.Integer e)

  pub base_none : (k ≡ K.Integer → ⊥) → [] ≡ base_part k base
  unfolding base_part
  base_none e = rw (base_part, ne_eqb k K.Integer e)

-- a kind with a text, and one without
module _ (k : ℕ) (text : List ℕ) (base : ℕ) where
  pub spelled_text : has_text k ≡ true
      → kind_name k ++ ((char "(" ∷ []) ++ (in_quotes text ++ (base_part k base ++ (char ")" ∷ [])))) ≡ spelled k text base
  unfolding in_parentheses ascii
  spelled_text h = rw (in_parentheses, h) (simp append_assoc)

  pub spelled_plain : has_text k ≡ false → kind_name k ≡ spelled k text base
  unfolding in_parentheses
  spelled_plain h = rw (in_parentheses, h) (sym (append-nil (kind_name k)))

-- ---- digits

-- the library's digit is the definition's
pub hex_digit : (r : L.Option ℕ) (d : ℕ) → d < 16 → SomeIff r (d < 16) (C.digit_char d) → unwrap_or r 48 ≡ digit_char d
hex_digit L.None d h s = absurd (s h)
hex_digit (L.Some x) d h s = s.1 ∙ go (ltb d 10) refl
  where
    go : (b : Bool) → ltb d 10 ≡ b → C.digit_char d ≡ digit_char d
    go true e = rw e refl
    go false e = rw e (grind (arith, nat_tests))
