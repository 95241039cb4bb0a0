-- Laws of a choice by several tests in turn, and of the class of a character. Assumes nothing.
use mathlib.Core.Path.{◌≡◌, refl, sym, ap, ◌∙◌}
use mathlib.Core.Bool.{Bool, true, false, ◌&&◌, ◌||◌}
use mathlib.Core.Bool as B
use Prim.Native.Nat.{ℕ, ◌<◌, ◌≤◌}
use native.Mathlib.Omega.{arith}
use borrow.Author.Tests.{le-ltb, lt-leb, leb-true, ne_eqb}
use lib.Dec.{eqb, ltb, leb}
use Rattle.definition.specs.Ascii.{char}
use Rattle.definition.specs.Choice.{pick}
use Rattle.definition.specs.Classes.{is_foreign, is_white, is_letter, is_digit}
use Rattle.std.specs.Prelude.{Option, None, option_map}
use Rattle.definition.specs.Tokenizer as Z
use Rattle.definition.specs.Numbers.{kind_number}
use Rattle.definition.specs.declared.kind.Kind.{Kind}
use Rattle.definition.proofs.Tests.{clash, and_false, every, every_below}
use Rattle.classes.specs.Found.{nonzero}
use Rattle.classes.proofs.Found.{no_kind}

-- the test holds, or it does not: v is the test as the code computed it
pub yes : {A : Type 0} (t : Bool) {v : Bool} (a b : A) → v ≡ t → v ≡ true → a ≡ pick t a b
yes t a b e f = ap (λ (x : Bool). pick x a b) (sym f ∙ e)

pub no : {A : Type 0} (t : Bool) {v : Bool} (a b : A) {r : A} → v ≡ t → v ≡ false → r ≡ b → r ≡ pick t a b
no t a b e f g = g ∙ ap (λ (x : Bool). pick x a b) (sym f ∙ e)

pub is : {A : Type 0} (t : Bool) (a b : A) → t ≡ true → a ≡ pick t a b
is t a b e = yes t a b refl e

pub not : {A : Type 0} (t : Bool) (a b : A) {r : A} → t ≡ false → r ≡ b → r ≡ pick t a b
not t a b e g = no t a b refl e g

-- ---- the class of a character, test by test

-- the tests after that for letters
abbrev no_word : ℕ → Z.Class
no_word c = pick (eqb c (char "-")) Z.Dash (pick (eqb c (char "0")) Z.Zero (pick (is_digit c) Z.Digit Z.Unknown))

-- a character that is no letter, no white space and no symbol
abbrev pub alone : ℕ → Z.Class
alone c = pick (eqb c (char "\"")) Z.Quote (no_word c)

pub class_is : (c d : ℕ) → c < 256 →
    Z.class c d ≡
    pick (is_white c) Z.White (pick (eqb c (char "/") && eqb d (char "/")) Z.Comment
    (pick (ltb 0 (Z.pair c d)) Z.Pair (pick (ltb 0 (Z.symbol c)) Z.Symbol
    (pick (eqb c (char "\"")) Z.Quote (pick (is_letter c) Z.Word (no_word c))))))
unfolding Z.class
class_is c d l = rw (le-ltb 255 c (omega (arith, l))) refl

pub no_spelling : (n : ℕ) {o : Option Kind} → option_map kind_number o ≡ nonzero n → o ≡ None → ltb 0 n ≡ false
no_spelling n e h = ap (ltb 0) (no_kind n e h)

-- a character that is none of these has the class of the tests after them
pub no_symbol : (c d : ℕ) {v w x : Bool} {p y : Option Kind} {r : Z.Class} → c < 256 → v ≡ is_letter c → v ≡ false
    → w ≡ is_white c → w ≡ false → x ≡ (eqb c (char "/") && eqb d (char "/")) → x ≡ false
    → option_map kind_number p ≡ nonzero (Z.pair c d) → p ≡ None → option_map kind_number y ≡ nonzero (Z.symbol c) → y ≡ None
    → r ≡ alone c → r ≡ Z.class c d
no_symbol c d q a b e f o g i j k l m =
    rw (class_is c d q, sym e ∙ f, sym o ∙ g, no_spelling (Z.pair c d) i j, no_spelling (Z.symbol c) k l, sym a ∙ b) m

-- a character that is none of `"`, `-` and `0`: v is whether it is a digit, as the code computed it
module _ (c : ℕ) {v : Bool} (h : v ≡ is_digit c) (q : c ≡ 34 → ⊥) (d : c ≡ 45 → ⊥) (z : c ≡ 48 → ⊥) where
  pub digit_alone : v ≡ true → Z.Digit ≡ alone c
  digit_alone e = rw (ne_eqb c 34 q, ne_eqb c 45 d, ne_eqb c 48 z, sym h ∙ e)

  pub other_alone : v ≡ false → Z.Unknown ≡ alone c
  other_alone e = rw (ne_eqb c 34 q, ne_eqb c 45 d, ne_eqb c 48 z, sym h ∙ e)

-- a letter fails all tests before that for letters
letters_above : every (λ c. B.not (is_letter c) || leb 65 c) 256 ≡ true
letters_above = refl

module _ (c : ℕ) (q : c < 256) (h : is_letter c ≡ true) where
  other : (k : ℕ) → is_letter k ≡ false → eqb c k ≡ false
  other k e = ne_eqb c k (λ z. clash (sym h ∙ ap is_letter z ∙ e))

  low : 65 ≤ c
  low = leb-true 65 c (rw h at (every_below (λ c. B.not (is_letter c) || leb 65 c) 256 c letters_above q))

  pub letter_begins : (d : ℕ) → Z.Word ≡ Z.class c d
  unfolding Z.pair Z.symbol
  letter_begins d = rw (class_is c d q) (simp (lt-leb c 13 (omega (arith, low)), and_false, other, h))

pub foreign_begins : (c d : ℕ) → is_foreign c ≡ true → Z.Foreign ≡ Z.class c d
unfolding Z.class
foreign_begins c d h = rw h

pub white_begins : (c d : ℕ) → c < 256 → is_white c ≡ true → Z.White ≡ Z.class c d
white_begins c d q h = rw (class_is c d q, h)
