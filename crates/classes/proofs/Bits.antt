-- The rule of the table of classes, and what its bits say. Assumes nothing.
use mathlib.Core.Path.{◌≡◌, refl, sym}
use mathlib.Core.Bool.{Bool, true, false, not}
use Prim.Native.Nat.{ℕ, ◌<◌}
use borrow.Author.Tests.{eqb-true}
use lib.Dec.{eqb}
use lib.ListN.{get_or}
use Rattle.definition.proofs.Tests.{every, every_below}
use Rattle.classes.specs.Bits.{one_byte, classes_of, has_any}
use Rattle.classes.specs.declared.character.TheConstants.{CLASSES, WHITE, LETTER, NUMERIC, BINARY, DECIMAL, HEXADECIMAL, BLANK, WORD_BYTE}
use Rattle.definition.specs.Classes.{is_white, is_digit, is_letter, is_word, is_binary, is_hexadecimal}
use Rattle.std.specs.Int.RustNames.{bit_or}

abbrev same : Bool → Bool → Bool
same true b = b
same false b = not b

same_is : (a b : Bool) → same a b ≡ true → a ≡ b
same_is true b e = sym e
same_is false true e = e
same_is false false e = refl

-- the rule of the table: each entry names exactly the classes of its character
abbrev names_its_classes : ℕ → Bool
names_its_classes c = eqb (get_or CLASSES c 0) (classes_of c)

all_name : every names_its_classes 256 ≡ true
all_name = refl

pub entry_names : (c : ℕ) → c < 256 → get_or CLASSES c 0 ≡ classes_of c
entry_names c h = eqb-true _ _ (every_below names_its_classes 256 c all_name h)

-- ---- predicates

-- an answer of the table is that of a predicate, if it is for each character
told : (some : ℕ) (p : ℕ → Bool) → every (λ c. same (has_any some c) (p c)) 256 ≡ true → (c : ℕ) → c < 256
    → has_any some c ≡ p c
told some p t c h = same_is (has_any some c) (p c) (every_below (λ c. same (has_any some c) (p c)) 256 c t h)

module _ (c : ℕ) (h : c < 256) where
  pub white_told : has_any WHITE c ≡ is_white c
  white_told = told WHITE is_white refl c h

  pub letter_told : has_any LETTER c ≡ is_letter c
  letter_told = told LETTER is_letter refl c h

  pub word_told : has_any (bit_or LETTER NUMERIC) c ≡ is_word c
  word_told = told (bit_or LETTER NUMERIC) is_word refl c h

  pub binary_told : has_any BINARY c ≡ is_binary c
  binary_told = told BINARY is_binary refl c h

  pub digit_told : has_any DECIMAL c ≡ is_digit c
  digit_told = told DECIMAL is_digit refl c h

  pub hexadecimal_told : has_any HEXADECIMAL c ≡ is_hexadecimal c
  hexadecimal_told = told HEXADECIMAL is_hexadecimal refl c h

  pub blank_told : has_any BLANK c ≡ one_byte is_white c
  blank_told = told BLANK (one_byte is_white) refl c h

  pub word_byte_told : has_any WORD_BYTE c ≡ one_byte is_word c
  word_byte_told = told WORD_BYTE (one_byte is_word) refl c h
