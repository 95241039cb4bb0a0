-- The kind, base and text of a token that the tokenizer makes: the rules for its record that concern neither another
-- record nor its place. Assumes nothing.
use mathlib.Core.Path.{◌≡◌, refl, sym, ap₂, ◌∙◌}
use mathlib.Core.Bool.{Bool, true, false, ◌&&◌, ◌||◌}
use mathlib.Core.List.{List, [], ◌∷◌}
use Prim.Native.Nat.{ℕ, ◌≤◌, ◌<◌}
use native.Mathlib.Omega.{arith}
use borrow.Author.Tests.{ne_eqb, lt-ltb, eqb-true, ltb-true}
use lib.Dec.{eqb, ltb}
use lib.ListN.{length}
use Rattle.definition.specs.Choice.{pick}
use Rattle.definition.specs.Classes as C
use Rattle.definition.specs.Classes.{between}
use Rattle.definition.specs.Kind as K
use Rattle.definition.specs.Source.{Place, Ch, utf8}
use Rattle.definition.specs.Token.{Tok, tok, tok_losing}
use Rattle.definition.specs.Records.{has_text, can_lose, base_fits, all_digits, integer_text}
use Rattle.definition.specs.Tokenizer as Z
use Rattle.definition.specs.Tokenizer.{Class, Foreign, White, Comment, Pair, Symbol, Quote, Word, Dash, Zero, Digit, Unknown, digits, Span}
use Rattle.definition.proofs.Tests.{clash, both_true, parts_true, and_false, either_true, between_bounds, chosen, picked}
use Rattle.definition.proofs.Characters.{Utf8, utf8_none, utf8_byte, utf8_true}

-- a kind without text has an empty text
abbrev pub Textless : Tok → Type 0
Textless t = has_text t.kind ≡ false → t.text ≡ []

-- the rules for a record that concern kind, base and text
pub record Formed (t : Tok) : Type 0 where
  pub low : 1 ≤ t.kind
  pub high : t.kind ≤ 54
  pub base : base_fits t.kind t.base ≡ true
  pub textless : Textless t
  pub losing : can_lose t.kind ≡ false → t.lost ≡ false
  pub utf8 : utf8 t.text ≡ true
  pub integer : pick (eqb t.kind K.Integer) (integer_text t.base t.text) true ≡ true

-- ---- keywords and symbols

-- bytes that are the same are equal
pub same_is : (xs ys : List ℕ) → Z.same xs ys ≡ true → xs ≡ ys
unfolding Z.same
same_is [] [] e = refl
same_is [] (y ∷ ys) e = clash (sym e)
same_is (x ∷ xs) [] e = clash (sym e)
same_is (x ∷ xs) (y ∷ ys) e =
    parts_true (eqb x y) (Z.same xs ys) e λ p q. ap₂ ◌∷◌ (eqb-true x y p) (same_is xs ys q)

-- 0, or the kind of a keyword or symbol: 4 to 53
pub record Plain (k : ℕ) : Type 0 where
  pub plain : eqb k 0 || between 4 53 k ≡ true

pub plain_bounds : (k : ℕ) → Plain k → 0 < k → (4 ≤ k) × (k ≤ 53)
plain_bounds k p h = either_true (eqb k 0) (between 4 53 k) (λ e. absurd (omega (arith, eqb-true k 0 e))) (between_bounds 4 53 k) p.plain

plain_number : (k : ℕ) → eqb k 0 || between 4 53 k ≡ true → Plain k
plain_number k e = record { plain = e }

plain_pick : (b : Bool) (k r : ℕ) → Plain k → Plain r → Plain (pick b k r)
plain_pick b k r p q = picked Plain b k r (λ _. p) q

pub pair_plain : (c d : ℕ) → Plain (Z.pair c d)
unfolding Z.pair
pair_plain c d = search (plain_pick, plain_number) depth 60

pub symbol_plain : (c : ℕ) → Plain (Z.symbol c)
unfolding Z.symbol
symbol_plain c = search (plain_pick, plain_number) depth 60

pub keyword_plain : (w : List ℕ) → Plain (Z.keyword w)
unfolding Z.keyword
keyword_plain w = search (plain_pick, plain_number) depth 60

pub plain_textless : (k : ℕ) → Plain k → has_text k ≡ false
plain_textless k p =
    either_true (eqb k 0) (between 4 53 k) (λ e. rw (eqb-true k 0 e))
    (λ e. let b = between_bounds 4 53 k e in
    rw (
      ne_eqb k 1 (λ z. omega arith),
      ne_eqb k 2 (λ z. omega arith),
      ne_eqb k 3 (λ z. omega arith),
      ne_eqb k 54 (λ z. omega arith),
    ))
    p.plain

-- a token of a keyword or symbol is well formed
pub plain_formed : (k : ℕ) (p : Place) (l : Bool) → Plain k → 0 < k → (can_lose k ≡ false → l ≡ false) → Formed (tok_losing k p [] l)
plain_formed k p l f h q =
    let b : (4 ≤ k) × (k ≤ 53) = plain_bounds k f h in
    let e : eqb k 2 ≡ false = ne_eqb k 2 (λ z. omega arith) in
    record { low = omega arith; high = omega arith; base = rw e; textless = λ _. refl; losing = q; utf8 = utf8_true [] utf8_none; integer = rw e }

-- what the class of a character says of it and the next one
pub data Classed (c d : ℕ) : Class → Type 0 where
  is_foreign : Classed c d Foreign
  is_white : Classed c d White
  is_comment : Classed c d Comment
  is_pair : 0 < Z.pair c d → Classed c d Pair
  is_symbol : 0 < Z.symbol c → Classed c d Symbol
  is_quote : Classed c d Quote
  is_word : C.is_letter c ≡ true → Classed c d Word
  is_dash : Classed c d Dash
  is_zero : Classed c d Zero
  is_digit : C.is_digit c ≡ true → Classed c d Digit
  is_unknown : Classed c d Unknown

classed_pick : (c d : ℕ) (b : Bool) (x y : Class) → (b ≡ true → Classed c d x) → Classed c d y → Classed c d (pick b x y)
classed_pick c d b x y f m = picked (Classed c d) b x y f m

pub classed : (c d : ℕ) → Classed c d (Z.class c d)
unfolding Z.class
classed c d =
    search (
      classed_pick,
      is_foreign,
      is_white,
      is_comment,
      is_pair,
      is_symbol,
      is_quote,
      is_word,
      is_dash,
      is_zero,
      is_digit,
      is_unknown,
      ltb-true,
    ) depth 30

-- ---- texts

-- an identifier, a string or inline assembly
pub text_formed : (k : ℕ) (p : Place) (text : List ℕ) (l : Bool) → has_text k ≡ true → eqb k 2 ≡ false → 1 ≤ k → k ≤ 54
    → (can_lose k ≡ false → l ≡ false) → Utf8 text → Formed (tok_losing k p text l)
text_formed k p text l h e a b q u =
    record {
      low = a;
      high = b;
      base = rw e;
      textless = λ f. clash (sym h ∙ f);
      losing = q;
      utf8 = utf8_true text u;
      integer = rw e;
    }

-- the digits of any base are from `0` to 127
pub digit_bounds : (base d : ℕ) → C.is_digit_of base d ≡ true → (48 ≤ d) × (d < 128)
digit_bounds base d e = go (eqb base 2) (eqb base 10) e
  where
    within : (lo hi : ℕ) → 48 ≤ lo → hi < 128 → between lo hi d ≡ true → (48 ≤ d) × (d < 128)
    within lo hi l h e = omega (arith, between_bounds lo hi d e)

    decimal : C.is_digit d ≡ true → (48 ≤ d) × (d < 128)
    decimal e = within 48 57 (omega arith) (omega arith) e

    go : (x y : Bool) → pick x (C.is_binary d) (pick y (C.is_digit d) (C.is_hexadecimal d)) ≡ true → (48 ≤ d) × (d < 128)
    go true y e = within 48 49 (omega arith) (omega arith) e
    go false true e = decimal e
    go false false e =
        either_true _ _ (either_true _ _ decimal (within 65 70 (omega arith) (omega arith)))
        (within 97 102 (omega arith) (omega arith)) e

all_digits_utf8 : (base : ℕ) (ds : List ℕ) → all_digits base ds ≡ true → Utf8 ds
unfolding all_digits
all_digits_utf8 base [] e = utf8_none
all_digits_utf8 base (d ∷ ds) e =
    parts_true (C.is_digit_of base d) (all_digits base ds) e λ p q. utf8_byte d ds (digit_bounds base d p).1
    (all_digits_utf8 base ds q)

-- the text of an Integer: digits of its base, or a dash and digits of base 10
pub record Numeral (base : ℕ) (ds : List ℕ) : Type 0 where
  pub tested : integer_text base ds ≡ true
  pub utf8 : Utf8 ds

some_digits : (ds : List ℕ) → 0 < length ds → (b : Bool) → b ≡ true → ltb 0 (length ds) && b ≡ true
some_digits ds h b e = both_true (lt-ltb 0 (length ds) h) e

pub dash_numeral : (ds : List ℕ) → all_digits 10 ds ≡ true → 0 < length ds → Numeral 10 (45 ∷ ds)
dash_numeral ds e h =
    record {
      tested = some_digits ds h (all_digits 10 ds) e;
      utf8 = utf8_byte 45 ds (omega arith) (all_digits_utf8 10 ds e);
    }

pub numeral : (base : ℕ) (ds : List ℕ) → all_digits base ds ≡ true → 0 < length ds → Numeral base ds
unfolding all_digits
numeral base [] e h = absurd (omega arith)
numeral base (d ∷ ds) e h =
    record {
      tested = rw (and_false (eqb base 10) (eqb d 45)
          (ne_eqb d 45 (λ z. parts_true (C.is_digit_of base d) (all_digits base ds) e
          (λ p q. omega (arith, digit_bounds base d p))))) (some_digits (d ∷ ds) h (all_digits base (d ∷ ds)) e);
      utf8 = all_digits_utf8 base (d ∷ ds) e;
    }

-- no digits at all become `0`
pub or_zero_numeral : (base : ℕ) (ds : List ℕ) → C.is_digit_of base 48 ≡ true → all_digits base ds ≡ true → Numeral base (Z.or_zero ds)
unfolding all_digits
or_zero_numeral base [] z e = numeral base (48 ∷ []) (both_true z refl) (omega arith)
or_zero_numeral base (d ∷ ds) z e = numeral base (d ∷ ds) e (omega arith)

pub integer_formed : (base : ℕ) (p : Place) (ds : List ℕ) → base_fits 2 base ≡ true → Numeral base ds
    → Formed (tok K.Integer p ds base)
integer_formed base p ds b n =
    record {
      low = omega arith;
      high = omega arith;
      base = b;
      textless = λ f. clash f;
      losing = λ _. refl;
      utf8 = utf8_true ds n.utf8;
      integer = n.tested;
    }

pub digits_all : (base : ℕ) (cs : List Ch) → all_digits base (digits base cs).text ≡ true
unfolding digits all_digits
digits_all base [] = refl
digits_all base (c ∷ cs) =
    chosen (λ (s : Span). all_digits base s.text ≡ true) (C.is_digit_of base c.byte) _ _
    (λ e. both_true e (digits_all base cs)) (λ _. refl)

pub digit_first : (d : ℕ) (ds : List ℕ) → C.is_digit d ≡ true → all_digits 10 ds ≡ true → all_digits 10 (d ∷ ds) ≡ true
unfolding all_digits
digit_first d ds e a = both_true e a
