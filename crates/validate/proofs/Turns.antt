-- The laws of the tests of single records, and of all together. Assumes nothing.
use mathlib.Core.Path.{◌≡◌, refl, sym, ap, ap₂, ◌∙◌}
use mathlib.Core.Bool.{Bool, true, false, ◌&&◌, ◌||◌}
use mathlib.Core.List.{List, []}
use mathlib.Core.Logic.{◌⊎◌, ⊎_elim}
use mathlib.Core.Option.{Option, none, some}
use Prim.Native.Nat.{ℕ, zero, suc, ◌+◌, ◌-◌, ◌*◌, ◌/◌, ◌<◌, ◌≤◌}
use native.Mathlib.Numerals.{add-one}
use native.Mathlib.Omega.{arith}
use borrow.Author.Tests.{ltb-true, ltb-false, le-leb, lt-leb}
use lib.Dec.{leb, ltb}
use lib.ListN.{length, get_or}
use Rattle.std.specs.Bool.{MatchBool}
use Rattle.std.specs.List.{AllWithin, HoldsAt}
use Rattle.std.specs.Simd.{first_chunks}
use Rattle.definition.specs.Fallible.{Err}
use Rattle.definition.specs.Source.{Place, nowhere, is_some}
use Rattle.definition.specs.Token.{Tok}
use Rattle.definition.specs.Records as R
use Rattle.definition.specs.Records.{TokenWords, words_at, valid_alone, valid_after, text_end, token_of, token_before, tokens_of, error_at, valid_error, error_of, error_before, errors_of}
use Rattle.definition.specs.Operations.{both, validate}
use Rattle.definition.proofs.Tests.{clash, and_false}
use Rattle.definition.specs.Places.{place_of}
use Rattle.token_records.proofs.Chunks.{chunks_length, chunk_words, chunk_error}
use Rattle.validate.specs.declared.Previous.{Previous}

-- a value that is present if a test holds
some_chosen : {A : Type 0} (b : Bool) (o : Option A)
    → is_some {A = A} (elim b as (λ _. Option A) [ true ↦ o | false ↦ none ]) ≡ b && is_some o
some_chosen true o = refl
some_chosen false o = refl

-- ---- token records

abbrev tokens_before : (t : Tok) (o : Option (List Tok)) → is_some (token_before t o) ≡ is_some o
tokens_before t none = refl
tokens_before t (some ts) = refl

-- the test of one record, then that of those after it
token_turn : (T X : List ℕ) (p : Place) (e i m : ℕ)
    → is_some (tokens_of T X p e i (suc m))
    ≡ (valid_alone X (words_at T i) && valid_after p e (words_at T i))
    && is_some (tokens_of T X (R.place_of (words_at T i)) (text_end e (words_at T i)) (suc i) m)
unfolding tokens_of
token_turn T X p e i m =
    some_chosen (valid_alone X v && valid_after p e v) _
    ∙ ap (λ (b : Bool). (valid_alone X v && valid_after p e v) && b)
    (tokens_before (token_of X v) (tokens_of T X (R.place_of v) (text_end e v) (suc i) m))
  where
    v : TokenWords
    v = words_at T i

-- the invariant: all n are valid if and only if those from index i on are
pub record Tokens (T X : List ℕ) (n : ℕ) (f : Previous) (i : ℕ) : Type 0 where
  pub high : i ≤ n
  pub is : is_some (tokens_of T X (place_of f.place) f.end i (n - i)) ≡ is_some (tokens_of T X nowhere 0 0 n)

module _ {T X : List ℕ} {n : ℕ} {f : Previous} {i : ℕ} (q : Tokens T X n f i) {cs : List (List ℕ)} (e : cs ≡ first_chunks 8 n T) where
  module _ (h : i < length cs) where
    -- the record at index i
    abbrev v : TokenWords
    v = words_at (get_or cs i []) 0

    below : i < n
    below = omega (arith, h, ap length e, chunks_length 8 n T)

    here : v ≡ words_at T i
    here = ap (λ (x : List (List ℕ)). words_at (get_or x i []) 0) e ∙ chunk_words T n i [] below

    turn_at : {w : TokenWords} → w ≡ words_at T i → (a b : Bool) → valid_alone X w ≡ a → valid_after (place_of f.place) f.end w ≡ b
        → (a && b) && is_some (tokens_of T X (R.place_of w) (text_end f.end w) (i + 1) (n - (i + 1)))
        ≡ is_some (tokens_of T X nowhere 0 0 n)
    turn_at z a b g k =
        let l : suc (n - (i + 1)) ≡ n - i = omega (arith, below) in
        rw (add-one i, sym g, sym k, z) (sym (token_turn T X (place_of f.place) f.end i (n - suc i)))
        ∙ ap (λ (m : ℕ). is_some (tokens_of T X (place_of f.place) f.end i m)) (rw add-one at l) ∙ q.is

    turn : (a b : Bool) → valid_alone X v ≡ a → valid_after (place_of f.place) f.end v ≡ b
        → (a && b) && is_some (tokens_of T X (R.place_of v) (text_end f.end v) (i + 1) (n - (i + 1)))
        ≡ is_some (tokens_of T X nowhere 0 0 n)
    turn = turn_at here

    -- the record is not valid; it is, and its token does not follow, or does
    pub token_bad : valid_alone X v ≡ false → false ≡ is_some (tokens_of T X nowhere 0 0 n)
    token_bad g = turn false _ g refl

    module _ {w : TokenWords} {b : Bool} (g : (valid_alone X v ≡ true) × (w ≡ v)) (k : b ≡ valid_after (place_of f.place) f.end w) where
      after : (t : Bool) → b ≡ t → valid_after (place_of f.place) f.end v ≡ t
      after t z = ap (valid_after (place_of f.place) f.end) (sym g.1) ∙ sym k ∙ z

      pub token_early : b ≡ false → false ≡ is_some (tokens_of T X nowhere 0 0 n)
      token_early z = turn true false g.0 (after false z)

      pub token_more : {r : Previous} → b ≡ true → (place_of r.place ≡ R.place_of w) × (r.end ≡ text_end f.end w)
          → Tokens T X n r (i + 1)
      token_more z m =
          record {
            high = omega (arith, below);
            is = ap₂ (λ (p : Place) (e : ℕ). is_some (tokens_of T X p e (i + 1) (n - (i + 1))))
                (m.0 ∙ ap R.place_of g.1) (m.1 ∙ ap (text_end f.end) g.1) ∙ turn true true g.0 (after true z);
          }

  pub tokens_end : length cs ≤ i → true ≡ is_some (tokens_of T X nowhere 0 0 n)
  unfolding tokens_of
  tokens_end h = let l : n - i ≡ 0 = omega (arith, ap length e, chunks_length 8 n T) in rw l at q.is

-- ---- error records

abbrev errors_before : (x : Err) (o : Option (List Err)) → is_some (error_before x o) ≡ is_some o
errors_before x none = refl
errors_before x (some es) = refl

error_turn : (E : List ℕ) (i m : ℕ) → is_some (errors_of E i (suc m)) ≡ valid_error (error_at E i) && is_some (errors_of E (suc i) m)
unfolding errors_of
error_turn E i m =
    some_chosen (valid_error (error_at E i)) _
    ∙ ap (λ (b : Bool). valid_error (error_at E i) && b)
    (errors_before (error_of (error_at E i)) (errors_of E (suc i) m))

module _ (E : List ℕ) where
  errors_good : (m i : ℕ) → ((j : ℕ) → i ≤ j → j < i + m → valid_error (error_at E j) ≡ true) → is_some (errors_of E i m) ≡ true
  unfolding errors_of
  errors_good zero i h = refl
  errors_good (suc m) i h =
      error_turn E i m ∙ rw (h i (omega arith) (omega arith)) (errors_good m (suc i) (λ j a b. h j (omega arith) (omega arith)))

  error_bad : (m i k j : ℕ) → j ≡ i + k → k < m → valid_error (error_at E j) ≡ false → is_some (errors_of E i m) ≡ false
  error_bad zero i k j e l h = absurd (omega arith)
  error_bad (suc m) i zero j e l h =
      let z : i ≡ j = omega arith in
      error_turn E i m ∙ ap (λ (b : Bool). b && is_some (errors_of E (suc i) m)) (ap (λ (x : ℕ). valid_error (error_at E x)) z ∙ h)
  error_bad (suc m) i (suc k) j e l h =
      error_turn E i m ∙ ap (λ (b : Bool). valid_error (error_at E i) && b) (error_bad m (suc i) k j (omega arith) (omega arith) h)
      ∙ and_false _ false refl

  -- what a test of each record says
  pub errors_tested : (r : Bool) (n : ℕ) {cs : List (List ℕ)} → cs ≡ first_chunks 4 n E
      → MatchBool r (AllWithin (λ x. valid_error (error_at x 0) ≡ true) cs 0 (length cs))
      ((k : ℕ) × (k < length cs) × HoldsAt (λ x. valid_error (error_at x 0) ≡ false) cs k)
      → r ≡ is_some (errors_of E 0 n)
  errors_tested true n {cs} e h =
      sym (errors_good n 0 (λ j a b. sym (ap valid_error (here j (omega arith))) ∙ h j [] (omega arith) (omega (arith, ap length e, chunks_length 4 n E))))
    where
      here : (j : ℕ) → j < n → error_at (get_or cs j []) 0 ≡ error_at E j
      here j l = ap (λ (x : List (List ℕ)). error_at (get_or x j []) 0) e ∙ chunk_error E n j [] l
  errors_tested false n {cs} e h =
      let l : h.0 < n = omega (arith, h.1, ap length e, chunks_length 4 n E) in
      let z = ap (λ (x : List (List ℕ)). error_at (get_or x h.0 []) 0) e ∙ chunk_error E n h.0 [] l in
      sym (error_bad n 0 h.0 h.0 (omega arith) l (sym (ap valid_error z) ∙ h.2 []))

-- ---- all records together

-- neither bound is exceeded
pub within : (a b c d : ℕ) → (ltb a b || ltb c d) ≡ false → (b ≤ a) × (d ≤ c)
within a b c d e = go (ltb a b) (ltb c d) refl refl e
  where
    go : (s t : Bool) → ltb a b ≡ s → ltb c d ≡ t → (s || t) ≡ false → (b ≤ a) × (d ≤ c)
    go true t p q e = clash e
    go false true p q e = clash e
    go false false p q e = (ltb-false a b p, ltb-false c d q)

-- a count that is no part of a slice of k records
pub beyond : {n k l : ℕ} → (n < 0) ⊎ (l < n) → l ≡ k → k < n
beyond h e = ⊎_elim (λ (x : _ < 0). absurd (omega arith)) (λ x. omega arith) h

module _ (T : List ℕ) (n : ℕ) (E : List ℕ) (m : ℕ) (X : List ℕ) where
  abbrev each : Bool
  each = is_some (tokens_of T X nowhere 0 0 n) && is_some (errors_of E 0 m)

  validated_is : (a b c d : Bool) → leb n 2048 ≡ a → leb m 255 ≡ b → leb (8 * n) (length T) ≡ c → leb (4 * m) (length E) ≡ d
      → is_some (validate T n E m X) ≡ (a && b && c && d) && each
  unfolding validate
  validated_is a b c d e f g h =
      some_chosen (leb n 2048 && leb m 255 && leb (8 * n) (length T) && leb (4 * m) (length E)) _
      ∙ rw (e, f, g, h) (ap (λ (r : Bool). (a && b && c && d) && r) (pair (tokens_of T X nowhere 0 0 n) (errors_of E 0 m)))
    where
      pair : (ts : Option (List Tok)) (es : Option (List Err)) → is_some (both ts es) ≡ is_some ts && is_some es
      pair none es = refl
      pair (some ts) none = refl
      pair (some ts) (some es) = refl

  pub too_many : (ltb 2048 n || ltb 255 m) ≡ true → false ≡ is_some (validate T n E m X)
  too_many e = go (ltb 2048 n) (ltb 255 m) refl refl e
    where
      go : (s t : Bool) → ltb 2048 n ≡ s → ltb 255 m ≡ t → (s || t) ≡ true → false ≡ is_some (validate T n E m X)
      go true t p q f = sym (validated_is false _ _ _ (lt-leb n 2048 (ltb-true 2048 n p)) refl refl refl)
      go false true p q f = sym (validated_is true false _ _ (le-leb n 2048 (ltb-false 2048 n p)) (lt-leb m 255 (ltb-true 255 m q)) refl refl)
      go false false p q f = clash (sym f)

  module _ (e : (ltb 2048 n || ltb 255 m) ≡ false) where
    few_tokens : leb n 2048 ≡ true
    few_tokens = le-leb _ _ (within 2048 n 255 m e).0

    few_errors : leb m 255 ≡ true
    few_errors = le-leb _ _ (within 2048 n 255 m e).1

    -- a slice has fewer records than its count
    pub short_tokens : length T / 8 < n → false ≡ is_some (validate T n E m X)
    short_tokens h = sym (validated_is true true false _ few_tokens few_errors (lt-leb (8 * n) (length T) (omega arith)) refl)

    module _ (h : n ≤ length T / 8) where
      enough_tokens : leb (8 * n) (length T) ≡ true
      enough_tokens = le-leb _ _ (omega arith)

      pub short_errors : length E / 4 < m → false ≡ is_some (validate T n E m X)
      short_errors k =
          sym (validated_is true true true false few_tokens few_errors enough_tokens (lt-leb (4 * m) (length E) (omega arith)))

      pub both_tested : {a b : Bool} → m ≤ length E / 4 → a ≡ is_some (tokens_of T X nowhere 0 0 n)
          → b ≡ is_some (errors_of E 0 m) → (a && b) ≡ is_some (validate T n E m X)
      both_tested k f g =
          rw (f, g) (sym (validated_is true true true true few_tokens few_errors enough_tokens (le-leb (4 * m) (length E) (omega arith))))
