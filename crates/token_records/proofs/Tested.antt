-- The laws of the validation of a token record, and of `token_text`. Assumes nothing.
use mathlib.Core.Path.{◌≡◌, refl, sym, ap, ap₂, ◌∙◌}
use mathlib.Core.Bool.{Bool, true, false, not, ◌&&◌, and_assoc}
use mathlib.Core.List.{List, [], ◌∷◌}
use Prim.Native.Nat.{ℕ, zero, suc, ◌+◌, ◌-◌, ◌*◌, ◌/◌, ◌<◌, ◌≤◌}
use native.Mathlib.Omega.{arith}
use borrow.Author.Tests.{leb-true, eqb-true, lt-ltb, le-leb, lt-leb, ne_eqb}
use lib.Dec.{eqb, leb}
use lib.ListN.{length, get_or, take, drop}
use Rattle.std.specs.Bool.{MatchBool}
use Rattle.std.specs.Simd.{first_chunks}
use Rattle.token_records.proofs.Chunks.{chunk_words}
use Rattle.std.specs.List.{AllWithin, HoldsAt}
use Rattle.definition.specs.Choice.{pick}
use Rattle.definition.specs.Classes as C
use Rattle.definition.specs.Records as R
use Rattle.definition.specs.Records.{TokenWords, all_digits, some_digits, base_fits, can_lose, has_text, valid_alone, words_at, part, text_of}
use Rattle.definition.proofs.Tests.{clash, left_true, right_true, and_false}
use Rattle.definition.proofs.Validated.{fits}
use Rattle.token_records.specs.Tested.{text_fits}

and_none : (t : Bool) → t && false ≡ false
and_none t = and_false t false refl

-- ---- digits

-- what a test of each byte says
abbrev Tested : Bool → ℕ → List ℕ → Type 0
Tested r base ds =
    MatchBool r (AllWithin (λ b. C.is_digit_of base b ≡ true) ds 0 (length ds))
    ((k : ℕ) × (k < length ds) × HoldsAt (λ b. C.is_digit_of base b ≡ false) ds k)

each_digit : (base : ℕ) (ds : List ℕ) → ((k : ℕ) → k < length ds → C.is_digit_of base (get_or ds k 0) ≡ true) → all_digits base ds ≡ true
unfolding all_digits
each_digit base [] h = refl
each_digit base (d ∷ ds) h = rw (h 0 (omega arith), each_digit base ds (λ k l. h (suc k) (omega arith)))

other_digit : (base : ℕ) (ds : List ℕ) (k : ℕ) → k < length ds → C.is_digit_of base (get_or ds k 0) ≡ false → all_digits base ds ≡ false
unfolding all_digits
other_digit base [] k l h = absurd (omega arith)
other_digit base (d ∷ ds) zero l h = rw h
other_digit base (d ∷ ds) (suc k) l h = rw (other_digit base ds k (omega arith) h) (and_none _)

pub digits_tested : (r : Bool) (base : ℕ) (ds : List ℕ) → (length ds ≡ 0 → ⊥) → Tested r base ds → r ≡ some_digits base ds
digits_tested true base ds n h = rw (lt-ltb 0 (length ds) (omega arith), each_digit base ds (λ k l. h k 0 (omega arith) l))
digits_tested false base ds n h = rw (lt-ltb 0 (length ds) (omega arith), other_digit base ds h.0 h.1 (h.2 0))

-- ---- a record

-- the number of a kind that is not the end's
real : (k : ℕ) {n : Bool} → k ≤ 54 → n ≡ not (eqb k 0) → n ≡ C.between 1 54 k
real zero h i = i
real (suc k) h i = i ∙ rw (ne_eqb (suc k) 0 (λ e. omega arith), le-leb 1 (suc k) (omega arith), le-leb (suc k) 54 h)

-- the words of the token that the code makes
abbrev with_words : TokenWords → ℕ → ℕ → ℕ → TokenWords
with_words w k seventh eighth = record { kind = k; line = w.line; column = w.column; start = w.start; size = w.size; base = w.base; seventh = seventh; eighth = eighth }

abbrev words : TokenWords → ℕ → TokenWords
words w k = with_words w k (pick (eqb w.seventh 1) 1 0) 0

-- a seventh word that fits is that of the token
seventh_back : (n : ℕ) (b : Bool) → leb n (pick b 1 0) ≡ true → pick (eqb n 1) 1 0 ≡ n
seventh_back zero b e = refl
seventh_back (suc zero) b e = refl
seventh_back (suc (suc n)) true e = absurd (omega (arith, leb-true _ _ e))
seventh_back (suc (suc n)) false e = absurd (omega (arith, leb-true _ _ e))

-- the tests of the code, where a kind has the number of the record's
module _ (text : List ℕ) (w : TokenWords) {k : ℕ} (e : k ≡ w.kind) (h : w.kind ≤ 54) {n v b l x : Bool} (i : n ≡ not (eqb k 0))
    (p : v ≡ (C.between 1 16384 w.line && C.between 1 16384 w.column)) (q : b ≡ base_fits k w.base)
    (o : l ≡ leb w.seventh (pick (can_lose k) 1 0)) where
  module _ (r : x ≡ text_fits text (words w k)) where
    valid_is : (n && v && b && l && eqb w.eighth 0 && x) ≡ valid_alone text w
    unfolding valid_alone
    valid_is = rw (real k (omega arith) i, p, q, o, r, e) (simp and_assoc)

    pub valid_true : (n && v && b && l && eqb w.eighth 0 && x) ≡ true → (valid_alone text w ≡ true) × (words w k ≡ w)
    valid_true t =
        let f = left_true (n && v && b && l && eqb w.eighth 0) x t in
        let y = eqb-true _ _ (right_true (n && v && b && l) (eqb w.eighth 0) f) in
        let z = seventh_back _ _ (sym o ∙ right_true (n && v && b) l (left_true (n && v && b && l) (eqb w.eighth 0) f)) in
        (sym valid_is ∙ t, ap (words w) e ∙ ap₂ (with_words w w.kind) z (sym y))

    pub valid_false : (n && v && b && l && eqb w.eighth 0 && x) ≡ false → valid_alone text w ≡ false
    valid_false t = sym valid_is ∙ t

pub no_kind : (text : List ℕ) (w : TokenWords) → 54 < w.kind → valid_alone text w ≡ false
unfolding valid_alone
no_kind text w h = simp (lt-leb w.kind 54 h, and_none)

-- ---- the text of a token

module _ (ws text : List ℕ) (i : ℕ) where
  abbrev whole_record : Bool
  whole_record = leb (8 * i + 8) (length ws)

  text_is : text_of ws text i ≡ pick (whole_record && has_text (words_at ws i).kind && valid_alone text (words_at ws i)) (part text (words_at ws i)) []
  unfolding text_of
  text_is = refl

  text_by : (a h v : Bool) → whole_record ≡ a → has_text (words_at ws i).kind ≡ h → valid_alone text (words_at ws i) ≡ v
      → text_of ws text i ≡ pick (a && h && v) (part text (words_at ws i)) []
  text_by a h v e f g = text_is ∙ rw (e, f, g)

  pub text_short : length ws / 8 ≤ i → [] ≡ text_of ws text i
  text_short h = sym (text_by false _ _ (lt-leb (8 * i + 8) (length ws) (omega arith)) refl refl)

  -- the record r at index i
  module _ {cs : List (List ℕ)} {r : List ℕ} (f : cs ≡ first_chunks 8 (length ws / 8) ws) (l : length cs ≡ length ws / 8)
      (h : (i < length cs) × HoldsAt (λ y. r ≡ y) cs i) where
    here : words_at r 0 ≡ words_at ws i
    here =
        ap (λ (q : List ℕ). words_at q 0) (h.1 r ∙ ap (λ (x : List (List ℕ)). get_or x i r) f)
        ∙ chunk_words ws (length ws / 8) i r (omega (arith, l, h.0))

    by : (g v : Bool) → has_text (words_at r 0).kind ≡ g → valid_alone text (words_at r 0) ≡ v
        → text_of ws text i ≡ pick (g && v) (part text (words_at r 0)) []
    by g v p q =
        text_by true g v (le-leb (8 * i + 8) (length ws) (omega (arith, l, h.0)))
        (ap (λ (x : TokenWords). has_text x.kind) (sym here) ∙ p) (ap (valid_alone text) (sym here) ∙ q)
        ∙ ap (λ (x : TokenWords). pick (g && v) (part text x) []) (sym here)

    pub text_bad : valid_alone text (words_at r 0) ≡ false → [] ≡ text_of ws text i
    text_bad e = sym (by (has_text (words_at r 0).kind) false refl e ∙ simp and_none)

    module _ {w : TokenWords} {g : Bool} (e : (valid_alone text (words_at r 0) ≡ true) × (w ≡ words_at r 0)) (p : g ≡ has_text w.kind) where
      kind_text : (u : Bool) → g ≡ u → has_text (words_at r 0).kind ≡ u
      kind_text u q = ap (λ (x : TokenWords). has_text x.kind) (sym e.1) ∙ sym p ∙ q

      pub text_none : g ≡ false → [] ≡ text_of ws text i
      text_none q = sym (by false true (kind_text false q) e.0)

      pub text_some : g ≡ true → take (w.start + w.size - w.start) (drop w.start text) ≡ text_of ws text i
      text_some q =
          let z : w.start + w.size - w.start ≡ w.size = omega arith in
          rw z (ap (part text) e.1 ∙ sym (by true true (kind_text true q) e.0))

-- the text of a valid record is within the slice
pub text_inside : (text : List ℕ) (v : TokenWords) {w : TokenWords} {h : Bool} → (valid_alone text v ≡ true) × (w ≡ v)
    → h ≡ has_text w.kind → h ≡ true → w.start + w.size ≤ length text
text_inside text v {w} e f g = go (has_text w.kind) (sym f ∙ g) (fits text w (ap (valid_alone text) e.1 ∙ e.0)).text
  where
    go : (t : Bool) → t ≡ true → pick t (R.text_fits text w) (eqb w.start 0 && eqb w.size 0) ≡ true → w.start + w.size ≤ length text
    go true p q =
        leb-true _ _ (right_true (leb (w.start + w.size) 16384) _
        (left_true (leb (w.start + w.size) 16384 && leb (w.start + w.size) (length text)) _ q))
    go false p q = clash (sym p)
