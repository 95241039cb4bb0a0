-- A table that is searched from its first entry, and the bytes that two slices share. Assumes nothing.
use mathlib.Core.Path.{◌≡◌, refl, sym, ap, ◌∙◌}
use mathlib.Core.Bool.{Bool, true, false, ◌&&◌}
use mathlib.Core.List.{List, [], ◌∷◌}
use Prim.Native.Nat.{ℕ, zero, suc, ◌+◌, ◌<◌, ◌≤◌}
use native.Mathlib.Numerals.{add-one}
use lib.Dec.{eqb, ltb}
use lib.ListN.{length, get_or, drop, drop_of_length-le}
use lib.Seq.{drop-cons}
use Rattle.std.specs.Prelude.{Some, None}
use Rattle.std.specs.Cmp.Lexicographic.{pointwise}
use Rattle.definition.specs.Choice.{pick}
use Rattle.definition.specs.Tokenizer as Z
use Rattle.definition.proofs.Tests.{left_true, right_true, clash}
use Rattle.classes.specs.Found.{nonzero}

-- what `==` says of two slices is the definition's
pub same_is : (a b : List ℕ) → pointwise eqb a b ≡ Z.same a b
unfolding Z.same
same_is [] [] = refl
same_is [] (y ∷ ys) = refl
same_is (x ∷ xs) [] = refl
same_is (x ∷ xs) (y ∷ ys) = ap (λ (t : Bool). eqb x y && t) (same_is xs ys)

-- the answer of the first entry whose test holds, or 0
unfoldable pub found : {A : Type 0} → (A → Bool) → (A → ℕ) → List A → ℕ
found t k [] = 0
found t k (x ∷ xs) = pick (t x) (k x) (found t k xs)

unfoldable pub nonzeros : {A : Type 0} → (A → ℕ) → List A → Bool
nonzeros k [] = true
nonzeros k (x ∷ xs) = ltb 0 (k x) && nonzeros k xs

-- the invariant: the search of the entries from index i on finds a, and no answer of theirs is 0
pub record Searching {A : Type 0} (t : A → Bool) (k : A → ℕ) (xs : List A) (i a : ℕ) : Type 0 where
  pub is : found t k (drop i xs) ≡ a
  pub nonzero : nonzeros k (drop i xs) ≡ true

-- what is found is the answer of the first entry whose test holds, whatever it is
pub search_found : {A : Type 0} (t : A → Bool) (k : A → ℕ) (xs : List A) {i a : ℕ} (x : A) → found t k (drop i xs) ≡ a
    → i < length xs → t (get_or xs i x) ≡ true → k (get_or xs i x) ≡ a
unfolding found
search_found t k xs {i} x f h e = rw (drop-cons xs i x h, e) at f

some_of : (n : ℕ) → ltb 0 n ≡ true → Some n ≡ nonzero n
some_of zero e = clash (sym e)
some_of (suc n) e = refl

module _ {A : Type 0} {t : A → Bool} {k : A → ℕ} {xs : List A} {i a : ℕ} (q : Searching t k xs i a) where
  pub search_some : (x : A) → i < length xs → t (get_or xs i x) ≡ true → Some (k (get_or xs i x)) ≡ nonzero a
  unfolding nonzeros
  search_some x h e =
      some_of _ (left_true (ltb 0 (k (get_or xs i x))) _ (rw (drop-cons xs i x h) at q.nonzero))
      ∙ ap nonzero (search_found t k xs x q.is h e)

  pub search_more : (x : A) → i < length xs → t (get_or xs i x) ≡ false → Searching t k xs (i + 1) a
  unfolding found nonzeros
  search_more x h e =
      record {
        is = rw add-one (rw (drop-cons xs i x h, e) at q.is);
        nonzero = rw add-one (right_true (ltb 0 (k (get_or xs i x))) _ (rw (drop-cons xs i x h) at q.nonzero));
      }

  pub search_end : length xs ≤ i → None ≡ nonzero a
  unfolding found
  search_end h = ap nonzero (rw (drop_of_length-le xs h) at q.is)
