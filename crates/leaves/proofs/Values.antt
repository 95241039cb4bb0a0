-- The laws of `array_size`. Assumes nothing.
use mathlib.Core.Path.{◌≡◌, refl, ◌∙◌}
use mathlib.Core.Bool.{Bool, true, false}
use mathlib.Core.List.{List, [], ◌∷◌}
use Prim.Native.Nat.{ℕ, suc, ◌+◌, ◌*◌, ◌^◌, ◌≤◌, ◌<◌}
use native.Mathlib.Nat.{mul-le-mul_left, mul-one}
use native.Mathlib.Numerals.{add-one}
use native.Mathlib.Omega.{arith}
use lib.ListN.{length, drop, get_or, drop_of_length-le}
use lib.Seq.{drop-cons}
use borrow.Author.Tests.{lt-ltb, le-ltb}
use Rattle.std.specs.Prelude.{Some, None}
use Rattle.definition.specs.Token.{digit, number, dashed}
use Rattle.definition.specs.Choice.{pick}
use Rattle.leaves.specs.Leaves.{unfit, size_in}

number_ge : (b n : ℕ) (l : List ℕ) → 0 < b → n ≤ number b n l
unfolding number
number_ge b n [] h = omega arith
number_ge b n (c ∷ cs) h = omega (arith, number_ge b (n * b + digit c) cs h, mul-one n, mul-le-mul_left n h)

-- ---- the loop: after i digits, whose value is a

pub record Numbering (base : ℕ) (t : List ℕ) (i a : ℕ) : Type 0 where
  pub upto : i ≤ length t
  pub plain : dashed t ≡ false
  pub fits : a < 2 ^ 64
  pub is : number base 0 t ≡ number base a (drop i t)

module _ {base : ℕ} {t : List ℕ} where
  module _ {i a : ℕ} (k : Numbering base t i a) where
    pub size_done : length t ≤ i → Some a ≡ size_in base t
    unfolding number
    size_done h =
        let v : number base 0 t ≡ a = k.is ∙ rw (drop_of_length-le t h) in
        rw (k.plain, v, lt-ltb a (2 ^ 64) k.fits)

    module _ (h : i < length t) where
      -- one more digit
      next : number base 0 t ≡ number base (a * base + digit (get_or t i 0)) (drop (suc i) t)
      unfolding number
      next = k.is ∙ rw (drop-cons t i 0 h)

      pub size_more : {v : ℕ} → v ≡ a * base + digit (get_or t i 0) → v < 2 ^ 64 → Numbering base t (i + 1) v
      size_more e s = record { upto = omega arith; plain = k.plain; fits = s; is = rw (add-one, e) next }

      pub size_over : 0 < base → 2 ^ 64 ≤ a * base + digit (get_or t i 0) → None ≡ size_in base t
      size_over b g =
          let big : 2 ^ 64 ≤ number base 0 t =
          rw next (omega (arith, number_ge base (a * base + digit (get_or t i 0)) (drop (suc i) t) b)) in
          rw (k.plain, le-ltb (number base 0 t) (2 ^ 64) big)

-- ---- a size that fits, and one that does not

size_of_test : (h : Bool) (n : ℕ) {v : ℕ} → Some v ≡ pick h None (Some n) → (h ≡ false) × (n ≡ v)
size_of_test true n e = absurd (cc)
size_of_test false n e = (refl, cc)

none_of_test : (h : Bool) (n : ℕ) → None ≡ pick h None (Some n) → h ≡ true
none_of_test true n e = refl
none_of_test false n e = absurd (cc)

pub size_fits : (base : ℕ) (t : List ℕ) {v : ℕ} → Some v ≡ size_in base t → (unfit base t ≡ false) × (number base 0 t ≡ v)
size_fits base t e = size_of_test (unfit base t) (number base 0 t) e

pub size_none : (base : ℕ) (t : List ℕ) → None ≡ size_in base t → unfit base t ≡ true
size_none base t e = none_of_test (unfit base t) (number base 0 t) e
