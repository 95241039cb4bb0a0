-- The digits of a number in a base: those of its quotient, and one more. Assumes nothing.
use mathlib.Core.Path.{◌≡◌, refl, ap}
use mathlib.Core.Bool.{Bool, true, false}
use mathlib.Core.List.{List, [], ◌∷◌, ◌++◌}
use Prim.Native.Nat.{ℕ, zero, suc, ◌/◌, ◌%◌, ◌<◌, ◌≤◌}
use native.Mathlib.Nat.{div-lt_self}
use native.Mathlib.Omega.{arith}
use borrow.Author.Tests.{lt-ltb, le-ltb, ltb-false}
use lib.Dec.{ltb}
use Rattle.definition.specs.Sentence.{digit_char, digits_in, in_base}

module _ (base : ℕ) (b : 2 ≤ base) where
  -- the digits do not depend on how many are allowed, if these are enough
  digits_enough : (f g n : ℕ) → n < f → n < g → digits_in base f n ≡ digits_in base g n
  unfolding digits_in
  digits_enough zero g n h k = absurd (omega arith)
  digits_enough (suc f) zero n h k = absurd (omega arith)
  digits_enough (suc f) (suc g) n h k =
      one (ltb n base) refl
      (λ l. let d : n / base < n = div-lt_self (omega (arith, b, l)) (omega arith) in
      digits_enough f g (n / base) (omega (arith, d)) (omega (arith, d)))
    where
      one : (t : Bool) → ltb n base ≡ t → (base ≤ n → digits_in base f (n / base) ≡ digits_in base g (n / base))
          → ◌≡◌ {A = List ℕ} (elim t as (λ _. List ℕ) [ true ↦ digit_char n ∷ [] | false ↦ digits_in base f (n / base) ++ (digit_char (n % base) ∷ []) ])
          (elim t as (λ _. List ℕ) [ true ↦ digit_char n ∷ [] | false ↦ digits_in base g (n / base) ++ (digit_char (n % base) ∷ []) ])
      one true e r = refl
      one false e r = ap (λ (ds : List ℕ). ds ++ (digit_char (n % base) ∷ [])) (r (ltb-false n base e))

  -- the digit d, and the digits before it
  pub digit_one : (n : ℕ) {d : ℕ} → n < base → d ≡ digit_char n → d ∷ [] ≡ in_base base n
  unfolding in_base
  digit_one n h e = rw (e, digits_in, lt-ltb n base h)

  pub digit_more : (n : ℕ) {d : ℕ} → base ≤ n → d ≡ digit_char (n % base) → in_base base (n / base) ++ (d ∷ []) ≡ in_base base n
  unfolding in_base
  digit_more n h e =
      let l : n / base < n = div-lt_self (omega (arith, b, h)) (omega (arith, b)) in
      rw (e, digits_in, le-ltb n base h)
      (ap (λ (ds : List ℕ). ds ++ (digit_char (n % base) ∷ [])) (digits_enough (suc (n / base)) n (n / base) (omega arith) l))
