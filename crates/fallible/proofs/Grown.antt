-- A list whose first n entries grow by a store at n. Assumes nothing.
use mathlib.Core.Path.{◌≡◌, ap, ◌∙◌}
use mathlib.Core.List.{List, [], ◌∷◌, ◌++◌, map, map-append}
use Prim.Native.Nat.{ℕ, ◌+◌, ◌≤◌, ◌<◌}
use native.Mathlib.Numerals.{add-one}
use lib.ListN.{length, take, set, length-map}
use lib.Seq.{take-suc-set, length-take-le}
use Rattle.fallible.specs.declared.error.Error.{Error}
use Rattle.fallible.specs.Lists.{err_of, errs}

-- after a store at n there is one more entry
pub grown : (l : List Error) (n n' : ℕ) (e : Error) → n < length l → n' ≡ n + 1 → take n' (set l n e) ≡ take n l ++ (e ∷ [])
grown l n n' e h q = ap (λ (k : ℕ). take k (set l n e)) (q ∙ add-one n) ∙ take-suc-set l n e h

-- one more entry is one more error
pub errs_more : (l l' : List Error) (n m : ℕ) (e : Error) → take m l' ≡ take n l ++ (e ∷ []) → errs l' m ≡ errs l n ++ (err_of e ∷ [])
unfolding errs
errs_more l l' n m e p = ap (λ (z : List Error). map (λ e. err_of e) z) p ∙ map-append (λ e. err_of e) (take n l) (e ∷ [])

pub errs_length : (l : List Error) (n : ℕ) → n ≤ length l → length (errs l n) ≡ n
unfolding errs
errs_length l n h = simp length-map (length-take-le n l h)
