-- The laws of `push_errors`. Assumes nothing.
use mathlib.Core.Path.{◌≡◌, refl, sym, ap}
use mathlib.Core.List.{List, [], ◌∷◌, ◌++◌}
use Prim.Native.Nat.{ℕ, zero, suc, ◌+◌, ◌*◌}
use native.Mathlib.Numerals.{add-one}
use native.Mathlib.Omega.{arith}
use lib.ListN.{replicate}
use Rattle.definition.specs.Fallible.{Err}
use Rattle.definition.specs.Records.{errors_words}
use Rattle.slices.specs.Written.{Wrote}
use Rattle.slices.proofs.Writing.{wrote_none, wrote_trans}
use Rattle.token_records.specs.declared.State.{State}

error_words : Err → List ℕ
error_words e = e.number ∷ e.place.line ∷ e.place.column ∷ 0 ∷ []

-- one more of the same error, after the others
errors_snoc : (n : ℕ) (e : Err) → errors_words (replicate n e) ++ error_words e ≡ errors_words (replicate (suc n) e)
unfolding errors_words error_words
errors_snoc zero e = refl
errors_snoc (suc n) e = ap (λ (l : List ℕ). e.number ∷ e.place.line ∷ e.place.column ∷ 0 ∷ l) (errors_snoc n e)

-- the invariant: k errors are pushed
pub record Pushing (E₀ : List ℕ) (f : State) (e : Err) (E : List ℕ) (at k : ℕ) : Type 0 where
  pub there : at ≡ 4 * (f.errors + k)
  pub wrote : Wrote E₀ (4 * f.errors) (errors_words (replicate k e)) E at

pub pushing : {E : List ℕ} {f : State} {e : Err} → Pushing E f e E (4 * f.errors) 0
unfolding errors_words
pushing = record { there = omega arith; wrote = wrote_none }

module _ {E₀ : List ℕ} {f : State} {e : Err} {E : List ℕ} {at k : ℕ} (q : Pushing E₀ f e E at k) where
  pub pushing_more : {E' : List ℕ} {m v : ℕ} → v ≡ e.number → Wrote E at (v ∷ e.place.line ∷ e.place.column ∷ 0 ∷ []) E' m
      → Pushing E₀ f e E' m (k + 1)
  unfolding error_words
  pushing_more {E'} {m} h w₀ =
      let w = rw h at w₀ in
      record {
        there = omega (arith, q.there, w.count);
        wrote = rw (add-one, sym (errors_snoc k e)) (wrote_trans q.wrote w);
      }
