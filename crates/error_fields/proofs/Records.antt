-- The errors in token error records. Assumes nothing.
use mathlib.Core.Path.{◌≡◌, refl, ap, ◌∙◌}
use mathlib.Core.Bool.{true}
use mathlib.Core.Option.{Option, some, none}
use mathlib.Core.List.{List, ◌∷◌, map}
use Prim.Native.Nat.{ℕ, zero, suc, ◌+◌, ◌*◌, ◌<◌}
use native.Mathlib.Omega.{arith}
use lib.Dec.{eqb}
use lib.ListN.{get_or, take, drop}
use Rattle.std.proofs.lemmas.List.{get_or-take, get_or-drop, drop-drop}
use Rattle.std.proofs.Math.Nat.{mod-eq_of_lt}
use Rattle.std.specs.Simd.{first_chunks}
use Rattle.definition.specs.Classes.{between}
use Rattle.definition.specs.Fallible.{Err}
use Rattle.definition.specs.Records.{ErrorWords, error_at, valid_error, error_of, error_before, errors_of}
use Rattle.definition.proofs.Tests.{left_true, between_bounds}
use Rattle.definition.proofs.Validated.{never, passed}
use Rattle.error_fields.specs.Errors.{recorded}

-- a valid record has a small number
pub recorded_is : (w : List ℕ) → valid_error (error_at w 0) ≡ true → recorded w ≡ error_of (error_at w 0)
recorded_is w h = rw (mod-eq_of_lt k) refl
  where
    e : ErrorWords
    e = error_at w 0

    number : between 1 4 e.number ≡ true
    number = left_true _ (between 1 16384 e.line) (left_true _ (between 1 16384 e.column) (left_true _ (eqb e.fourth 0) h))

    k : get_or w 0 0 < 256
    k = omega (arith, (between_bounds 1 4 e.number number).1)

-- the errors of valid records, where f gives the error of a valid record
module _ (f : List ℕ → Err) (same : (w : List ℕ) → valid_error (error_at w 0) ≡ true → f w ≡ error_of (error_at w 0)) (ws : List ℕ) where
  record_is : (i : ℕ) → valid_error (error_at ws i) ≡ true → f (take 4 (drop (4 * i) ws)) ≡ error_of (error_at ws i)
  record_is i h = same _ (ap valid_error words ∙ h) ∙ ap error_of words
    where
      at : (j : ℕ) → j < 4 → get_or (take 4 (drop (4 * i) ws)) j 0 ≡ get_or ws (4 * i + j) 0
      at j g = get_or-take 4 (drop (4 * i) ws) j 0 g ∙ get_or-drop (4 * i) ws j 0

      first : get_or ws (4 * i + 0) 0 ≡ get_or ws (4 * i) 0
      first = let z : 4 * i + 0 ≡ 4 * i = omega arith in ap (λ m. get_or ws m 0) z

      words : error_at (take 4 (drop (4 * i) ws)) 0 ≡ error_at ws i
      words = rw (at 0 (omega arith) ∙ first, at 1 (omega arith), at 2 (omega arith), at 3 (omega arith)) refl

  pub records_are : (n i : ℕ) (es : List Err) → errors_of ws i n ≡ some es → map f (first_chunks 4 n (drop (4 * i) ws)) ≡ es
  unfolding errors_of
  records_are zero i es e = cc
  records_are (suc n) i es e =
      let c = passed (valid_error (error_at ws i)) (error_before (error_of (error_at ws i)) (errors_of ws (suc i) n)) e in
      rw (record_is i c.0, drop-drop 4 (4 * i) ws) (more _ (λ vs. records_are n (suc i) vs) c.1)
    where
      more : (o : Option (List Err)) → ((vs : List Err) → o ≡ some vs → map f (first_chunks 4 n (drop (4 * suc i) ws)) ≡ vs)
          → error_before (error_of (error_at ws i)) o ≡ some es
          → error_of (error_at ws i) ∷ map f (first_chunks 4 n (drop (4 * i + 4) ws)) ≡ es
      more none g q = never q
      more (some vs) g q =
          let k : 4 * i + 4 ≡ 4 * suc i = omega arith in
          rw (k, g vs refl) cc
