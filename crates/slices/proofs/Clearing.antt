-- The laws of `fill_from`. Assumes nothing.
use mathlib.Core.Path.{◌≡◌, ap, ◌∙◌}
use mathlib.Core.List.{List, ◌++◌, append_assoc}
use Prim.Native.Nat.{ℕ, suc, ◌+◌, ◌-◌, ◌<◌, ◌≤◌}
use native.Mathlib.Numerals.{add-one}
use native.Mathlib.Omega.{arith}
use lib.ListN.{length, take, drop, set, get_or, replicate, length-replicate, replicate-append-replicate}
use lib.Seq.{drop-cons, set_at, length-take-le}
use Rattle.definition.specs.Operations.{filled}
use Rattle.slices.specs.Cleared.{Cleared}

-- the invariant: the first i elements of s are v
pub record Filling {A : Type 0} (v : A) (s r : List A) (i : ℕ) : Type 0 where
  pub high : i ≤ length s
  pub is : r ≡ replicate i v ++ drop i s

pub filling_more : {A : Type 0} {v : A} {s r : List A} {i : ℕ} → Filling v s r i → i < length s → Filling v s (set r i v) (i + 1)
filling_more {v = v} {s = s} {i = i} q h =
    record {
      high = omega arith;
      is =
          rw (q.is, drop-cons s i v h, ← replicate-append-replicate i 1 v, append_assoc, add-one)
          (set_at (replicate i v) (get_or s i v) (drop (suc i) s) v i (length-replicate i v));
    }

-- a slice that is cleared after the words ws is `filled` with them
pub cleared_filled : (x : List ℕ) {x' y : List ℕ} (n : ℕ) (ws : List ℕ) → Cleared x' n y → take n x' ≡ ws → length x' ≡ length x
    → n ≤ length x' → y ≡ filled (length x) ws
cleared_filled x {x'} n ws c e l h =
    let z : length x' - n ≡ length x - length ws = omega (arith, l, ap length e, length-take-le n x' h) in
    c.is ∙ ap (λ (v : ℕ). take n x' ++ replicate v 0) z ∙ ap (λ (v : List ℕ). v ++ replicate (length x - length ws) 0) e
