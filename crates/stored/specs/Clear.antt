-- What clearing words of a slice ensures. Assumes nothing.
use Rattle.std.specs.Prelude.{◌≡◌, List, ◌++◌, ℕ, ◌-◌, ◌≤◌, length, take, replicate}

-- up to i the slice is as it was up to n, and then zeros
pub record Zeroed (w : List ℕ) (n : ℕ) (w' : List ℕ) (i : ℕ) : Type 0 where
  pub is : take i w' ≡ take n w ++ replicate (i - n) 0
  pub low : n ≤ i
  pub size : length w' ≡ length w
