-- What filling the rest of a slice ensures. Assumes nothing.
use Rattle.std.specs.Prelude.{◌≡◌, List, ◌++◌, ℕ, ◌-◌, length, take, replicate}

-- v from n on
pub record Filled {A : Type 0} (v : A) (x : List A) (n : ℕ) (x' : List A) : Type 0 where
  pub is : x' ≡ take n x ++ replicate (length x - n) v

-- zeros from n on
abbrev pub Cleared : List ℕ → ℕ → List ℕ → Type 0
Cleared x n x' = Filled 0 x n x'
