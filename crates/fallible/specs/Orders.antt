-- The order in which the errors of a function definition are reported. Assumes nothing.
use Rattle.std.specs.Prelude.{◌≡◌, List, ◌++◌, ℕ, length, take, drop}

-- the entries from k to m come before those from j to k
pub record Exchanged {A : Type 0} (r : List A) (j k m : ℕ) (r' : List A) : Type 0 where
  pub same : length r' ≡ length r
  pub is : take m r' ≡ take j r ++ (drop k (take m r) ++ drop j (take k r))
