-- What writing to a slice ensures. Assumes nothing.
use Rattle.std.specs.Prelude.{◌≡◌, List, ◌++◌, ℕ, ◌+◌, length, take}

-- the elements t are written from n to m; those before n are kept
pub record Wrote {A : Type 0} (x : List A) (n : ℕ) (t x' : List A) (m : ℕ) : Type 0 where
  pub put : take m x' ≡ take n x ++ t
  pub count : m ≡ n + length t
  pub size : length x' ≡ length x
