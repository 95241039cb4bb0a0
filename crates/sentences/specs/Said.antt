-- What writing a part of a sentence ensures. Assumes nothing.
use Rattle.std.specs.Prelude.{◌≡◌, List, ◌++◌, ℕ, ◌+◌, ◌≤◌, length, take}

-- bytes that are counted from n on: the count does not overflow
pub record Short (bs : List ℕ) (n : ℕ) : Type 0 where
  pub below : n + length bs ≤ 0x100000

-- The bytes are counted from n to m. If the slice has room for all of them, they are written, and those before n kept.
pub record Said (bs o : List ℕ) (n : ℕ) (o' : List ℕ) (m : ℕ) : Type 0 where
  pub end : m ≡ n + length bs
  pub is : m ≤ length o → take m o' ≡ take n o ++ bs
  pub size : length o' ≡ length o
