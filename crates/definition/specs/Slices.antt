-- Names for slices in contracts. In a `requires` a parameter `&[T]` is a `Slice` and `&mut [T]` a `MutSlice`; in an
-- `ensures` they are `Lent` and `MutLent`, a slice at entry and at exit. Assumes nothing.
use Rattle.std.specs.Prelude.{List, ℕ}
use Rattle.std.specs.Borrow.{Bor, MutBor}
use denote.Triple.Both.{Both}

abbrev pub Slice : Type 0
Slice = Bor (List ℕ)

abbrev pub MutSlice : Type 0
MutSlice = MutBor (List ℕ)

abbrev pub Lent : Type 0
Lent = Both Slice Slice

abbrev pub MutLent : Type 0
MutLent = Both MutSlice MutSlice

-- the contents at entry and at exit
abbrev pub at_entry : {A : Type 0} → Both (Bor A) (Bor A) → A
at_entry x = x.entry.now

abbrev pub old : {A : Type 0} → Both (MutBor A) (MutBor A) → A
old x = x.entry.now

abbrev pub new : {A : Type 0} → Both (MutBor A) (MutBor A) → A
new x = x.exit.now
