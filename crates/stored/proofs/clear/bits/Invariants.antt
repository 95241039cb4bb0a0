use Prim.Native.Nat.{◌-◌, ◌≤◌}
use Rattle.stored.specs.Parts.{Bounded}
use Rattle.stored.proofs.clear.bits.Given as goal

abbrev pub invariant-loop-k : goal.invariant-loop-k
invariant-loop-k l = Bounded l.words l.at l.k l.all × (l.k ≤ 256)

abbrev pub decreases-loop-k : goal.decreases-loop-k
decreases-loop-k l = 256 - l.k
