use Prim.Native.Nat.{◌-◌, ◌≤◌}
use Rattle.stored.specs.Parts.{Bounded}
use Rattle.stored.proofs.body.bits.Given as goal

abbrev pub invariant-loop-k : goal.invariant-loop-k
invariant-loop-k g l = Bounded l.bytes l.at l.k l.all × (l.k ≤ g.row.N)

abbrev pub decreases-loop-k : goal.decreases-loop-k
decreases-loop-k g l = g.row.N - l.k
