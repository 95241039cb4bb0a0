use Prim.Native.Nat.{◌-◌, ◌≤◌}
use Rattle.stored.proofs.Taking.{Standing}
use Rattle.stored.proofs.nodes.and_before.Given as goal

abbrev pub invariant-loop-i : goal.invariant-loop-i
invariant-loop-i l = Standing l.waiting l.from l.kind l.i × (l.i ≤ l.count)

abbrev pub decreases-loop-i : goal.decreases-loop-i
decreases-loop-i l = l.count - l.i
