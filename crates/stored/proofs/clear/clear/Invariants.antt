use Prim.Native.Nat.{◌-◌, ◌≤◌}
use Rattle.stored.specs.Clear.{Zeroed}
use Rattle.stored.proofs.clear.clear.Given as goal

abbrev pub invariant-loop-i : goal.invariant-loop-i
invariant-loop-i l = Zeroed l.initial.words l.from l.words l.i × (l.i ≤ l.to)

abbrev pub decreases-loop-i : goal.decreases-loop-i
decreases-loop-i l = l.to - l.i
