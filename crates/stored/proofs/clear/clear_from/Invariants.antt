use Prim.Native.Nat.{◌-◌, ◌≤◌}
use lib.ListN.{length}
use Rattle.stored.specs.Clear.{Zeroed}
use Rattle.stored.proofs.clear.clear_from.Given as goal

abbrev pub invariant-loop-i : goal.invariant-loop-i
invariant-loop-i l = Zeroed l.initial.words l.fn.from l.words l.i × (l.i ≤ length l.words)

abbrev pub decreases-loop-i : goal.decreases-loop-i
decreases-loop-i l = length l.words - l.i
