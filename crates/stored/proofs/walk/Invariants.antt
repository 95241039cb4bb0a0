use Prim.Native.Nat.{◌-◌}
use lib.ListN.{length}
use Rattle.stored.proofs.Walking.{Walking}
use Rattle.stored.proofs.walk.Given as goal

abbrev pub invariant-loop-size : goal.invariant-loop-size
invariant-loop-size l = Walking l.file (length l.initial.records) l.phase l.waiting l.reached l.records

abbrev pub decreases-loop-size : goal.decreases-loop-size
decreases-loop-size l = length l.file - l.reached.at
