use Prim.Native.Nat.{◌-◌}
use lib.ListN.{length}
use Rattle.scan.proofs.Laws.{Quoting}
use Rattle.scan.proofs.quoted.Given as goal

abbrev pub invariant-loop-c : goal.invariant-loop-c
invariant-loop-c l = Quoting l.s l.initial.c l.initial.text l.initial.n l.c l.text l.n l.unknown

abbrev pub decreases-loop-c : goal.decreases-loop-c
decreases-loop-c l = length l.s - l.c.at
