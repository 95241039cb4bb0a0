use Prim.Native.Nat.{◌-◌}
use lib.ListN.{length}
use Rattle.scan.proofs.Laws.{Assembling}
use Rattle.scan.proofs.assembly.Given as goal

abbrev pub invariant-loop-c : goal.invariant-loop-c
invariant-loop-c l = Assembling l.s l.initial.c l.initial.text l.initial.n l.c l.text l.n

abbrev pub decreases-loop-c : goal.decreases-loop-c
decreases-loop-c l = length l.s - l.c.at
