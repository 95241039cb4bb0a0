use Prim.Native.Nat.{◌-◌}
use lib.ListN.{length}
use Rattle.scan.proofs.Runs.{Wording}
use Rattle.scan.proofs.wide_word.Given as goal

abbrev pub invariant-loop-c : goal.invariant-loop-c
invariant-loop-c l = Wording l.s l.fn.from l.fn.text l.fn.start l.c l.text l.n

abbrev pub decreases-loop-c : goal.decreases-loop-c
decreases-loop-c l = length l.s - l.c.at
