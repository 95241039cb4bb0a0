use Prim.Native.Nat.{◌-◌}
use lib.ListN.{length}
use Rattle.stored.specs.Parts.{Ascii}
use Rattle.stored.proofs.body.is_ascii.Given as goal

abbrev pub invariant-loop-i : goal.invariant-loop-i
invariant-loop-i l = Ascii l.bytes l.i

abbrev pub decreases-loop-i : goal.decreases-loop-i
decreases-loop-i l = length l.bytes - l.i
