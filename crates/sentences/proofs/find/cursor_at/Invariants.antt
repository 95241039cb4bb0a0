use Prim.Native.Nat.{◌-◌}
use lib.ListN.{length}
use Rattle.definition.specs.Places.{place_of}
use Rattle.sentences.proofs.Messages.{Walking}
use Rattle.sentences.proofs.find.cursor_at.Given as goal

abbrev pub invariant-loop-c : goal.invariant-loop-c
invariant-loop-c l = Walking l.s (place_of l.place) l.c

abbrev pub decreases-loop-c : goal.decreases-loop-c
decreases-loop-c l = length l.s - l.c.at
