use Prim.Native.Nat.{◌-◌}
use lib.ListN.{length}
use Rattle.tokenizer.proofs.Looping.{Looping}
use Rattle.tokenizer.proofs.run.Given as goal

abbrev pub invariant-loop-st : goal.invariant-loop-st
invariant-loop-st l = Looping l.most l.s l.initial.tokens l.initial.errors l.initial.text l.tokens l.errors l.text l.st

abbrev pub decreases-loop-st : goal.decreases-loop-st
decreases-loop-st l = length l.s - l.st.cursor.at
