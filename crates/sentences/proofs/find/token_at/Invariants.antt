use Prim.Native.Nat.{◌-◌}
use Rattle.sentences.proofs.Messages.{Seeking}
use Rattle.sentences.proofs.find.token_at.Given as goal

abbrev pub invariant-loop-t : goal.invariant-loop-t
invariant-loop-t l = Seeking l.tokens.records.now l.tokens.text.now l.tokens.count l.place l.i

abbrev pub decreases-loop-t : goal.decreases-loop-t
decreases-loop-t l = l.tokens.count - l.i
