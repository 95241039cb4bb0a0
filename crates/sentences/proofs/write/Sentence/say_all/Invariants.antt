use lib.ListN.{take}
use Rattle.sentences.specs.Contract.{Told}
use Rattle.sentences.proofs.write.Sentence.say_all.Given as goal

abbrev pub invariant-loop-b : goal.invariant-loop-b
invariant-loop-b l = Told (take l.b-index l.s) l.initial.self l.self
