use lib.ListN.{length, take}
use Rattle.std.specs.List.{flat_map}
use Rattle.std.specs.Str.{chars}
use Rattle.definition.specs.Sentence.{escaped}
use Rattle.sentences.specs.Contract.{Told}
use Rattle.sentences.proofs.write.Sentence.say_characters.Given as goal

abbrev pub invariant-loop-c : goal.invariant-loop-c
invariant-loop-c l = Told (flat_map escaped (take (length l.yielded) (chars l.text))) l.initial.self l.self
