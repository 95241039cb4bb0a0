use Rattle.sentences.proofs.Saying.{told_none, told_same, told_then}
use Rattle.sentences.proofs.Spelled.{quoted, unquoted}
use Rattle.sentences.proofs.write.Sentence.say_quoted.Goals as goal

pub returns-in_default : goal.returns-in_default
returns-in_default c = told_same told_none (unquoted _ c.in_default.ensures.cases.0)

pub returns : goal.returns
returns c =
    told_same (told_then c.say.ensures (told_then c.say_characters.ensures c.say-2.ensures))
    (rw c.in-Ok.ensures.cases.0 (quoted _ c.in-Ok.ensures.cases.1))
