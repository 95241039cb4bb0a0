use Rattle.definition.specs.Ascii.{ascii}
use Rattle.steps.proofs.SameKind.{same_number, other_number}
use Rattle.sentences.proofs.Saying.{told_none, told_same, told_then}
use Rattle.sentences.proofs.Spelled.{base_integer, base_none}
use Rattle.sentences.proofs.write.Sentence.say_base.Goals as goal

pub returns-in-Integer : goal.returns-in-Integer
unfolding ascii
returns-in-Integer c =
    told_same (told_then c.say_all.ensures c.say_number.ensures) (base_integer _ (same_number c.in-Integer.is))

pub returns-in_default : goal.returns-in_default
returns-in_default c = told_same told_none (base_none _ (other_number c.in_default.not-Integer))
