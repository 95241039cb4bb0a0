use Rattle.definition.proofs.Digits.{digit_one, digit_more}
use Rattle.sentences.proofs.Saying.{told_same, told_then}
use Rattle.sentences.proofs.write.Sentence.+say_number.Goals as goal

pub returns-then-n-base : goal.returns-then-n-base
returns-then-n-base t c = told_same c.say.ensures (digit_one _ c.requires.0 _ c.if-n-base.true c.digit_char.ensures)

pub returns : goal.returns
returns t c =
    told_same (told_then c.say_number.ensures c.say-2.ensures)
    (digit_more _ c.requires.0 _ c.if-n-base.false c.digit_char-2.ensures)
