use mathlib.Core.Path.{sym, ◌∙◌}
use Rattle.sentences.proofs.Saying.{told_same, told_then}
use Rattle.sentences.proofs.Spelled.{spelled_text, spelled_plain}
use Rattle.sentences.proofs.write.Sentence.say_token.Goals as goal

pub returns-then-not-has_text : goal.returns-then-not-has_text
returns-then-not-has_text c =
    told_same c.say_name.ensures (spelled_plain _ _ _ (sym c.has_text.ensures ∙ c.if-not-has_text.true))

pub returns : goal.returns
returns c =
    told_same
    (told_then c.say_name.ensures (told_then c.say.ensures (told_then c.say_quoted.ensures (told_then c.say_base.ensures c.say-2.ensures))))
    (spelled_text _ _ _ (sym c.has_text.ensures ∙ c.if-not-has_text.false))
