use mathlib.Core.Path.{refl, ap, ◌∙◌}
use Rattle.definition.specs.Ascii.{ascii}
use Rattle.definition.specs.Sentence.{kind_names, kind_name}
use Rattle.definition.proofs.Positions.{position}
use Rattle.sentences.proofs.Spelled.{entry_same}
use Rattle.sentences.proofs.spelling.name.Goals as goal

pub returns : goal.returns
unfolding kind_name kind_names ascii
returns c = c.text_at.ensures ∙ entry_same _ kind_names refl _ ∙ ap kind_name (position c.args.kind)
