use mathlib.Core.Path.{◌∙◌}
use Rattle.source.proofs.Utf8.{utf8_ok}
use Rattle.source.proofs.valid.Goals as goal

pub returns : goal.returns
returns c = c.is_ok.ensures.value ∙ utf8_ok _ _ c.from_utf8.result _ c.from_utf8.ensures.cases
