use mathlib.Core.Path.{refl}
use native.Mathlib.Omega.{arith}
use Rattle.sentences.proofs.Spelled.{entry_or}
use Rattle.sentences.proofs.spelling.text_at.Goals as goal

pub returns : goal.returns
returns c = rw (c.unwrap_or.ensures, c.copied.ensures, c.get.ensures.lookup.4 (omega arith)) (entry_or _ _ _ refl)
