use mathlib.Core.Path.{refl}
use Rattle.fallible.proofs.Grown.{grown, errs_more}
use Rattle.fallible.proofs.push.Goals as goal

pub returns : goal.returns
returns c = errs_more _ _ _ _ _ (grown _ _ _ _ c.requires refl)
