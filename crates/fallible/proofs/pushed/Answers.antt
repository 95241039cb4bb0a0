use mathlib.Core.Path.{refl}
use Rattle.fallible.proofs.pushed.Goals as goal

pub returns : goal.returns
returns c = record { is = refl; reported = c.push.ensures; full = c.push-2.ensures }
