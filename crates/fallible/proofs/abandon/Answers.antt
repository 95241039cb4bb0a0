use mathlib.Core.Path.{ap}
use Rattle.fallible.specs.Answer.{stop_status}
use Rattle.fallible.proofs.Cuts.{cut}
use Rattle.fallible.proofs.abandon.Goals as goal

pub returns-in-Err-Fatal : goal.returns-in-Err-Fatal
returns-in-Err-Fatal c = cut c.requires (rw c.in-Err-Fatal.is (ap stop_status (rw c.in-Err-Fatal.is at c.in-Err-Fatal.field-0-is))) c.propagate.ensures
