use mathlib.Core.Path.{ap, ◌∙◌}
use native.Mathlib.Omega.{arith}
use Rattle.std.specs.Option.{unwrap_or}
use Rattle.scan.proofs.Laws.{looked}
use Rattle.scan.proofs.look.Goals as goal

pub returns : goal.returns
returns c = ap (λ o. unwrap_or o 0) c.copied.ensures ∙ c.get.ensures.lookup.4 (omega arith) 0 ∙ looked c.requires
