use mathlib.Core.Path.{subst}
use mathlib.Core.List.{append-nil}
use Rattle.stored.specs.Nodes.{Come}
use Rattle.stored.proofs.Taking.{none_came}
use Rattle.stored.proofs.nodes.last.Goals as goal

pub returns : goal.returns
returns c = subst (λ ks. Come ks c.args.waiting.now c.and_before.result) (append-nil _) (c.and_before.ensures _ (none_came _))
