use Rattle.stored.proofs.Judging.{nodes_left}
use Rattle.stored.proofs.judge.close.Goals as goal

pub returns-then-top-waiting : goal.returns-then-top-waiting
returns-then-top-waiting c = nodes_left _ _ _ _ _ c.in_ok-children.ensures c.if-top-waiting.true
