use Rattle.stored.proofs.Taking.{none_came}
use Rattle.stored.proofs.nodes.take_off.Goals as goal

pub returns-in-Empty : goal.returns-in-Empty
returns-in-Empty c = rw c.in-Empty.is (none_came _)
