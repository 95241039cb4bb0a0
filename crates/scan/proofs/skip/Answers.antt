use Rattle.scan.proofs.Laws.{skip_end}
use borrow.Author.Rules.{rules}
use Rattle.scan.proofs.skip.Goals as goal

pub returns-else-c-s : goal.returns-else-c-s
returns-else-c-s c = search (skip_end, rules)
