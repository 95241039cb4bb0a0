use Rattle.slices.proofs.Clearing.{filling_more}
use borrow.Author.Rules.{rules}
use Rattle.slices.proofs.fill_from.Goals as goal

pub loop-y-preserved : goal.loop-y-preserved
loop-y-preserved g c = search (filling_more, rules)
