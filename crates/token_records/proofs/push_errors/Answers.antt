use Rattle.token_records.proofs.Pushing.{pushing, pushing_more}
use borrow.Author.Rules.{rules}
use Rattle.token_records.proofs.push_errors.Goals as goal

pub loop-init : goal.loop-init
loop-init c = search (pushing, rules)

pub loop-preserved : goal.loop-preserved
loop-preserved c = search (pushing_more, rules)
