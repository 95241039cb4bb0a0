use Rattle.parser.proofs.Entering.{Entering}
use Rattle.parser.proofs.losses.enter_losses.Given as goal

abbrev pub invariant-loop-at : goal.invariant-loop-at
invariant-loop-at l =
    let t = l.fn.tokens in Entering t.records.now t.text.now t.count l.parser.full l.parser.state l.at
