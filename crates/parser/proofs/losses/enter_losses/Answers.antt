use Rattle.fallible.proofs.Calls.{left}
use Rattle.parser.proofs.Entering.{entering, entering_kept, entering_one, entering_refused, entering_done}
use Rattle.parser.proofs.losses.enter_losses.Goals as goal
use Rattle.parser.proofs.losses.enter_losses.Goals.{then-tokens-at-eq1+in_ok-enter, else-tokens-at-eq1}

pub loop-at-init : goal.loop-at-init
loop-at-init c = entering c.requires

pub returns-in_err-enter : goal.returns-in_err-enter
returns-in_err-enter c =
    rw (left c.from_residual.ensures.1)
    (entering_refused c.loop-at.invariant c.loop-at-test.true c.if-tokens-at-eq1.true c.in_err-enter.ensures)

pub loop-at-preserved : goal.loop-at-preserved
loop-at-preserved c = elim c.if-tokens-at-eq1.branch [
  | then-tokens-at-eq1+in_ok-enter w ↦
      rw w.parser-is (entering_one c.loop-at.invariant c.loop-at-test.true w.if-tokens-at-eq1.true w.peek.ensures w.loss.ensures
      w.in_ok-enter.ensures)
  | else-tokens-at-eq1 w ↦
      rw w.parser-is (entering_kept c.loop-at.invariant c.loop-at-test.true w.if-tokens-at-eq1.false)
]

pub returns : goal.returns
returns c = entering_done c.loop-at.invariant c.loop-at-test.false
