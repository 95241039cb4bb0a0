use Rattle.fallible.proofs.Calls.{left}
use Rattle.parser.proofs.Entering.{losses_refused, parse_reads}
use Rattle.parser.proofs.losses.parse_tokens.Goals as goal

pub returns-in_err-enter_losses : goal.returns-in_err-enter_losses
returns-in_err-enter_losses c = rw (left c.from_residual.ensures.1) (losses_refused c.in_err-enter_losses.ensures)

pub returns : goal.returns
returns c = parse_reads c.in_ok-enter_losses.ensures c.module.result c.module.ensures
