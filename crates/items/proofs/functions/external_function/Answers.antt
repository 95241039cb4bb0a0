use native.Mathlib.Omega.{arith}
use Rattle.fallible.specs.Answer.{nowhere}
use Rattle.fallible.proofs.Calls.{left, stop_is}
use Rattle.steps.proofs.OneToken.{write_node_stop}
use Rattle.items.proofs.Definitions.{external_on}
use Rattle.items.proofs.functions.external_function.Goals as goal

pub returns-in_err-expect_after : goal.returns-in_err-expect_after
returns-in_err-expect_after c = rw (left c.from_residual.ensures.1)
    (λ d. external_on c.requires (c.in_err-expect_after.ensures _ _) d (write_node_stop (stop_is _)))

pub write_text_node-requires : goal.write_text_node-requires
write_text_node-requires c = omega (arith, (c.in_ok-expect_after.ensures nowhere 0).high)

pub returns : goal.returns
returns c = λ d. external_on c.requires (c.in_ok-expect_after.ensures _ _) d (c.write_text_node.ensures _ _)
