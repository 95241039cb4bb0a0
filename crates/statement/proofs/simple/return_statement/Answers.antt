use Rattle.fallible.proofs.Calls.{left, stop_is}
use Rattle.fallible.specs.Answer.{nowhere}
use Rattle.steps.proofs.OneToken.{expected_stop, write_node_stop}
use Rattle.steps.proofs.SameKind.{same_number, other_number}
use Rattle.statement.proofs.Statements.{return_none, return_value}
use native.Mathlib.Omega.{arith}
use Rattle.statement.proofs.simple.return_statement.Goals as goal

pub returns-in-Semicolon : goal.returns-in-Semicolon
returns-in-Semicolon c = return_none c.requires c.peek-t.ensures (same_number c.in-Semicolon.is) (c.write_node.ensures _ _)

pub returns-in_err-expression : goal.returns-in_err-expression
returns-in_err-expression c = rw (left c.from_residual.ensures.1)
    (return_value c.requires c.peek-t.ensures (other_number c.in_default.not-Semicolon) c.in_err-expression.ensures
    (omega (arith, c.expression.auto)) (omega (arith, c.expression.auto))
    (λ p. expected_stop p (stop_is _)) (write_node_stop (stop_is _)))

pub returns-in_err-expect_after : goal.returns-in_err-expect_after
returns-in_err-expect_after c = rw (left c.from_residual-in_err-expect_after.ensures.1)
    (return_value c.requires c.peek-t.ensures (other_number c.in_default.not-Semicolon) c.in_ok-expression.ensures
    (omega (arith, c.expression.auto)) (omega (arith, c.expression.auto))
    (λ _. c.in_err-expect_after.ensures _ _)
    (write_node_stop (stop_is _)))

pub write_node-requires-2 : goal.write_node-requires-2
write_node-requires-2 c = omega (arith, c.requires.room, c.expression.ensures.moved.room, (c.in_ok-expect_after.ensures nowhere 0).high, c.expression.auto)

pub returns : goal.returns
returns c =
    return_value c.requires c.peek-t.ensures (other_number c.in_default.not-Semicolon) c.in_ok-expression.ensures
    (omega (arith, c.expression.auto)) (omega (arith, c.expression.auto))
    (λ _. c.in_ok-expect_after.ensures _ _) (c.write_node-2.ensures _ _)
