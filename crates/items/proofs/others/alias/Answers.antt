use mathlib.Core.Path.{refl}
use Rattle.fallible.specs.Answer.{nowhere}
use Rattle.fallible.proofs.Calls.{left, stop_is}
use Rattle.steps.proofs.OneToken.{expected_stop, write_node_stop}
use Rattle.items.proofs.Aliased.{named_on, alias_stops, alias_done}
use Rattle.items.specs.Rules.{alias_rule}
use native.Mathlib.Omega.{arith}
use Rattle.items.proofs.others.alias.Goals as goal

pub returns-in_err-t : goal.returns-in_err-t
unfolding alias_rule
returns-in_err-t c = rw (left c.from_residual.ensures.1) (c.in_err-t.ensures _ _ _)

pub returns-in_err-expect : goal.returns-in_err-expect
returns-in_err-expect c = rw (left c.from_residual-in_err-expect.ensures.1)
    (alias_stops _ _ _ c.requires c.in_ok-t.ensures.seen c.in_ok-t.ensures.kind
    (named_on c.in_ok-t.ensures c.in_err-expect.ensures) (stop_is _))

pub returns-in_err-ty : goal.returns-in_err-ty
returns-in_err-ty c = rw (left c.from_residual-in_err-ty.ensures.1)
    (alias_done _ _ _ c.requires c.in_ok-t.ensures.seen c.in_ok-t.ensures.kind
    (named_on c.in_ok-t.ensures c.in_ok-expect.ensures) refl c.in_err-ty.ensures
    (omega arith) (omega arith) (λ p. expected_stop p (stop_is _)) refl (write_node_stop (stop_is _)))

pub returns-in_err-expect_after : goal.returns-in_err-expect_after
returns-in_err-expect_after c = rw (left c.from_residual-in_err-expect_after.ensures.1)
    (alias_done _ _ _ c.requires c.in_ok-t.ensures.seen c.in_ok-t.ensures.kind
    (named_on c.in_ok-t.ensures c.in_ok-expect.ensures) refl c.in_ok-ty.ensures
    (omega arith) (omega arith) (λ _. c.in_err-expect_after.ensures _ _) refl (write_node_stop (stop_is _)))

pub write_text_node-requires : goal.write_text_node-requires
write_text_node-requires c = omega (
  arith,
  (c.in_ok-expect_after.ensures nowhere 0).high,
  c.in_ok-t.ensures.seen.pays,
  (named_on c.in_ok-t.ensures c.in_ok-expect.ensures).moved.room,
)

pub returns : goal.returns
returns c =
    alias_done _ _ _ c.requires c.in_ok-t.ensures.seen c.in_ok-t.ensures.kind
    (named_on c.in_ok-t.ensures c.in_ok-expect.ensures) refl c.in_ok-ty.ensures
    (omega arith) (omega arith) (λ _. c.in_ok-expect_after.ensures _ _)
    (rw (c.from.ensures, c.from-2.ensures)) (c.write_text_node.ensures _ _)
