use Rattle.fallible.proofs.Calls.{left, stop_is}
use Rattle.steps.proofs.OneToken.{write_node_stop}
use Rattle.items.specs.Rules.{path_rule}
use Rattle.items.proofs.Aliased.{named_on, path_done}
use Rattle.items.proofs.others.path.Goals as goal

pub returns-in_err-t : goal.returns-in_err-t
unfolding path_rule
returns-in_err-t c = rw (left c.from_residual.ensures.1) (λ d. c.in_err-t.ensures d _ _)

pub returns-in_err-expect : goal.returns-in_err-expect
returns-in_err-expect c = rw (left c.from_residual-in_err-expect.ensures.1)
    (λ d. path_done d _ c.requires c.in_ok-t.ensures.seen c.in_ok-t.ensures.kind
    (named_on c.in_ok-t.ensures c.in_err-expect.ensures) (write_node_stop (stop_is _)))

pub returns : goal.returns
returns c =
    λ d. path_done d _ c.requires c.in_ok-t.ensures.seen c.in_ok-t.ensures.kind
    (named_on c.in_ok-t.ensures c.in_ok-expect.ensures) (c.write_text_node.ensures _ _)
