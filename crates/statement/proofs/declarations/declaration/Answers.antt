use Rattle.fallible.proofs.Calls.{left, stop_is}
use Rattle.steps.proofs.OneToken.{expected_stop, write_node_stop}
use Rattle.statement.proofs.Declared.{declaration_room, declaration_reads}
use mathlib.Core.Path.{refl}
use native.Mathlib.Omega.{arith}
use Rattle.statement.proofs.declarations.declaration.Goals as goal

pub returns-in_err-var_like_declaration : goal.returns-in_err-var_like_declaration
returns-in_err-var_like_declaration c = rw (left c.from_residual.ensures.1)
    (declaration_reads c.requires c.peek-t.ensures c.in_err-var_like_declaration.ensures
    (λ p. expected_stop p (stop_is _)) c.args.tag (omega (arith, c.var_like_declaration.auto))
    (omega (arith, c.var_like_declaration.auto)) (write_node_stop (stop_is _)))

pub returns-in_err-expect_after : goal.returns-in_err-expect_after
returns-in_err-expect_after c = rw (left c.from_residual-in_err-expect_after.ensures.1)
    (declaration_reads c.requires c.peek-t.ensures c.in_ok-var_like_declaration.ensures
    (λ _. c.in_err-expect_after.ensures _ _) c.args.tag (omega (arith, c.var_like_declaration.auto))
    (omega (arith, c.var_like_declaration.auto)) (write_node_stop (stop_is _)))

pub write_text_node-requires : goal.write_text_node-requires
write_text_node-requires c =
    rw c.name_of-name.ensures (declaration_room c.requires c.peek-t.ensures c.in_ok-var_like_declaration.ensures
    (c.in_ok-expect_after.ensures _ _) refl (omega (arith, c.var_like_declaration.auto)))

pub returns : goal.returns
returns c =
    let N = rw c.name_of-name.ensures at c.write_text_node.ensures in
    declaration_reads c.requires c.peek-t.ensures c.in_ok-var_like_declaration.ensures
    (λ _. c.in_ok-expect_after.ensures _ _) c.args.tag (omega (arith, c.var_like_declaration.auto))
    (omega (arith, c.var_like_declaration.auto)) (N _ _)
