use Rattle.steps.proofs.SameKind.{same_number, other_number}
use Rattle.steps.proofs.OneToken.{write_node_stop}
use Rattle.fallible.proofs.Calls.{left, not_refused, item_is, refused_is, exit_refused, refusal_is, stop_is}
use Rattle.fallible.specs.Answer.{item_status}
use Rattle.statement.proofs.Statements.{block_reads, guarded_stops, guarded_reads, if_stops, if_two, if_three, loop_reads, return_reads, if_reads, var_reads, break_reads, assembly_reads, end_reads, other_reads, while_reads}
use native.Mathlib.Omega.{arith}
use mathlib.Core.Path.{refl, sym, ap, ◌∙◌}
use Rattle.statement.proofs.Bodies.{body_refused, body_none, body_on, rest_closed, rest_end, rest_refused, rest_next}
use Rattle.expression_laws.proofs.Turns.{one_turn}
use Rattle.expression_laws.proofs.Loops.{loop_asked, loop_alike}
use Rattle.definition.specs.Act.{Statement}
use Rattle.steps.proofs.Constructs.{deep, down}
use Rattle.statement.proofs.+statement.Goals as goal

pub body-returns-in_err-recover : goal.body-returns-in_err-recover
body-returns-in_err-recover t c = let g = sym c.in_err-recover.ensures in
    rw (left c.from_residual.ensures.1) (rw (refused_is _ g) at
    (body_refused {x = c.args.tokens.text.now} {d = c.args.nesting} {o = c.args.file.now} c.args.tokens.held c.expect.ensures (exit_refused _ g)))

pub body-returns-in-Some : goal.body-returns-in-Some
body-returns-in-Some t c = body_on c.args.tokens.held c.expect.ensures (item_is _ (sym c.in_ok-recover.ensures) ∙ ap item_status c.in-Some.is) c.body_rest.ensures

pub body-returns-in-None : goal.body-returns-in-None
body-returns-in-None t c = body_none c.args.tokens.held c.expect.ensures (item_is _ (sym c.in_ok-recover.ensures) ∙ ap item_status c.in-None.is)

pub body_rest-returns-in-RBrace : goal.body_rest-returns-in-RBrace
body_rest-returns-in-RBrace t c =
    c.loop-parser.invariant.1.rest
    (rest_closed c.loop-parser.invariant.0 c.peek-t.ensures (same_number c.in-RBrace.is))

pub body_rest-returns-in_err-note : goal.body_rest-returns-in_err-note
body_rest-returns-in_err-note t c = rw (left c.from_residual.ensures.1)
    (c.loop-parser.invariant.1.rest (loop_alike refl refl (λ z. absurd (refusal_is _ z))
    (rest_end c.loop-parser.invariant.0 c.peek-t.ensures (same_number c.in-End.is) c.at_end-error.ensures c.in_err-note.ensures)))

pub body_rest-returns-in-End : goal.body_rest-returns-in-End
body_rest-returns-in-End t c = c.loop-parser.invariant.1.rest
    (rest_end c.loop-parser.invariant.0 c.peek-t.ensures (same_number c.in-End.is) c.at_end-error.ensures c.in_ok-note.ensures)

pub body_rest-returns-in_err-parsed : goal.body_rest-returns-in_err-parsed
body_rest-returns-in_err-parsed t c = let g = sym c.in_err-parsed.ensures in
    rw (left c.from_residual-in_err-parsed.ensures.1) (rw (refused_is _ g) at
    (c.loop-parser.invariant.1.rest
    (rest_refused c.loop-parser.invariant.0 c.peek-t.ensures (other_number c.in_default.not-RBrace) (other_number c.in_default-kind.not-End)
    c.statement.ensures (exit_refused _ g))))

pub body_rest-loop-parser-preserved : goal.body_rest-loop-parser-preserved
body_rest-loop-parser-preserved t c = let h = sym c.in_ok-parsed.ensures in
    let more = rw (sym (item_is _ h)) at c.counted-count.ensures in (
      loop_asked c.loop-parser.invariant.0 c.peek-t.ensures (other_number c.in_default-kind.not-End) c.statement.ensures more
          (omega (arith, c.statement.auto)) (omega (arith, c.statement.auto))
          (omega (arith, c.statement.auto)),
      one_turn c.loop-parser.invariant.1 (omega (arith, c.statement.auto))
          (omega (arith, c.statement.auto)) (omega (arith, c.statement.auto))
          c.statement.ensures.moved.at
          (λ _ _ _ _ l. rest_next c.loop-parser.invariant.0 c.peek-t.ensures (other_number c.in_default.not-RBrace)
          (other_number c.in_default-kind.not-End) c.statement.ensures (not_refused _ h) more l),
    )

pub guarded-returns-in_err-expression : goal.guarded-returns-in_err-expression
guarded-returns-in_err-expression t c = rw (left c.from_residual.ensures.1)
    (guarded_stops c.requires c.in_err-expression.ensures (stop_is _))

pub guarded-returns : goal.guarded-returns
guarded-returns t c =
    guarded_reads c.requires c.in_ok-expression.ensures refl
    c.statement-inner.ensures (omega (arith, c.expression.auto))
    c.abandon.ensures

pub if_statement-returns-in_err-guarded : goal.if_statement-returns-in_err-guarded
if_statement-returns-in_err-guarded t c = rw (left c.from_residual.ensures.1)
    (if_stops c.args.place c.requires c.in_err-guarded.ensures (stop_is _))

pub if_statement-returns-in_default : goal.if_statement-returns-in_default
if_statement-returns-in_default t c =
    if_two c.args.place c.requires c.in_ok-guarded.ensures refl c.peek-t.ensures (other_number c.in_default.not-KwElse)
    (c.write_node.ensures _ _)

pub if_statement-returns-in_err-abandon : goal.if_statement-returns-in_err-abandon
if_statement-returns-in_err-abandon t c = rw (left c.from_residual-in_err-abandon.ensures.1)
    (if_three c.args.place c.requires c.in_ok-guarded.ensures refl c.peek-t.ensures (same_number c.in-KwElse.is)
    c.statement-branch.ensures (omega (arith, c.guarded.auto))
    c.in_err-abandon.ensures (write_node_stop (stop_is _)))

pub if_statement-returns : goal.if_statement-returns
if_statement-returns t c =
    if_three c.args.place c.requires c.in_ok-guarded.ensures refl c.peek-t.ensures (same_number c.in-KwElse.is)
    c.statement-branch.ensures (omega (arith, c.guarded.auto))
    c.in_ok-abandon.ensures (c.write_node-2.ensures _ _)

pub statement_rule-returns-in-KwReturn : goal.statement_rule-returns-in-KwReturn
statement_rule-returns-in-KwReturn t c = return_reads c.requires c.peek-t.ensures (same_number c.in-KwReturn.is) c.return_statement.ensures

pub statement_rule-returns-in-KwVar : goal.statement_rule-returns-in-KwVar
statement_rule-returns-in-KwVar t c = var_reads c.requires c.peek-t.ensures (same_number c.in-KwVar.is) c.declaration.ensures

pub statement_rule-returns-in_err-body-in-LBrace : goal.statement_rule-returns-in_err-body-in-LBrace
statement_rule-returns-in_err-body-in-LBrace t c = rw (left c.from_residual.ensures.1)
    (block_reads c.requires c.peek-t.ensures (same_number c.in-LBrace.is) c.in_err-body-in-LBrace.ensures (write_node_stop (refusal_is _)))

pub statement_rule-returns-in_ok-body-in-LBrace : goal.statement_rule-returns-in_ok-body-in-LBrace
statement_rule-returns-in_ok-body-in-LBrace t c =
    block_reads c.requires c.peek-t.ensures (same_number c.in-LBrace.is) c.in_ok-body-in-LBrace.ensures (c.write_node.ensures _ _)

pub statement_rule-returns-in_err-statement-in-KwLoop : goal.statement_rule-returns-in_err-statement-in-KwLoop
statement_rule-returns-in_err-statement-in-KwLoop t c = rw (left c.from_residual-in_err-statement-in-KwLoop.ensures.1)
    (loop_reads c.requires c.peek-t.ensures (same_number c.in-KwLoop.is) c.in_err-statement-in-KwLoop.ensures
    (write_node_stop (stop_is _)))

pub statement_rule-returns-in_ok-statement-in-KwLoop : goal.statement_rule-returns-in_ok-statement-in-KwLoop
statement_rule-returns-in_ok-statement-in-KwLoop t c =
    loop_reads c.requires c.peek-t.ensures (same_number c.in-KwLoop.is) c.in_ok-statement-in-KwLoop.ensures
    (c.write_node-in-KwLoop.ensures _ _)

pub statement_rule-returns-in_err-guarded-in-KwWhile : goal.statement_rule-returns-in_err-guarded-in-KwWhile
statement_rule-returns-in_err-guarded-in-KwWhile t c = rw (left c.from_residual-in_err-guarded-in-KwWhile.ensures.1)
    (while_reads c.requires c.peek-t.ensures (same_number c.in-KwWhile.is) c.in_err-guarded-in-KwWhile.ensures
    (write_node_stop (stop_is _)))

pub statement_rule-returns-in_ok-guarded-in-KwWhile : goal.statement_rule-returns-in_ok-guarded-in-KwWhile
statement_rule-returns-in_ok-guarded-in-KwWhile t c =
    while_reads c.requires c.peek-t.ensures (same_number c.in-KwWhile.is) c.in_ok-guarded-in-KwWhile.ensures
    (c.write_node-in-KwWhile.ensures _ _)

pub statement_rule-returns-in_err-expect-in-KwBreak : goal.statement_rule-returns-in_err-expect-in-KwBreak
statement_rule-returns-in_err-expect-in-KwBreak t c = rw (left c.from_residual-in_err-expect-in-KwBreak.ensures.1)
    (break_reads c.requires c.peek-t.ensures (same_number c.in-KwBreak.is) c.in_err-expect-in-KwBreak.ensures
    (write_node_stop (stop_is _)))

pub statement_rule-returns-in_ok-expect-in-KwBreak : goal.statement_rule-returns-in_ok-expect-in-KwBreak
statement_rule-returns-in_ok-expect-in-KwBreak t c =
    break_reads c.requires c.peek-t.ensures (same_number c.in-KwBreak.is) c.in_ok-expect-in-KwBreak.ensures
    (c.write_node-in-KwBreak.ensures _ _)

pub statement_rule-returns-in-KwIf : goal.statement_rule-returns-in-KwIf
statement_rule-returns-in-KwIf t c = if_reads c.requires c.peek-t.ensures (same_number c.in-KwIf.is) c.if_statement.ensures

pub statement_rule-returns-in-InlineAssemblyFragment : goal.statement_rule-returns-in-InlineAssemblyFragment
statement_rule-returns-in-InlineAssemblyFragment t c =
    assembly_reads c.requires c.peek-t.ensures (same_number c.in-InlineAssemblyFragment.is)
    c.leaf.ensures

pub statement_rule-returns-in-End : goal.statement_rule-returns-in-End
statement_rule-returns-in-End t c =
    end_reads c.requires c.peek-t.ensures (same_number c.in-End.is) c.at_end-error.ensures c.raise.ensures

pub statement_rule-returns-in_default : goal.statement_rule-returns-in_default
statement_rule-returns-in_default t c =
    other_reads c.peek-t.ensures (other_number c.in_default.not-KwReturn) (other_number c.in_default.not-KwVar) (other_number c.in_default.not-LBrace)
    (other_number c.in_default.not-KwLoop) (other_number c.in_default.not-KwWhile) (other_number c.in_default.not-KwBreak) (other_number c.in_default.not-KwIf) (other_number c.in_default.not-InlineAssemblyFragment)
    (other_number c.in_default.not-End) c.expression_statement.ensures

pub statement-returns-then-nesting-eq0 : goal.statement-returns-then-nesting-eq0
statement-returns-then-nesting-eq0 t c = deep Statement c.requires.asks c.if-nesting-eq0.true c.refuse.ensures

pub statement-returns : goal.statement-returns
statement-returns t c = down Statement c.if-nesting-eq0.false c.statement_rule.ensures
