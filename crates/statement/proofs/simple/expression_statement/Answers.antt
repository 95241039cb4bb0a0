use Rattle.fallible.proofs.Calls.{left, stop_is}
use Rattle.fallible.specs.declared.error.Error.{Error}
use Rattle.fallible.specs.Answer.{nowhere, Answer, node_answer}
use Rattle.fallible.specs.Answers.{Abandoned}
use Rattle.definition.specs.Parser as P
use Rattle.definition.specs.Places.{place_of}
use Rattle.node.specs.Put.{placed}
use Rattle.node.specs.declared.Numbers.TheVariants.{None}
use Rattle.statement.proofs.Assigned.{statement_stops, statement_errors, statement_after, valued_after}
use Rattle.steps.proofs.Moves.{asked_moved}
use Rattle.steps.proofs.OneToken.{expected_stop, write_node_stop}
use Rattle.steps.specs.Shows.{Reads, node, Follows, Expected, NodeWritten}
use native.Mathlib.Omega.{arith}
use mathlib.Core.List.{List, []}
use mathlib.Core.Path.{◌≡◌, refl}
use Prim.Native.Nat.{ℕ}
use lib.ListN.{length}
use Rattle.statement.proofs.simple.expression_statement.Goals as goal
use Rattle.statement.proofs.simple.expression_statement.Goals.{After-optional_value-value}

pub returns-in_err-expression : goal.returns-in_err-expression
returns-in_err-expression c = rw (left c.from_residual.ensures.1)
    (statement_stops c.args.tokens.parts c.requires c.in_err-expression.ensures _ (stop_is _))

pub returns-then-from-before : goal.returns-then-from-before
returns-then-from-before c =
    statement_errors c.args.tokens.parts c.requires c.in_ok-expression.ensures _ refl
    (omega (arith, c.expression.auto)) (omega (arith, c.expression.auto)) c.if-from-before.true (c.write_node.ensures _ _)

pub write_node-requires-2 : goal.write_node-requires-2
write_node-requires-2 c = omega (
  arith,
  c.requires.room,
  c.expression.ensures.moved.room,
  c.optional_value-value.ensures.moved.room,
  c.abandon.ensures.high,
  (c.in_ok-expect_after.ensures nowhere 0).high,
  c.expression.auto,
  c.optional_value-value.auto,
)

-- the statement after its target: the value's answer b, then `;` with the answer y, then the record
ended : (c : After-optional_value-value) {o2 : List ℕ} {r2 r3 f3 : List Error} {b y z : Answer}
    → Abandoned c.optional_value-value.new.parser.reported (node_answer c.optional_value-value.result.0 c.optional_value-value.new.parser.state) c.args.parser.now.state.pos
    c.args.parser.now.state.reported c.expression.new.parser.state.reported r2 b
    → length r2 ≡ length c.optional_value-value.new.parser.reported
    → (Follows c.args.tokens.count r2 c.optional_value-value.new.parser.full b c.args.parser.now.state.pos c.args.parser.now.state.reported
    → Expected c.args.tokens.records.now c.args.tokens.count 50 c.args.parser.now.state.pos c.args.parser.now.state.reported
    r2 c.optional_value-value.new.parser.full b r3 f3 y)
    → NodeWritten c.optional_value-value.new.file y (placed c.args.place c.optional_value-value.result.1 None []) o2 z
    → Reads node c.args.tokens.records.now c.args.tokens.text.now c.args.tokens.count c.args.nesting
    (P.expression_statement (place_of c.args.place)) c.args.file.now c.args.parser.now.reported c.args.parser.now.full
    c.args.parser.now.state o2 r3 f3 z
ended c C lr X F =
    let q = asked_moved c.requires c.expression.ensures.moved (omega (arith, c.expression.auto))
    (omega (arith, c.expression.auto)) (omega (arith, c.expression.auto)) in
    -- the target has no errors
    let none : c.args.parser.now.state.reported ≡ c.expression.new.parser.state.reported =
    omega (arith, c.if-from-before.false, c.expression.ensures.moved.reported) in
    let C = rw none at C in
    let X = rw none at X in
    let hi = c.expression.ensures.moved.pos in
    statement_after c.args.tokens.parts c.requires c.in_ok-expression.ensures _ refl (omega (arith, c.expression.auto))
    (omega (arith, c.expression.auto)) (λ e. omega (arith, e, c.if-from-before.false)) (valued_after q hi c.optional_value-value.ensures C
    (omega (arith, lr, c.optional_value-value.auto)) (omega (arith, c.optional_value-value.auto)) X F refl)

pub returns-in_err-abandon : goal.returns-in_err-abandon
returns-in_err-abandon c = rw (left c.from_residual-in_err-abandon.ensures.1)
    (ended (goal.at.returns-in_err-abandon c).After-optional_value-value c.in_err-abandon.ensures (omega (arith, c.abandon.auto))
    (λ p. expected_stop p (stop_is _)) (write_node_stop (stop_is _)))

pub returns-in_err-expect_after : goal.returns-in_err-expect_after
returns-in_err-expect_after c = rw (left c.from_residual-in_err-expect_after.ensures.1)
    (ended (goal.at.returns-in_err-expect_after c).After-optional_value-value c.in_ok-abandon.ensures (omega (arith, c.abandon.auto))
    (λ _. c.in_err-expect_after.ensures _ _) (write_node_stop (stop_is _)))

pub returns : goal.returns
returns c =
    ended (goal.at.returns c).After-optional_value-value c.in_ok-abandon.ensures (omega (arith, c.abandon.auto))
    (λ _. c.in_ok-expect_after.ensures _ _) (c.write_node-2.ensures _ _)
