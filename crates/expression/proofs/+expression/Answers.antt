use Rattle.fallible.specs.Answer.{nowhere}
use Rattle.steps.proofs.Moves.{moved_trans, asked_moved}
use mathlib.Core.Path.{refl, sym, ◌∙◌}
use Rattle.steps.proofs.SameKind.{same_number, other_number, equal_kinds, unequal_kinds}
use Rattle.expression_laws.specs.Post.{suffixes_on, operators_on, casts_on}
use Rattle.expression_laws.proofs.Joins.{then_asked, goes_on, goes_stops, turn_on, joined_on}
use Rattle.expression_laws.proofs.Turns.{one_turn}
use Rattle.expression_laws.proofs.Suffixes.{index_asks, suffix_none, suffix_star, star_moved, dot_end, dot_name, dot_moved, dot_other, index_moved, suffix_index}
use native.Mathlib.Omega.{arith}
use Rattle.definition.specs.Act.{AddSub, BitAnd, BitXor, Expression, Mul, Shift, Unary}
use Rattle.expression_laws.proofs.Types.{array_no_integer, array_no_size, array_open, array_done, type_deep, type_name, type_star, type_array, type_struct, type_end, type_other}
use Rattle.expression_laws.proofs.Calls.{sizeof_asks, atom_group, call_on, call_none, call_found, sizeof_other, sizeof_stop, sizeof_done, unary_none, unary_prefix}
use Rattle.leaves.proofs.Choices.{level_there, no_operator, operator_real, level_end}
use Rattle.definition.specs.Numbers.{kind_number}
use Rattle.leaves.specs.Leaves.{level_of}
use Rattle.expression_laws.proofs.Levels.{levels_stop, not_some, operators_none, levels_start, levels_more, levels_end, levels_pass, and_on, and_none, and_found, casts_none, casts_more, compare_on, compare_none, compare_found, operators_more}
use Rattle.steps.proofs.Constructs.{then_stops, deep, down}
use Rattle.expression_laws.proofs.Names.{bare_stops, field_follows, field_stops, field_room, field_done, named_reads, colon_stops, colon_read, identifier_name, identifier_end, identifier_refused, identifier_noted}
use Rattle.expression_laws.proofs.Lists.{item_argument, list_refused, list_on, rest_end, rest_closed, rest_item, rest_comma, rest_next, rest_asked}
use Rattle.expression_laws.proofs.Operands.{name_operand}
use Rattle.fallible.proofs.Calls.{left, passed_on, is_done, is_stop, stop_is, not_refused, item_is, refused_is, exit_refused, is_whole, is_refused, refusal_is, not_whole}
use Rattle.steps.proofs.Answers.{goes_alike}
use Rattle.steps.proofs.OneToken.{expected_stop, write_node_stop}
use Rattle.expression_laws.proofs.Loops.{loop_alike}
use Rattle.definition.specs.Parser as P
use Rattle.expression.proofs.+expression.Goals as goal

pub atom-returns-in_default : goal.atom-returns-in_default
atom-returns-in_default t c = c.literal.ensures _

pub atom-returns : goal.atom-returns
atom-returns t c =
    atom_group c.requires c.peek-t.ensures (same_number c.in-LParen.is)
    c.expression-a.ensures c.close.ensures

pub expression-returns-then-nesting-eq0 : goal.expression-returns-then-nesting-eq0
expression-returns-then-nesting-eq0 t c =
    deep Expression c.requires.asks c.if-nesting-eq0.true c.refuse.ensures

pub expression-returns : goal.expression-returns
expression-returns t c = down Expression c.if-nesting-eq0.false c.boolean.ensures

pub item-returns-in-Arguments : goal.item-returns-in-Arguments
item-returns-in-Arguments t c = item_argument c.in-Arguments.is c.expression.ensures

pub list-returns-in_err-recover : goal.list-returns-in_err-recover
list-returns-in_err-recover t c = let g = sym c.recover.ensures ∙ c.in_err-recover.was in
    rw (left c.from_residual.ensures.1) (rw (refused_is _ g) at
    (list_refused {x = c.args.tokens.text.now} _ c.args.tokens.held c.requires c.brackets-open.ensures.0 c.expect.ensures {d = c.args.nesting} (exit_refused _ g)))

pub list-returns-in-End : goal.list-returns-in-End
list-returns-in-End t c = list_on _ c.args.tokens.held c.requires c.brackets-open.ensures.0 c.expect.ensures
    (not_refused _ (sym c.recover.ensures ∙ c.in_ok-recover.was))
    (c.loop-error.invariant.1.rest
    (loop_alike (sym (is_whole c.in_ok-note.was)) refl (λ z. (refl, refl))
    (rest_end _ c.loop-error.invariant.0 c.peek-t.ensures (same_number c.in-End.is)
    c.at_end-error.ensures c.note.ensures)))

pub list-returns-then-eq : goal.list-returns-then-eq
list-returns-then-eq t c = list_on _ c.args.tokens.held c.requires c.brackets-open.ensures.0 c.expect.ensures
    (not_refused _ (sym c.recover.ensures ∙ c.in_ok-recover.was))
    (c.loop-error.invariant.1.rest
    (rest_closed _ c.loop-error.invariant.0 c.peek-t.ensures (other_number c.in_default.not-End)
    c.brackets-open.ensures.1 (equal_kinds c.peek-t.result.kind c.brackets-open.result.1 c.eq.ensures c.if-eq.true)))

pub list-returns-in_err-parsed : goal.list-returns-in_err-parsed
list-returns-in_err-parsed t c = let g = sym c.recover-in-loop-error.ensures ∙ c.in_err-parsed.was in
    rw (left c.from_residual-in_err-parsed.ensures.1) (rw (refused_is _ g) at (list_on _ c.args.tokens.held c.requires c.brackets-open.ensures.0 c.expect.ensures
    (not_refused _ (sym c.recover.ensures ∙ c.in_ok-recover.was))
    (c.loop-error.invariant.1.rest
    (rest_item _ c.loop-error.invariant.0 c.peek-t.ensures (other_number c.in_default.not-End)
    c.brackets-open.ensures.1 (unequal_kinds c.peek-t.result.kind c.brackets-open.result.1 c.eq.ensures c.if-eq.false) c.item-b.ensures (exit_refused _ g)))))

pub list-returns-in_err-comma : goal.list-returns-in_err-comma
list-returns-in_err-comma t c = rw (left c.from_residual-in_err-comma.ensures.1) (rw c.in_err-comma.was at (list_on _ c.args.tokens.held c.requires c.brackets-open.ensures.0 c.expect.ensures
    (not_refused _ (sym c.recover.ensures ∙ c.in_ok-recover.was))
    (c.loop-error.invariant.1.rest
    (rest_comma _ c.loop-error.invariant.0 c.peek-t.ensures (other_number c.in_default.not-End)
    c.brackets-open.ensures.1 (unequal_kinds c.peek-t.result.kind c.brackets-open.result.1 c.eq.ensures c.if-eq.false) c.item-b.ensures (not_refused _ (sym c.recover-in-loop-error.ensures ∙ c.in_ok-parsed.was))
    c.comma.ensures (not_whole c.in_err-comma.was)))))

pub list-loop-error-preserved : goal.list-loop-error-preserved
list-loop-error-preserved t c = let g = item_is _ (sym c.recover-in-loop-error.ensures ∙ c.in_ok-parsed.was) in
    let more = rw (sym g) at c.counted-count.ensures in (
      rest_asked c.loop-error.invariant.0 c.peek-t.ensures (other_number c.in_default.not-End)
          c.item-b.ensures c.comma.ensures more
          (omega (arith, c.item-b.auto)) (omega (arith, c.comma.auto, c.item-b.auto))
          (omega (arith, c.comma.auto, c.item-b.auto)),
      one_turn c.loop-error.invariant.1 (omega (arith, c.item-b.auto))
          (omega (arith, c.comma.auto, c.item-b.auto))
          (omega (arith, c.comma.auto, c.item-b.auto))
          (omega (arith, c.item-b.ensures.moved, c.comma.ensures.moved))
          (λ _ _ _ _ l. rest_next _ c.loop-error.invariant.0 c.peek-t.ensures (other_number c.in_default.not-End)
          c.brackets-open.ensures.1 (unequal_kinds c.peek-t.result.kind c.brackets-open.result.1 c.eq.ensures c.if-eq.false) c.item-b.ensures (not_refused _ (sym c.recover-in-loop-error.ensures ∙ c.in_ok-parsed.was))
          c.comma.ensures (is_whole c.in_ok-comma.was) more l),
    )

pub typed_name-returns-in-Identifier : goal.typed_name-returns-in-Identifier
typed_name-returns-in-Identifier t c =
    identifier_name c.requires c.peek-t.ensures (same_number c.in-Identifier.is)
    c.typed.ensures

pub typed_name-returns-in-End : goal.typed_name-returns-in-End
typed_name-returns-in-End t c =
    identifier_end c.requires c.peek-t.ensures (same_number c.in-End.is)
    c.at_end-error.ensures c.raise.ensures

pub typed_name-returns-in_err-note-in_default : goal.typed_name-returns-in_err-note-in_default
typed_name-returns-in_err-note-in_default t c = rw (left c.from_residual.ensures.1) (rw c.in_err-note-in_default.was at
    (identifier_refused c.requires c.peek-t.ensures (other_number c.in_default.not-Identifier) (other_number c.in_default.not-End)
    c.at-error.ensures c.note.ensures {d = c.args.nesting} (not_whole c.in_err-note-in_default.was)))

pub typed_name-returns-in_ok-note-in_default : goal.typed_name-returns-in_ok-note-in_default
typed_name-returns-in_ok-note-in_default t c =
    identifier_noted c.requires c.peek-t.ensures (other_number c.in_default.not-Identifier) (other_number c.in_default.not-End)
    c.at-error.ensures c.note.ensures (is_whole c.in_ok-note-in_default.was)
    c.typed-in_default.ensures

pub list-returns-in_err-note : goal.list-returns-in_err-note
list-returns-in_err-note t c = rw (left c.from_residual-in_err-note.ensures.1) (list_on _ c.args.tokens.held c.requires c.brackets-open.ensures.0 c.expect.ensures
    (not_refused _ (sym c.recover.ensures ∙ c.in_ok-recover.was))
    (c.loop-error.invariant.1.rest
    (loop_alike (sym (is_refused c.in_err-note.was)) refl (λ z. absurd (refusal_is _ z))
    (rest_end _ c.loop-error.invariant.0 c.peek-t.ensures (same_number c.in-End.is)
    c.at_end-error.ensures c.note.ensures))))

pub boolean-returns-in_err-place : goal.boolean-returns-in_err-place
unfolding P.expression_rule
boolean-returns-in_err-place t c =
    rw (passed_on c.in_err-place.was c.from_residual.ensures.1)
    (then_stops and_on c.comparison.ensures (is_stop c.in_err-place.was))

pub boolean-returns-in_default : goal.boolean-returns-in_default
unfolding P.expression_rule
boolean-returns-in_default t c =
    let a = c.in_ok-place.ensures in
    then_asked and_on c.requires a
    (and_none (goes_on c.requires a (omega (arith, c.comparison.auto)) (omega (arith, c.comparison.auto)) (omega (arith, c.comparison.auto))) refl c.peek-t.ensures (other_number c.in_default.not-DoubleAmpersand))

pub boolean-returns-in_err-abandon : goal.boolean-returns-in_err-abandon
unfolding P.expression_rule
boolean-returns-in_err-abandon t c =
    let a = c.in_ok-place.ensures in
    rw (passed_on c.in_err-abandon.was c.from_residual-in_err-abandon.ensures.1)
    (then_asked and_on c.requires a
    (and_found (goes_on c.requires a (omega (arith, c.comparison.auto)) (omega (arith, c.comparison.auto)) (omega (arith, c.comparison.auto))) refl c.peek-t.ensures (same_number c.in-DoubleAmpersand.is)
    c.comparison-second.ensures c.abandon.ensures (write_node_stop (is_stop c.in_err-abandon.was))))

pub boolean-returns : goal.boolean-returns
unfolding P.expression_rule
boolean-returns t c =
    let a = c.in_ok-place.ensures in
    then_asked and_on c.requires a
    (and_found (goes_on c.requires a (omega (arith, c.comparison.auto)) (omega (arith, c.comparison.auto)) (omega (arith, c.comparison.auto))) refl c.peek-t.ensures (same_number c.in-DoubleAmpersand.is)
    c.comparison-second.ensures c.in_ok-abandon.ensures (c.write_node.ensures _ _))

pub comparison-returns-in_err-place : goal.comparison-returns-in_err-place
unfolding P.parse_comparison
comparison-returns-in_err-place t c =
    rw (passed_on c.in_err-place.was c.from_residual.ensures.1)
    (then_stops compare_on c.bit_or.ensures (is_stop c.in_err-place.was))

pub comparison-returns-in_default : goal.comparison-returns-in_default
unfolding P.parse_comparison
comparison-returns-in_default t c =
    let a = c.in_ok-place.ensures in
    then_asked compare_on c.requires a
    (compare_none (goes_on c.requires a (omega (arith, c.bit_or.auto)) (omega (arith, c.bit_or.auto)) (omega (arith, c.bit_or.auto))) refl c.peek-t.ensures c.comparison_operator.ensures (not_some _ c.in_default.not-Some))

pub comparison-returns-in_err-abandon : goal.comparison-returns-in_err-abandon
unfolding P.parse_comparison
comparison-returns-in_err-abandon t c =
    let a = c.in_ok-place.ensures in
    rw (passed_on c.in_err-abandon.was c.from_residual-in_err-abandon.ensures.1)
    (then_asked compare_on c.requires a
    (compare_found (goes_on c.requires a (omega (arith, c.bit_or.auto)) (omega (arith, c.bit_or.auto)) (omega (arith, c.bit_or.auto))) refl c.peek-t.ensures c.comparison_operator.ensures c.in-Some.is
    c.bit_or-second.ensures c.abandon.ensures (write_node_stop (is_stop c.in_err-abandon.was))))

pub comparison-returns : goal.comparison-returns
unfolding P.parse_comparison
comparison-returns t c =
    let a = c.in_ok-place.ensures in
    then_asked compare_on c.requires a
    (compare_found (goes_on c.requires a (omega (arith, c.bit_or.auto)) (omega (arith, c.bit_or.auto)) (omega (arith, c.bit_or.auto))) refl c.peek-t.ensures c.comparison_operator.ensures c.in-Some.is
    c.bit_or-second.ensures c.in_ok-abandon.ensures (c.write_node.ensures _ _))

pub bit_or-returns-in_err-place : goal.bit_or-returns-in_err-place
bit_or-returns-in_err-place t c =
    rw (passed_on c.in_err-place.was c.from_residual.ensures.1)
    (levels_pass c.requires c.cast.ensures
    (λ l. goes_stops (goes_on c.requires c.cast.ensures (omega (arith, c.cast.auto)) (omega (arith, c.cast.auto)) (omega (arith, c.cast.auto))) (is_stop c.in_err-place.was)))

pub bit_or-returns-then-not-arithmetic : goal.bit_or-returns-then-not-arithmetic
bit_or-returns-then-not-arithmetic t c =
    let a = c.in_ok-place.ensures in
    levels_pass c.requires a
    (λ l. operators_none (goes_on c.requires a (omega (arith, c.cast.auto)) (omega (arith, c.cast.auto)) (omega (arith, c.cast.auto))) refl c.peek-t.ensures l
    refl (no_operator _ (sym c.arithmetic.ensures ∙ c.if-not-arithmetic.true) l))

pub bit_or-loop-level-init : goal.bit_or-loop-level-init
bit_or-loop-level-init t c =
    let a = c.in_ok-place.ensures in
    levels_start a.moved.at (goes_on c.requires a (omega (arith, c.cast.auto)) (omega (arith, c.cast.auto)) (omega (arith, c.cast.auto)))

pub bit_or-returns-in_err-place-2 : goal.bit_or-returns-in_err-place-2
bit_or-returns-in_err-place-2 t c =
    rw (passed_on c.in_err-place-2.was c.from_residual-in_err-place-2.ensures.1)
    (levels_stop c.loop-level.invariant c.loop-level-test.true (level_there _ _ c.loop-level-test.true)
    c.operators.ensures (is_stop c.in_err-place-2.was) c.requires c.in_ok-place.ensures)

pub bit_or-loop-level-preserved : goal.bit_or-loop-level-preserved
bit_or-loop-level-preserved t c =
    levels_more c.loop-level.invariant c.loop-level-test.true (level_there _ _ c.loop-level-test.true)
    c.in_ok-place-2.ensures (omega (arith, c.operators.auto)) (omega (arith, c.operators.auto)) (omega (arith, c.operators.auto))

pub bit_or-returns : goal.bit_or-returns
bit_or-returns t c =
    levels_end c.loop-level.invariant c.loop-level-test.false c.requires c.in_ok-place.ensures

pub bit_xor-returns-in_err-first : goal.bit_xor-returns-in_err-first
unfolding P.parse_bitwise_xor
bit_xor-returns-in_err-first t c =
    rw (passed_on c.in_err-first.was c.from_residual.ensures.1)
    (then_stops (operators_on BitXor) c.bit_and.ensures (is_stop c.in_err-first.was))

pub bit_xor-returns : goal.bit_xor-returns
unfolding P.parse_bitwise_xor
bit_xor-returns t c =
    then_asked (operators_on BitXor) c.requires c.in_ok-first.ensures c.operators.ensures

pub bit_and-returns-in_err-first : goal.bit_and-returns-in_err-first
unfolding P.parse_bitwise_and
bit_and-returns-in_err-first t c =
    rw (passed_on c.in_err-first.was c.from_residual.ensures.1)
    (then_stops (operators_on BitAnd) c.shift.ensures (is_stop c.in_err-first.was))

pub bit_and-returns : goal.bit_and-returns
unfolding P.parse_bitwise_and
bit_and-returns t c =
    then_asked (operators_on BitAnd) c.requires c.in_ok-first.ensures c.operators.ensures

pub shift-returns-in_err-first : goal.shift-returns-in_err-first
unfolding P.parse_bit_shift
shift-returns-in_err-first t c =
    rw (passed_on c.in_err-first.was c.from_residual.ensures.1)
    (then_stops (operators_on Shift) c.add_sub.ensures (is_stop c.in_err-first.was))

pub shift-returns : goal.shift-returns
unfolding P.parse_bit_shift
shift-returns t c =
    then_asked (operators_on Shift) c.requires c.in_ok-first.ensures c.operators.ensures

pub add_sub-returns-in_err-first : goal.add_sub-returns-in_err-first
unfolding P.parse_add_sub
add_sub-returns-in_err-first t c =
    rw (passed_on c.in_err-first.was c.from_residual.ensures.1)
    (then_stops (operators_on AddSub) c.mul.ensures (is_stop c.in_err-first.was))

pub add_sub-returns : goal.add_sub-returns
unfolding P.parse_add_sub
add_sub-returns t c =
    then_asked (operators_on AddSub) c.requires c.in_ok-first.ensures c.operators.ensures

pub mul-returns-in_err-first : goal.mul-returns-in_err-first
unfolding P.parse_mul
mul-returns-in_err-first t c =
    rw (passed_on c.in_err-first.was c.from_residual.ensures.1)
    (then_stops (operators_on Mul) c.cast.ensures (is_stop c.in_err-first.was))

pub mul-returns : goal.mul-returns
unfolding P.parse_mul
mul-returns t c =
    then_asked (operators_on Mul) c.requires c.in_ok-first.ensures c.operators.ensures

pub operators-returns-in_default : goal.operators-returns-in_default
operators-returns-in_default t c =
    c.loop-op.invariant.1.rest (operators_none c.loop-op.invariant.0 refl c.peek-t.ensures _ c.operator.ensures (not_some _ c.in_default.not-Some))

pub operators-returns-in_err-abandon : goal.operators-returns-in_err-abandon
operators-returns-in_err-abandon t c =
    let F = write_node_stop (is_stop c.in_err-abandon.was) in
    rw (passed_on c.in_err-abandon.was c.from_residual.ensures.1)
    (c.loop-op.invariant.1.rest
    (operators_more c.loop-op.invariant.0 refl c.peek-t.ensures _ c.operator.ensures c.in-Some.is c.cascade-second.ensures c.abandon.ensures F
    (goes_stops (joined_on c.loop-op.invariant.0 c.peek-t.ensures c.cascade-second.ensures c.abandon.ensures F (omega (arith, operator_real (P.mapping (level_of c.args.level)) (kind_number c.peek-t.result.kind) (level_end _) c.operator.ensures c.in-Some.is))
    (omega (arith, c.cascade-second.auto)) (omega (arith, c.abandon.auto, c.cascade-second.auto)) (omega (arith, c.cascade-second.auto)))
    (is_stop c.in_err-abandon.was))))

pub operators-loop-op-preserved : goal.operators-loop-op-preserved
operators-loop-op-preserved t c =
    let F = c.write_node-place.ensures _ _ in (
      joined_on c.loop-op.invariant.0 c.peek-t.ensures c.cascade-second.ensures c.in_ok-abandon.ensures F
          (omega (arith, operator_real (P.mapping (level_of c.args.level)) (kind_number c.peek-t.result.kind) (level_end _) c.operator.ensures c.in-Some.is))
          (omega (arith, c.write_node-place.auto, c.cascade-second.auto)) (omega (arith, c.abandon.auto, c.cascade-second.auto)) (omega (arith, c.cascade-second.auto)),
      one_turn c.loop-op.invariant.1 (omega (arith, c.write_node-place.auto, c.cascade-second.auto)) (omega (arith, c.abandon.auto, c.cascade-second.auto)) (omega (arith, c.cascade-second.auto))
          (omega (arith, c.peek-t.ensures.up, c.cascade-second.ensures.moved, c.abandon.ensures.at, F.at))
          (λ _ _ _ _ g. operators_more c.loop-op.invariant.0 refl c.peek-t.ensures _ c.operator.ensures c.in-Some.is
          c.cascade-second.ensures c.in_ok-abandon.ensures F g),
    )

pub cast-returns-in_err-place : goal.cast-returns-in_err-place
unfolding P.parse_cast
cast-returns-in_err-place t c =
    rw (passed_on c.in_err-place.was c.from_residual.ensures.1)
    (then_stops casts_on c.operand.ensures (is_stop c.in_err-place.was))

pub cast-returns-in_default : goal.cast-returns-in_default
unfolding P.parse_cast
cast-returns-in_default t c =
    then_asked casts_on c.requires c.in_ok-place.ensures
    (c.loop-parser.invariant.1.rest
    (casts_none c.loop-parser.invariant.0 refl c.peek-t.ensures (other_number c.in_default.not-KwAs)))

pub cast-returns-in_err-abandon : goal.cast-returns-in_err-abandon
unfolding P.parse_cast
cast-returns-in_err-abandon t c =
    let F = write_node_stop (is_stop c.in_err-abandon.was) in
    rw (passed_on c.in_err-abandon.was c.from_residual-in_err-abandon.ensures.1)
    (then_asked casts_on c.requires c.in_ok-place.ensures
    (c.loop-parser.invariant.1.rest
    (casts_more c.loop-parser.invariant.0 refl c.peek-t.ensures (same_number c.in-KwAs.is) c.ty-to.ensures c.abandon.ensures F
    (goes_stops (joined_on c.loop-parser.invariant.0 c.peek-t.ensures c.ty-to.ensures c.abandon.ensures F (omega (arith, same_number c.in-KwAs.is))
    (omega (arith, c.ty-to.auto)) (omega (arith, c.abandon.auto, c.ty-to.auto)) (omega (arith, c.ty-to.auto)))
    (is_stop c.in_err-abandon.was)))))

pub cast-loop-parser-preserved : goal.cast-loop-parser-preserved
cast-loop-parser-preserved t c =
    let F = c.write_node-place.ensures _ _ in (
      joined_on c.loop-parser.invariant.0 c.peek-t.ensures c.ty-to.ensures c.in_ok-abandon.ensures F (omega (arith, same_number c.in-KwAs.is))
          (omega (arith, c.write_node-place.auto, c.ty-to.auto)) (omega (arith, c.abandon.auto, c.ty-to.auto)) (omega (arith, c.ty-to.auto)),
      one_turn c.loop-parser.invariant.1 (omega (arith, c.write_node-place.auto, c.ty-to.auto)) (omega (arith, c.abandon.auto, c.ty-to.auto)) (omega (arith, c.ty-to.auto))
          (omega (arith, c.peek-t.ensures.up, c.ty-to.ensures.moved, c.abandon.ensures.at, F.at))
          (λ _ _ _ _ g. casts_more c.loop-parser.invariant.0 refl c.peek-t.ensures (same_number c.in-KwAs.is) c.ty-to.ensures c.in_ok-abandon.ensures F g),
    )

pub operand-returns : goal.operand-returns
operand-returns t c =
    name_operand c.requires c.peek-t.ensures c.peek-u.ensures c.name_alone.ensures c.if-nesting-name_alone.false c.name.ensures
    (omega (arith, c.name.auto))

pub unary-returns-then-nesting-eq0 : goal.unary-returns-then-nesting-eq0
unary-returns-then-nesting-eq0 t c = deep Unary c.requires.asks c.if-nesting-eq0.true c.refuse.ensures

pub unary-returns-in_default : goal.unary-returns-in_default
unary-returns-in_default t c =
    unary_none c.requires c.if-nesting-eq0.false c.peek-t.ensures c.prefix.ensures
    (not_some _ c.in_default.not-Some) c.call.ensures

pub unary-returns-in_err-place : goal.unary-returns-in_err-place
unary-returns-in_err-place t c = let a = rw c.in_err-place.was at c.unary.ensures in
    rw (left c.from_residual.ensures.1)
    (unary_prefix c.requires c.if-nesting-eq0.false c.peek-t.ensures c.prefix.ensures
    c.in-Some.is a (write_node_stop (stop_is _)))

pub unary-returns : goal.unary-returns
unary-returns t c =
    unary_prefix c.requires c.if-nesting-eq0.false c.peek-t.ensures c.prefix.ensures
    c.in-Some.is c.in_ok-place.ensures (c.write_node.ensures _ _)

pub call-returns-in_err-place : goal.call-returns-in_err-place
unfolding P.parse_call
call-returns-in_err-place t c = rw (passed_on c.in_err-place.was c.from_residual.ensures.1)
    (then_stops call_on c.sizeof.ensures (is_stop c.in_err-place.was))

pub call-returns-in_default : goal.call-returns-in_default
unfolding P.parse_call
call-returns-in_default t c = let a = rw c.in_ok-place.was at c.sizeof.ensures in
    then_asked call_on c.requires a
    (call_none (goes_on c.requires a (omega (arith, c.sizeof.auto))
    (omega (arith, c.sizeof.auto)) (omega (arith, c.sizeof.auto)))
    refl c.peek-t.ensures (other_number c.in_default.not-LParen))

pub call-returns-in_err-arguments : goal.call-returns-in_err-arguments
unfolding P.parse_call
call-returns-in_err-arguments t c = let a = rw c.in_ok-place.was at c.sizeof.ensures in
    let b = rw c.in_err-arguments.was at c.list-arguments.ensures in
    rw (left c.from_residual-in_err-arguments.ensures.1) (then_asked call_on c.requires a
    (call_found (goes_on c.requires a (omega (arith, c.sizeof.auto))
    (omega (arith, c.sizeof.auto)) (omega (arith, c.sizeof.auto)))
    refl c.peek-t.ensures (same_number c.in-LParen.is) b (write_node_stop (refusal_is _))))

pub call-returns : goal.call-returns
unfolding P.parse_call
call-returns t c =
    let a = c.in_ok-place.ensures in
    let b = rw c.in_ok-arguments.was at c.list-arguments.ensures in
    then_asked call_on c.requires a
    (call_found (goes_on c.requires a (omega (arith, c.sizeof.auto)) (omega (arith, c.sizeof.auto)) (omega (arith, c.sizeof.auto))) refl c.peek-t.ensures (same_number c.in-LParen.is) b (c.write_node.ensures _ _))

pub sizeof-returns-in_default : goal.sizeof-returns-in_default
sizeof-returns-in_default t c =
    sizeof_other c.requires c.peek-t.ensures (other_number c.in_default.not-KwSizeof)
    c.access.ensures

pub sizeof-returns-in_err-expect : goal.sizeof-returns-in_err-expect
sizeof-returns-in_err-expect t c = rw (passed_on c.in_err-expect.was c.from_residual.ensures.1)
    (sizeof_stop c.requires c.peek-t.ensures (same_number c.in-KwSizeof.is) c.expect.ensures
    (is_stop c.in_err-expect.was))

pub sizeof-returns-in_err-ty : goal.sizeof-returns-in_err-ty
sizeof-returns-in_err-ty t c =
    rw (passed_on c.in_err-ty.was c.from_residual-in_err-ty.ensures.1)
    (sizeof_done c.requires c.peek-t.ensures (same_number c.in-KwSizeof.is) c.expect.ensures (is_done c.in_ok-expect.was) c.ty.ensures (omega (arith, c.ty.auto, c.expect.auto)) (omega (arith, c.ty.auto, c.expect.auto))
    (expected_stop (sizeof_asks c.requires c.peek-t.ensures (same_number c.in-KwSizeof.is) c.expect.ensures (is_done c.in_ok-expect.was) c.ty.ensures (omega (arith, c.ty.auto, c.expect.auto)) (omega (arith, c.ty.auto, c.expect.auto))) (is_stop c.in_err-ty.was)) (write_node_stop (is_stop c.in_err-ty.was)))

pub sizeof-returns-in_err-expect_after : goal.sizeof-returns-in_err-expect_after
sizeof-returns-in_err-expect_after t c =
    let X = rw c.in_err-expect_after.was at c.expect_after.ensures _ _ in
    rw (left c.from_residual-in_err-expect_after.ensures.1)
    (sizeof_done c.requires c.peek-t.ensures (same_number c.in-KwSizeof.is) c.expect.ensures (is_done c.in_ok-expect.was) c.in_ok-ty.ensures (omega (arith, c.ty.auto, c.expect.auto)) (omega (arith, c.ty.auto, c.expect.auto)) X (write_node_stop (stop_is _)))

pub sizeof-returns : goal.sizeof-returns
sizeof-returns t c =
    sizeof_done c.requires c.peek-t.ensures (same_number c.in-KwSizeof.is) c.expect.ensures (is_done c.in_ok-expect.was) c.in_ok-ty.ensures
    (omega (arith, c.ty.auto, c.expect.auto)) (omega (arith, c.ty.auto, c.expect.auto)) (rw c.in_ok-expect_after.was at c.expect_after.ensures _ _) (c.write_node.ensures _ _)

pub access-returns-in_err-place : goal.access-returns-in_err-place
unfolding P.parse_field_access_or_index
access-returns-in_err-place t c =
    rw (passed_on c.in_err-place.was c.from_residual.ensures.1)
    (then_stops suffixes_on c.atom.ensures (is_stop c.in_err-place.was))

pub access-returns-in-End : goal.access-returns-in-End
unfolding P.parse_field_access_or_index
access-returns-in-End t c =
    then_asked suffixes_on c.requires c.in_ok-place.ensures
    (c.loop-tokens.invariant.1.rest (dot_end c.loop-tokens.invariant.0 refl c.peek-t.ensures (same_number c.in-Dot.is) c.peek-u.ensures (same_number c.in-End.is) c.refuse.ensures))

pub access-returns-in_err-note-in-Dot : goal.access-returns-in_err-note-in-Dot
unfolding P.parse_field_access_or_index
access-returns-in_err-note-in-Dot t c =
    rw (left c.from_residual-in_err-note-in-Dot.ensures.1) (then_asked suffixes_on c.requires c.in_ok-place.ensures
    (c.loop-tokens.invariant.1.rest (goes_alike (sym (is_refused c.in_err-note-in-Dot.was)) refl (λ z. absurd (refusal_is _ z))
    (dot_other c.loop-tokens.invariant.0 refl c.peek-t.ensures (same_number c.in-Dot.is) c.peek-u.ensures (other_number c.in_default-kind.not-End) (other_number c.in_default-kind-2.not-Identifier) c.at-error.ensures c.note.ensures))))

pub access-returns-in_default-kind-2 : goal.access-returns-in_default-kind-2
unfolding P.parse_field_access_or_index
access-returns-in_default-kind-2 t c =
    then_asked suffixes_on c.requires c.in_ok-place.ensures
    (c.loop-tokens.invariant.1.rest (goes_alike (sym (is_whole c.in_ok-note-in-Dot.was)) refl (λ z. (refl, refl))
    (dot_other c.loop-tokens.invariant.0 refl c.peek-t.ensures (same_number c.in-Dot.is) c.peek-u.ensures (other_number c.in_default-kind.not-End) (other_number c.in_default-kind-2.not-Identifier) c.at-error.ensures c.note.ensures)))

pub access-loop-tokens-smaller-in-Dot : goal.access-loop-tokens-smaller-in-Dot
access-loop-tokens-smaller-in-Dot t c =
    omega (arith, c.loop-tokens.invariant.0.asked.asks.at, c.peek-t.ensures, same_number c.in-Dot.is, c.peek-u.ensures, (c.write_text_node-place.ensures c.peek-t.result.place 0).at)

pub access-loop-tokens-preserved-in-Dot : goal.access-loop-tokens-preserved-in-Dot
access-loop-tokens-preserved-in-Dot t c =
    let F = c.write_text_node-place.ensures _ _ in (
      turn_on c.loop-tokens.invariant.0 (dot_moved c.loop-tokens.invariant.0 c.peek-t.ensures c.peek-u.ensures (same_number c.in-Identifier.is) F)
          (omega (arith, c.write_text_node-place.auto)) refl refl,
      one_turn c.loop-tokens.invariant.1 (omega (arith, c.write_text_node-place.auto)) refl refl
          (omega (arith, c.peek-t.ensures.up, c.peek-u.ensures.up, F.at))
          (λ _ _ _ _ g. dot_name c.loop-tokens.invariant.0 refl c.peek-t.ensures (same_number c.in-Dot.is) c.peek-u.ensures (same_number c.in-Identifier.is) F g),
    )

pub access-loop-tokens-smaller-in-DotStar : goal.access-loop-tokens-smaller-in-DotStar
access-loop-tokens-smaller-in-DotStar t c =
    omega (arith, c.loop-tokens.invariant.0.asked.asks.at, c.peek-t.ensures, same_number c.in-DotStar.is, (c.write_node-place.ensures c.peek-t.result.place 0).at)

pub access-loop-tokens-preserved-in-DotStar : goal.access-loop-tokens-preserved-in-DotStar
access-loop-tokens-preserved-in-DotStar t c =
    let F = c.write_node-place.ensures _ _ in (
      turn_on c.loop-tokens.invariant.0 (star_moved c.loop-tokens.invariant.0 c.peek-t.ensures (same_number c.in-DotStar.is) F) (omega (arith, c.write_node-place.auto)) refl refl,
      one_turn c.loop-tokens.invariant.1 (omega (arith, c.write_node-place.auto)) refl refl (omega (arith, c.peek-t.ensures.up, F.at))
          (λ _ _ _ _ g. suffix_star c.loop-tokens.invariant.0 refl c.peek-t.ensures (same_number c.in-DotStar.is) F g),
    )

pub access-returns-in_err-abandon-in-LBracket : goal.access-returns-in_err-abandon-in-LBracket
unfolding P.parse_field_access_or_index
access-returns-in_err-abandon-in-LBracket t c =
    let F = write_node_stop (is_stop c.in_err-abandon-in-LBracket.was) in
    rw (passed_on c.in_err-abandon-in-LBracket.was c.from_residual-in_err-abandon-in-LBracket.ensures.1)
    (then_asked suffixes_on c.requires c.in_ok-place.ensures
    (c.loop-tokens.invariant.1.rest (suffix_index c.loop-tokens.invariant.0 refl c.peek-t.ensures (same_number c.in-LBracket.is) c.expression-index.ensures c.abandon.ensures
    (omega (arith, c.abandon.auto, c.expression-index.auto)) (omega (arith, c.expression-index.auto)) (expected_stop (index_asks c.loop-tokens.invariant.0 refl c.peek-t.ensures c.expression-index.ensures c.abandon.ensures (omega (arith, c.abandon.auto, c.expression-index.auto)) (omega (arith, c.expression-index.auto))) (is_stop c.in_err-abandon-in-LBracket.was)) F
    (goes_stops (turn_on c.loop-tokens.invariant.0 (index_moved c.loop-tokens.invariant.0 refl c.peek-t.ensures (same_number c.in-LBracket.is) c.expression-index.ensures c.abandon.ensures
    (omega (arith, c.abandon.auto, c.expression-index.auto)) (omega (arith, c.expression-index.auto))
    (expected_stop (index_asks c.loop-tokens.invariant.0 refl c.peek-t.ensures c.expression-index.ensures c.abandon.ensures (omega (arith, c.abandon.auto, c.expression-index.auto)) (omega (arith, c.expression-index.auto)))
    (is_stop c.in_err-abandon-in-LBracket.was)) F) (omega (arith, c.expression-index.auto)) (omega (arith, c.abandon.auto, c.expression-index.auto)) (omega (arith, c.expression-index.auto))) (is_stop c.in_err-abandon-in-LBracket.was)))))

pub access-returns-in_err-expect_after-in-LBracket : goal.access-returns-in_err-expect_after-in-LBracket
unfolding P.parse_field_access_or_index
access-returns-in_err-expect_after-in-LBracket t c =
    let X = rw c.in_err-expect_after-in-LBracket.was at c.expect_after.ensures _ _ in
    let F = write_node_stop (stop_is _) in
    rw (left c.from_residual-in_err-expect_after-in-LBracket.ensures.1) (then_asked suffixes_on c.requires c.in_ok-place.ensures
    (c.loop-tokens.invariant.1.rest (suffix_index c.loop-tokens.invariant.0 refl c.peek-t.ensures (same_number c.in-LBracket.is) c.expression-index.ensures c.in_ok-abandon-in-LBracket.ensures
    (omega (arith, c.abandon.auto, c.expression-index.auto)) (omega (arith, c.expression-index.auto)) X F
    (goes_stops (turn_on c.loop-tokens.invariant.0 (index_moved c.loop-tokens.invariant.0 refl c.peek-t.ensures (same_number c.in-LBracket.is) c.expression-index.ensures c.in_ok-abandon-in-LBracket.ensures
    (omega (arith, c.abandon.auto, c.expression-index.auto)) (omega (arith, c.expression-index.auto)) X F) (omega (arith, c.expression-index.auto)) (omega (arith, c.expect_after.auto, c.abandon.auto, c.expression-index.auto)) (omega (arith, c.expect_after.auto, c.expression-index.auto))) (stop_is _)))))

pub access-write_node-place-requires-in-LBracket : goal.access-write_node-place-requires-in-LBracket
access-write_node-place-requires-in-LBracket t c =
    let X = c.expect_after.ensures c.peek-t.result.place 0 in
    omega (arith, c.loop-tokens.invariant.0.asked.room, c.peek-t.ensures.pays, same_number c.in-LBracket.is, c.expression-index.ensures.moved.room, c.abandon.ensures.high, c.abandon.ensures.at, X.moved.room, X.moved.at, X.high, X.pays, c.expression-index.auto)

pub access-loop-tokens-smaller : goal.access-loop-tokens-smaller
access-loop-tokens-smaller t c =
    let X = c.expect_after.ensures c.peek-t.result.place 0 in
    omega (arith, c.loop-tokens.invariant.0.asked.asks.at, c.peek-t.ensures, same_number c.in-LBracket.is, c.expression-index.ensures.moved, c.abandon.ensures.at, X.moved.at, X.moved.end, (c.write_node-place-in-LBracket.ensures c.peek-t.result.place 0).at)

pub access-loop-tokens-preserved : goal.access-loop-tokens-preserved
access-loop-tokens-preserved t c =
    let X = rw c.in_ok-expect_after-in-LBracket.was at c.expect_after.ensures _ _ in
    let F = c.write_node-place-in-LBracket.ensures _ _ in (
      turn_on c.loop-tokens.invariant.0 (index_moved c.loop-tokens.invariant.0 refl c.peek-t.ensures (same_number c.in-LBracket.is) c.expression-index.ensures c.in_ok-abandon-in-LBracket.ensures
          (omega (arith, c.abandon.auto, c.expression-index.auto)) (omega (arith, c.expression-index.auto)) X F) (omega (arith, c.write_node-place-in-LBracket.auto, c.expression-index.auto)) (omega (arith, c.expect_after.auto, c.abandon.auto, c.expression-index.auto)) (omega (arith, c.expect_after.auto, c.expression-index.auto)),
      one_turn c.loop-tokens.invariant.1 (omega (arith, c.write_node-place-in-LBracket.auto, c.expression-index.auto)) (omega (arith, c.expect_after.auto, c.abandon.auto, c.expression-index.auto)) (omega (arith, c.expect_after.auto, c.expression-index.auto))
          (omega (arith, c.peek-t.ensures.up, c.expression-index.ensures.moved, c.abandon.ensures.at, X.moved.at, F.at))
          (λ _ _ _ _ g. suffix_index c.loop-tokens.invariant.0 refl c.peek-t.ensures (same_number c.in-LBracket.is) c.expression-index.ensures c.in_ok-abandon-in-LBracket.ensures
          (omega (arith, c.abandon.auto, c.expression-index.auto)) (omega (arith, c.expression-index.auto)) X F g),
    )

pub access-returns-in_default : goal.access-returns-in_default
unfolding P.parse_field_access_or_index
access-returns-in_default t c =
    then_asked suffixes_on c.requires c.in_ok-place.ensures
    (c.loop-tokens.invariant.1.rest (suffix_none c.loop-tokens.invariant.0 refl c.peek-t.ensures (other_number c.in_default.not-Dot) (other_number c.in_default.not-DotStar) (other_number c.in_default.not-LBracket)))

pub array-returns-in_default : goal.array-returns-in_default
array-returns-in_default t c =
    array_no_integer c.args.place c.requires
    c.peek-t.ensures (other_number c.in_default.not-Integer) c.at-error.ensures c.raise.ensures

pub array-returns-in_default-array_size : goal.array-returns-in_default-array_size
array-returns-in_default-array_size t c =
    array_no_size c.args.place c.requires c.peek-t.ensures (same_number c.in-Integer.is) c.in_default-array_size.ensures
    c.at-error-in_default-array_size.ensures c.raise-in_default-array_size.ensures

pub array-returns-in_err-expect : goal.array-returns-in_err-expect
array-returns-in_err-expect t c = rw (passed_on c.in_err-expect.was c.from_residual.ensures.1)
    (array_open c.args.place c.requires c.peek-t.ensures (same_number c.in-Integer.is) c.in-Some.ensures
    c.expect.ensures (is_stop c.in_err-expect.was))

pub array-returns-in_err-ty : goal.array-returns-in_err-ty
array-returns-in_err-ty t c =
    rw (passed_on c.in_err-ty.was c.from_residual-in_err-ty.ensures.1)
    (array_done c.args.place c.requires c.peek-t.ensures (same_number c.in-Integer.is) c.in-Some.ensures c.expect.ensures (is_done c.in_ok-expect.was) c.ty.ensures (write_node_stop (is_stop c.in_err-ty.was)))

pub array-returns : goal.array-returns
array-returns t c =
    array_done c.args.place c.requires c.peek-t.ensures (same_number c.in-Integer.is) c.in-Some.ensures c.expect.ensures (is_done c.in_ok-expect.was) c.in_ok-ty.ensures (c.write_node.ensures _ _)

pub ty-returns-then-nesting-eq0 : goal.ty-returns-then-nesting-eq0
ty-returns-then-nesting-eq0 t c = type_deep c.requires c.if-nesting-eq0.true c.refuse.ensures

pub ty-returns-in-Identifier : goal.ty-returns-in-Identifier
ty-returns-in-Identifier t c =
    type_name c.requires c.if-nesting-eq0.false c.peek-t.ensures (same_number c.in-Identifier.is) (c.write_text_node.ensures _ _)

pub ty-returns-in_err-ty-in-Star : goal.ty-returns-in_err-ty-in-Star
ty-returns-in_err-ty-in-Star t c =
    rw (passed_on c.in_err-ty-in-Star.was c.from_residual.ensures.1)
    (type_star c.requires c.if-nesting-eq0.false c.peek-t.ensures (same_number c.in-Star.is) c.ty.ensures (write_node_stop (is_stop c.in_err-ty-in-Star.was)))

pub ty-returns-in_ok-ty-in-Star : goal.ty-returns-in_ok-ty-in-Star
ty-returns-in_ok-ty-in-Star t c =
    type_star c.requires c.if-nesting-eq0.false c.peek-t.ensures (same_number c.in-Star.is) c.in_ok-ty-in-Star.ensures (c.write_node.ensures _ _)

pub ty-returns-in-LBracket : goal.ty-returns-in-LBracket
ty-returns-in-LBracket t c =
    type_array c.requires c.if-nesting-eq0.false c.peek-t.ensures (same_number c.in-LBracket.is) c.array.ensures

pub ty-returns-in_err-fields-in-KwStruct : goal.ty-returns-in_err-fields-in-KwStruct
ty-returns-in_err-fields-in-KwStruct t c = let a = rw c.in_err-fields-in-KwStruct.was at c.list-fields.ensures in
    rw (left c.from_residual-in_err-fields-in-KwStruct.ensures.1) (type_struct c.requires c.if-nesting-eq0.false c.peek-t.ensures (same_number c.in-KwStruct.is) a
    (write_node_stop (refusal_is _)))

pub ty-returns-in_ok-fields-in-KwStruct : goal.ty-returns-in_ok-fields-in-KwStruct
ty-returns-in_ok-fields-in-KwStruct t c =
    let a = rw c.in_ok-fields-in-KwStruct.was at c.list-fields.ensures in
    type_struct c.requires c.if-nesting-eq0.false c.peek-t.ensures (same_number c.in-KwStruct.is) a (c.write_node-in-KwStruct.ensures _ _)

pub ty-returns-in-End : goal.ty-returns-in-End
ty-returns-in-End t c =
    type_end c.requires c.if-nesting-eq0.false c.peek-t.ensures (same_number c.in-End.is)
    c.at_end-error.ensures c.raise.ensures

pub ty-returns-in_default : goal.ty-returns-in_default
ty-returns-in_default t c =
    type_other c.requires c.if-nesting-eq0.false c.peek-t.ensures (other_number c.in_default.not-Identifier)
    (other_number c.in_default.not-Star) (other_number c.in_default.not-LBracket) (other_number c.in_default.not-KwStruct) (other_number c.in_default.not-End)
    c.new-error.ensures c.raise-in_default.ensures

pub typed-returns-in_err-expect_after : goal.typed-returns-in_err-expect_after
typed-returns-in_err-expect_after t c =
    let X = rw c.in_err-expect_after.was at c.expect_after.ensures nowhere 0 in
    rw (left c.from_residual.ensures.1) (colon_stops (c.requires.0, c.requires.1.1) (rw c.requires.1.0 at X) (stop_is _))

pub typed-ty-of-requires : goal.typed-ty-of-requires
typed-ty-of-requires t c =
    let M = (c.expect_after.ensures nowhere 0).moved in (
      omega (arith, c.decreases, M.at, M.end),
      asked_moved c.requires.0 M refl (omega (arith, c.expect_after.auto)) (omega (arith, c.expect_after.auto)),
    )

pub typed-abandon-requires : goal.typed-abandon-requires
typed-abandon-requires t c =
    let M = (c.expect_after.ensures nowhere 0).moved in
    let T = c.ty-of.ensures.moved in
    record {
      pos = omega (arith, M.pos, T.pos);
      order = M.reported;
      own = T.reported;
      within = omega (arith, c.requires.0.asks, M.less, M.few, T.less, T.few, c.ty-of.auto, c.expect_after.auto);
    }

pub typed-returns : goal.typed-returns
typed-returns t c =
    let X = rw c.in_ok-expect_after.was at c.expect_after.ensures nowhere 0 in
    let same = c.requires.1.0 in
    colon_read (c.requires.0, c.requires.1.1) (rw same at X) refl c.ty-of.ensures (rw same at c.abandon.ensures)

pub named-returns-in_err-typed_name : goal.named-returns-in_err-typed_name
named-returns-in_err-typed_name t c =
    rw (passed_on c.in_err-typed_name.was c.from_residual.ensures.1)
    (named_reads c.requires c.typed_name.ensures (bare_stops (is_stop c.in_err-typed_name.was)))

pub named-returns : goal.named-returns
named-returns t c =
    named_reads c.requires c.in_ok-typed_name.ensures (c.bare_name.ensures _ _)

pub field-returns-in_err-place : goal.field-returns-in_err-place
field-returns-in_err-place t c =
    rw (passed_on c.in_err-place.was c.from_residual.ensures.1)
    (field_stops c.args.tokens.held c.requires c.peek-t.ensures c.expect_identifier.ensures
    (expected_stop (field_follows c.args.tokens.held c.requires c.peek-t.ensures c.expect_identifier.ensures (omega (arith, c.expect_identifier.auto)) (omega (arith, c.expect_identifier.auto))) (is_stop c.in_err-place.was)) (omega (arith, c.expect_identifier.auto)) (omega (arith, c.expect_identifier.auto)) (is_stop c.in_err-place.was))

pub field-returns-in_err-expect_after : goal.field-returns-in_err-expect_after
field-returns-in_err-expect_after t c =
    let X = rw c.in_err-expect_after.was at c.expect_after.ensures _ _ in
    rw (left c.from_residual-in_err-expect_after.ensures.1) (field_stops c.args.tokens.held c.requires c.peek-t.ensures c.in_ok-place.ensures X (omega (arith, c.expect_identifier.auto)) (omega (arith, c.expect_identifier.auto)) (stop_is _))

pub field-expression-requires : goal.field-expression-requires
field-expression-requires t c =
    let M = (c.expect_after.ensures c.peek-t.result.place 0).moved in (
      omega (arith, c.decreases, c.expect_identifier.ensures.moved.at, M.at, M.end),
      asked_moved c.requires (moved_trans c.expect_identifier.ensures.moved M) refl
          (omega (arith, c.expect_after.auto, c.expect_identifier.auto)) (omega (arith, c.expect_after.auto, c.expect_identifier.auto)),
    )

pub field-returns-in_err-expression : goal.field-returns-in_err-expression
field-returns-in_err-expression t c =
    rw (passed_on c.in_err-expression.was c.from_residual-in_err-expression.ensures.1)
    (field_done c.args.tokens.held c.requires c.peek-t.ensures c.in_ok-place.ensures (rw c.in_ok-expect_after.was at c.expect_after.ensures _ _) refl c.expression.ensures (write_node_stop (is_stop c.in_err-expression.was)))

pub field-write_text_node-requires : goal.field-write_text_node-requires
field-write_text_node-requires t c =
    field_room c.args.tokens.held c.requires c.peek-t.ensures c.in_ok-place.ensures (rw c.in_ok-expect_after.was at c.expect_after.ensures _ _) refl
    c.expression.ensures (omega (arith, c.expression.auto))

pub field-returns : goal.field-returns
field-returns t c =
    field_done c.args.tokens.held c.requires c.peek-t.ensures c.in_ok-place.ensures (rw c.in_ok-expect_after.was at c.expect_after.ensures _ _) refl c.in_ok-expression.ensures (c.write_text_node.ensures _ _)

pub operators-loop-op-smaller : goal.operators-loop-op-smaller
operators-loop-op-smaller t c =
    omega (arith, c.loop-op.invariant.0.asked.asks.at, c.peek-t.ensures, operator_real (P.mapping (level_of c.args.level)) (kind_number c.peek-t.result.kind) (level_end _) c.operator.ensures c.in-Some.is, c.cascade-second.ensures.moved, c.abandon.ensures.at, (c.write_node-place.ensures c.args.first 0).at)

pub cast-loop-parser-smaller : goal.cast-loop-parser-smaller
cast-loop-parser-smaller t c =
    omega (arith, c.loop-parser.invariant.0.asked.asks.at, c.peek-t.ensures, same_number c.in-KwAs.is, c.ty-to.ensures.moved, c.abandon.ensures.at, (c.write_node-place.ensures c.peek-t.result.place 0).at)

pub sizeof-write_node-requires : goal.sizeof-write_node-requires
sizeof-write_node-requires t c =
    let X = c.expect_after.ensures c.peek-t.result.place 0 in
    omega (arith, c.requires.room, c.peek-t.ensures.pays, same_number c.in-KwSizeof.is, c.expect.ensures.moved.room, c.ty.ensures.moved.room, X.high, c.ty.auto)
