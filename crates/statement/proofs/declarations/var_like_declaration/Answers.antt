use mathlib.Core.Path.{refl}
use mathlib.Core.List.{List}
use Prim.Native.Nat.{ℕ}
use Rattle.fallible.specs.declared.error.Error.{Error}
use Rattle.fallible.specs.Answers.{Abandoned}
use Rattle.definition.specs.Numbers.{tag_number}
use Rattle.fallible.specs.Answer.{Answer, node_answer}
use Rattle.fallible.proofs.Calls.{left, stop_is}
use Rattle.statement.specs.Post.{ReadsDeclared}
use Rattle.statement.proofs.Initial.{Bared, bare_stops, bare_on, typed_on, value_stops, value_reads, declared_reads}
use native.Mathlib.Omega.{arith}
use Rattle.statement.proofs.declarations.var_like_declaration.Goals as goal
use Rattle.statement.proofs.declarations.var_like_declaration.Goals.{After-optional_value-value}

pub returns-in_err-typed_name : goal.returns-in_err-typed_name
returns-in_err-typed_name c = rw (left c.from_residual.ensures.1)
    (declared_reads c.requires c.in_err-typed_name.ensures
    (value_stops (typed_on c.requires c.in_err-typed_name.ensures (omega (arith, c.typed_name.auto))
    (omega (arith, c.typed_name.auto)) (omega (arith, c.typed_name.auto))) (stop_is _)))

-- the declaration, with the record of its value
declared : (c : After-optional_value-value) {o2 : List ℕ} {r2 : List Error} {b y : Answer}
    → Abandoned c.optional_value-value.new.parser.reported (node_answer c.optional_value-value.result.0 c.optional_value-value.new.parser.state) c.args.parser.now.state.pos
    c.args.parser.now.state.reported c.typed_name.new.parser.state.reported r2 b
    → Bared c.optional_value-value.new.file b (tag_number c.optional_value-value.result.1) o2 y
    → ReadsDeclared c.args.tokens.records.now c.args.tokens.text.now c.args.tokens.count c.args.nesting c.args.file.now
    c.args.parser.now.reported c.args.parser.now.full c.args.parser.now.state o2 r2 c.optional_value-value.new.parser.full y
declared c C G = declared_reads c.requires c.in_ok-typed_name.ensures
    (value_reads (typed_on c.requires c.in_ok-typed_name.ensures (omega (arith, c.typed_name.auto))
    (omega (arith, c.typed_name.auto)) (omega (arith, c.typed_name.auto))) refl c.optional_value-value.ensures C G refl)

pub returns-in_err-abandon : goal.returns-in_err-abandon
returns-in_err-abandon c = rw (left c.from_residual-in_err-abandon.ensures.1)
    (declared (goal.at.returns-in_err-abandon c).After-optional_value-value c.in_err-abandon.ensures (bare_stops (stop_is _)))

pub returns : goal.returns
returns c = declared (goal.at.returns c).After-optional_value-value c.in_ok-abandon.ensures (bare_on refl c.write_record-parser.ensures)
