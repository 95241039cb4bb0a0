use Prim.Native.Nat.{◌-◌, ◌+◌, ◌*◌}
use Rattle.expression_laws.proofs.Turns.{ItemsTurned}
use Rattle.expression_laws.specs.Post.{LoopOn}
use Rattle.statement.specs.Post.{statements_on}
use Rattle.statement.proofs.+statement.Given as goal

abbrev pub decreases-body : goal.decreases-body
decreases-body l = 32 * (l.tokens.count - l.parser.now.state.at) + 1

abbrev pub decreases-body_rest : goal.decreases-body_rest
decreases-body_rest l = 32 * (l.tokens.count - l.parser.now.state.at) + 5

abbrev pub decreases-guarded : goal.decreases-guarded
decreases-guarded l = 32 * (l.tokens.count - l.parser.now.state.at) + 5

abbrev pub decreases-if_statement : goal.decreases-if_statement
decreases-if_statement l = 32 * (l.tokens.count - l.parser.now.state.at) + 6

abbrev pub decreases-statement : goal.decreases-statement
decreases-statement l = 32 * (l.tokens.count - l.parser.now.state.at) + 4

abbrev pub decreases-statement_rule : goal.decreases-statement_rule
decreases-statement_rule l = 32 * (l.tokens.count - l.parser.now.state.at) + 3

abbrev pub invariant-body_rest-loop-parser : goal.invariant-body_rest-loop-parser
invariant-body_rest-loop-parser l =
    let t = l.tokens in
    let p = l.initial.parser in
    let q = l.parser in
    ItemsTurned (LoopOn statements_on t.records.now t.text.now t.count l.nesting) t.records.now t.text.now
    t.count l.initial.count l.initial.file p.reported p.full p.state l.count l.file q.reported q.full q.state

abbrev pub decreases-body_rest-loop-parser : goal.decreases-body_rest-loop-parser
decreases-body_rest-loop-parser l = l.tokens.count - l.parser.state.at
