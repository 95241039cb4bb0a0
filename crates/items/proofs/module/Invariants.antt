use Rattle.expression_laws.specs.Post.{LoopOn}
use Rattle.expression_laws.proofs.Turns.{ItemsTurned}
use Rattle.items.specs.Rules.{items_on}
use Prim.Native.Nat.{◌-◌}
use Rattle.items.proofs.module.Given as goal

abbrev pub invariant-loop-tokens : goal.invariant-loop-tokens
invariant-loop-tokens l =
    let t = l.tokens in
    let p = l.initial.parser in
    let q = l.parser in
    ItemsTurned (LoopOn items_on t.records.now t.text.now t.count l.nesting) t.records.now t.text.now t.count
    l.initial.count l.initial.file p.reported p.full p.state l.count l.file q.reported q.full q.state

abbrev pub decreases-loop-tokens : goal.decreases-loop-tokens
decreases-loop-tokens l = l.tokens.count - l.parser.state.at
