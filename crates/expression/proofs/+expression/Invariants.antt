use Rattle.expression_laws.specs.Post.{suffixes_on, operators_on, casts_on, LoopOn, listed_on}
use Rattle.expression_laws.proofs.Turns.{GoesTurned, ItemsTurned}
use Rattle.steps.specs.Contract.{going}
use Prim.Native.Nat.{◌-◌, ◌+◌, ◌*◌}
use Rattle.expression_laws.proofs.Levels.{Levelled}
use Rattle.leaves.specs.Leaves.{listed_of, level_of}
use Rattle.expression.proofs.+expression.Given as goal

abbrev pub decreases-access : goal.decreases-access
decreases-access l = 32 * (l.tokens.count - l.parser.now.state.at) + 7

abbrev pub decreases-add_sub : goal.decreases-add_sub
decreases-add_sub l = 32 * (l.tokens.count - l.parser.now.state.at) + 14

abbrev pub decreases-array : goal.decreases-array
decreases-array l = 32 * (l.tokens.count - l.parser.now.state.at) + 2

abbrev pub decreases-atom : goal.decreases-atom
decreases-atom l = 32 * (l.tokens.count - l.parser.now.state.at) + 6

abbrev pub decreases-shift : goal.decreases-shift
decreases-shift l = 32 * (l.tokens.count - l.parser.now.state.at) + 15

abbrev pub decreases-bit_and : goal.decreases-bit_and
decreases-bit_and l = 32 * (l.tokens.count - l.parser.now.state.at) + 16

abbrev pub decreases-bit_or : goal.decreases-bit_or
decreases-bit_or l = 32 * (l.tokens.count - l.parser.now.state.at) + 18

abbrev pub decreases-bit_xor : goal.decreases-bit_xor
decreases-bit_xor l = 32 * (l.tokens.count - l.parser.now.state.at) + 17

abbrev pub decreases-boolean : goal.decreases-boolean
decreases-boolean l = 32 * (l.tokens.count - l.parser.now.state.at) + 20

abbrev pub decreases-call : goal.decreases-call
decreases-call l = 32 * (l.tokens.count - l.parser.now.state.at) + 9

abbrev pub decreases-cascade : goal.decreases-cascade
decreases-cascade l = 32 * (l.tokens.count - l.parser.now.state.at) + 18

abbrev pub decreases-cast : goal.decreases-cast
decreases-cast l = 32 * (l.tokens.count - l.parser.now.state.at) + 12

abbrev pub decreases-comparison : goal.decreases-comparison
decreases-comparison l = 32 * (l.tokens.count - l.parser.now.state.at) + 19

abbrev pub decreases-expression : goal.decreases-expression
decreases-expression l = 32 * (l.tokens.count - l.parser.now.state.at) + 21

abbrev pub decreases-item : goal.decreases-item
decreases-item l = 32 * (l.tokens.count - l.parser.now.state.at) + 23

abbrev pub decreases-list : goal.decreases-list
decreases-list l = 32 * (l.tokens.count - l.parser.now.state.at) + 25

abbrev pub decreases-mul : goal.decreases-mul
decreases-mul l = 32 * (l.tokens.count - l.parser.now.state.at) + 13

abbrev pub decreases-named : goal.decreases-named
decreases-named l = 32 * (l.tokens.count - l.parser.now.state.at) + 4

abbrev pub decreases-operand : goal.decreases-operand
decreases-operand l = 32 * (l.tokens.count - l.parser.now.state.at) + 11

abbrev pub decreases-operators : goal.decreases-operators
decreases-operators l = 32 * (l.tokens.count - l.parser.now.state.at) + 6

abbrev pub decreases-sizeof : goal.decreases-sizeof
decreases-sizeof l = 32 * (l.tokens.count - l.parser.now.state.at) + 8

abbrev pub decreases-field : goal.decreases-field
decreases-field l = 32 * (l.tokens.count - l.parser.now.state.at) + 22

abbrev pub decreases-ty : goal.decreases-ty
decreases-ty l = 32 * (l.tokens.count - l.parser.now.state.at) + 1

abbrev pub decreases-typed : goal.decreases-typed
decreases-typed l = 32 * (l.tokens.count - l.parser.now.state.at) + 2

abbrev pub decreases-typed_name : goal.decreases-typed_name
decreases-typed_name l = 32 * (l.tokens.count - l.parser.now.state.at) + 3

abbrev pub decreases-unary : goal.decreases-unary
decreases-unary l = 32 * (l.tokens.count - l.parser.now.state.at) + 10

abbrev pub invariant-access-loop-tokens : goal.invariant-access-loop-tokens
invariant-access-loop-tokens l =
    let t = l.tokens in
    let p = l.initial.parser in
    let q = l.parser in
    GoesTurned suffixes_on t.records.now t.text.now t.count l.nesting l.from.pos l.from.reported
    l.initial.file p.reported p.full (going p.state l.initial.place 0) l.file q.reported q.full
    (going q.state l.place 0)

abbrev pub decreases-access-loop-tokens : goal.decreases-access-loop-tokens
decreases-access-loop-tokens l = l.tokens.count - l.parser.state.at

abbrev pub invariant-bit_or-loop-level : goal.invariant-bit_or-loop-level
invariant-bit_or-loop-level l =
    let t = l.tokens in
    let p = l.initial.parser in
    let q = l.parser in
    Levelled t.records.now t.text.now t.count l.nesting l.from l.initial.file p.reported p.full
    (going p.state l.initial.place 0) l.file q.reported q.full (going q.state l.place 0) l.level-index

abbrev pub invariant-cast-loop-parser : goal.invariant-cast-loop-parser
invariant-cast-loop-parser l =
    let t = l.tokens in
    let p = l.initial.parser in
    let q = l.parser in
    GoesTurned casts_on t.records.now t.text.now t.count l.nesting l.from.pos l.from.reported
    l.initial.file p.reported p.full (going p.state l.initial.place 0) l.file q.reported q.full
    (going q.state l.place 0)

abbrev pub decreases-cast-loop-parser : goal.decreases-cast-loop-parser
decreases-cast-loop-parser l = l.tokens.count - l.parser.state.at

abbrev pub invariant-list-loop-error : goal.invariant-list-loop-error
invariant-list-loop-error l =
    let t = l.tokens in
    let p = l.initial.parser in
    let q = l.parser in
    ItemsTurned (LoopOn (listed_on (listed_of l.what)) t.records.now t.text.now t.count l.nesting)
    t.records.now t.text.now t.count l.initial.count l.initial.file p.reported p.full p.state l.count l.file
    q.reported q.full q.state

abbrev pub decreases-list-loop-error : goal.decreases-list-loop-error
decreases-list-loop-error l = l.tokens.count - l.parser.state.at

abbrev pub invariant-operators-loop-op : goal.invariant-operators-loop-op
invariant-operators-loop-op l =
    let t = l.tokens in
    let p = l.initial.parser in
    let q = l.parser in
    GoesTurned (operators_on (level_of l.level)) t.records.now t.text.now t.count l.nesting l.from.pos l.from.reported
    l.initial.file p.reported p.full (going p.state l.initial.place 0) l.file q.reported q.full
    (going q.state l.place 0)

abbrev pub decreases-operators-loop-op : goal.decreases-operators-loop-op
decreases-operators-loop-op l = l.tokens.count - l.parser.state.at
