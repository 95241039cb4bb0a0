use Rattle.steps.proofs.SameKind.{equal_kinds, unequal_kinds}
use Rattle.definition.specs.declared.kind.Kind.{Kind}
use Rattle.steps.proofs.Moves.{asked_seen}
use Rattle.fallible.proofs.Calls.{left, stop_is}
use Rattle.items.specs.Items.{flag}
use Rattle.items.proofs.Definitions.{Opened, definition_external, definition_whole, function_stops, function_unnamed, function_asked, function_reads, whole_stops}
use mathlib.Core.Path.{◌≡◌, refl, ap}
use Rattle.std.specs.Prelude.{ℕ, List, Result}
use Rattle.definition.specs.Parser as P
use Rattle.definition.specs.Places.{place_of}
use Rattle.fallible.specs.declared.error.Error.{Error}
use Rattle.steps.specs.Shows.{Reads, node}
use Rattle.fallible.specs.declared.Stop.{Stop}
use Rattle.fallible.specs.Answer.{count_answer, Answer}
use Rattle.items.specs.Items.{FunctionAsked, FunctionOn}
use native.Mathlib.Omega.{arith}
use Rattle.items.proofs.functions.function_definition.Goals as goal
use Rattle.items.proofs.functions.function_definition.Goals.{Joined-external, After-signature, then-external, else-external}

opened : (c : Joined-external) → let t = c.args.tokens in let p = c.args.parser.now in let q = c.if-external.parser in
    Opened t.records.now t.text.now t.count c.args.nesting c.args.file.now p.reported p.full p.state c.peek-t.result
    c.eq-external.result q.reported q.full q.state
opened c = elim c.if-external.branch [
  | then-external w ↦
      let k = equal_kinds c.peek-t.result.kind Kind.KwExtern c.eq-external.ensures w.if-external.true in
      rw (w.parser-is, w.if-external.true)
      (record { asked = asked_seen c.requires c.peek-t.ensures; reads = definition_external c.peek-t.ensures k })
  | else-external w ↦
      let k = unequal_kinds c.peek-t.result.kind Kind.KwExtern c.eq-external.ensures w.if-external.false in
      rw (w.parser-is, w.if-external.false) (record { asked = c.requires; reads = definition_whole c.peek-t.ensures k })
]

pub returns-in_err-expect : goal.returns-in_err-expect
returns-in_err-expect c = rw (left c.from_residual.ensures.1)
    ((opened (goal.at.returns-in_err-expect c).Joined-external).reads
    (function_stops c.in_err-expect.ensures _ _ (stop_is _)))

pub returns-in_err-expect_identifier : goal.returns-in_err-expect_identifier
returns-in_err-expect_identifier c = rw (left c.from_residual-in_err-expect_identifier.ensures.1)
    ((opened (goal.at.returns-in_err-expect_identifier c).Joined-external).reads
    (function_unnamed c.in_ok-expect.ensures refl c.in_err-expect_identifier.ensures _ _ (stop_is _)))

-- what the rest of a definition is required and shows, after its signature
asked : {v : Result ℕ Stop} (c : After-signature) → c.signature.result ≡ v
    → let t = c.args.tokens in let p = c.signature.new.parser in let s = c.if-external.parser.state in
    FunctionAsked t.records.now t.count c.signature.new.file p.reported p.full c.peek.result.text.now
    (count_answer v p.state) s.pos s.reported
asked c e = rw (← e)
    (function_asked c.in_ok-expect.ensures refl c.in_ok-expect_identifier.ensures c.peek.ensures
    (opened (goal.at.After-signature c).Joined-external).asked refl c.signature.ensures c.args.tokens.held
    (omega arith) (omega arith) (omega arith))

reads : {v : Result ℕ Stop} {k : ℕ} {o : List ℕ} {r f : List Error} {y : Answer} (c : After-signature) → c.signature.result ≡ v
    → flag c.eq-external.result ≡ k
    → let t = c.args.tokens in let i = c.if-external.parser.state in let p = c.args.parser.now in let q = c.signature.new.parser in
    FunctionOn t.records.now t.text.now t.count c.args.nesting k (place_of c.peek-t.result.place) c.peek.result.text.now
    i.pos i.reported c.signature.new.file q.reported q.full (count_answer v q.state) o r f y
    → Reads node t.records.now t.text.now t.count c.args.nesting P.parse_function_definition c.args.file.now p.reported
    p.full p.state o r f y
reads c e k B = let h = opened (goal.at.After-signature c).Joined-external in
    h.reads (function_reads c.in_ok-expect.ensures refl c.in_ok-expect_identifier.ensures c.peek.ensures
    h.asked refl c.signature.ensures c.args.tokens.held k (rw e B))

pub external_function-requires : goal.external_function-requires
external_function-requires c = asked (goal.at.external_function-requires c).After-signature c.in_ok-count.was

pub returns-then-external-2 : goal.returns-then-external-2
returns-then-external-2 c =
    reads (goal.at.returns-then-external-2 c).After-signature c.in_ok-count.was (ap flag c.if-external-2.true) (c.external_function.ensures _)

pub whole_function-requires : goal.whole_function-requires
whole_function-requires c = asked (goal.at.whole_function-requires c).After-signature c.in_ok-count.was

pub returns : goal.returns
returns c = reads (goal.at.returns c).After-signature c.in_ok-count.was (ap flag c.if-external-2.false) c.whole_function.ensures

pub returns-in_err-count : goal.returns-in_err-count
returns-in_err-count c = let h = (goal.at.returns-in_err-count c).After-signature in
    rw (left c.from_residual-in_err-count.ensures.1)
    (reads h c.in_err-count.was refl (whole_stops (asked h c.in_err-count.was) (stop_is _)))
