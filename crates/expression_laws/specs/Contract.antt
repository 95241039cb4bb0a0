-- The records of Post, stated over the parameters of the functions. Assumes nothing.
use Rattle.std.specs.Prelude.{ℕ, Result}
use Rattle.std.specs.Borrow.{MutBor}
use Rattle.definition.specs.Slices.{MutSlice, MutLent, old, new}
use Rattle.definition.specs.Act as A
use Rattle.definition.specs.Act.{Items, Act}
use Rattle.definition.specs.declared.place.Place.{Place}
use Rattle.definition.specs.declared.refusal.Refusal.{Refusal}
use Rattle.fallible.specs.declared.Stop.{Stop}
use Rattle.fallible.specs.declared.parser.State.{State}
use Rattle.fallible.specs.Answer.{nowhere, node_answer, list_answer}
use Rattle.steps.specs.declared.tokens.Tokens.{Tokens}
use Rattle.steps.specs.Contract.{LentTokens, MutParser, going}
use Rattle.expression_laws.specs.Post as G
use denote.Triple.Both.{Both}

abbrev pub NameRoom : Tokens → MutSlice → MutBor State → ℕ → Type 0
NameRoom tokens file state at =
    G.NameRoom tokens.records.now tokens.text.now tokens.count file.now (going state.now nowhere 0) at

-- a name is written in a construct that goes on with a node at `place`, or with `count` items
abbrev pub BareNamed : LentTokens → MutLent → Both (MutBor State) (MutBor State) → ℕ → ℕ → Type 0
BareNamed tokens file state tag at =
    let t = tokens.entry in
    (place : Place) (count : ℕ) → G.BareNamed t.records.now t.text.now t.count (old file) (going state.entry.now place count) tag at
    (new file) (going state.exit.now nowhere 0)

abbrev pub ReadsTyped : LentTokens → MutLent → MutParser → ℕ → Result Place Stop → Type 0
ReadsTyped tokens file parser nesting r =
    let t = tokens.entry in
    let p = parser.entry.now in
    let q = parser.exit.now in
    G.ReadsTyped t.records.now t.text.now t.count nesting (old file) p.reported p.full p.state (new file)
    q.reported q.full (node_answer r q.state)

abbrev pub TypedOn : LentTokens → MutLent → MutParser → State → ℕ → Result Place Stop → Type 0
TypedOn tokens file parser from nesting r =
    let t = tokens.entry in
    let p = parser.entry.now in
    let q = parser.exit.now in
    G.TypedOn t.records.now t.text.now t.count nesting from.reported (old file) p.reported p.full p.state
    (new file) q.reported q.full (node_answer r q.state)

abbrev pub ReadsList : A.Listed → LentTokens → MutLent → MutParser → ℕ → Result ℕ Refusal → Type 0
ReadsList k tokens file parser nesting r =
    let t = tokens.entry in
    let p = parser.entry.now in
    let q = parser.exit.now in
    G.ReadsList t.records.now t.text.now t.count nesting k (old file) p.reported p.full p.state (new file)
    q.reported q.full (list_answer r q.state)

abbrev pub LoopOn : (Items → Act Items) → ℕ → LentTokens → MutLent → MutParser → ℕ → Result ℕ Refusal → Type 0
LoopOn on count tokens file parser nesting r =
    let t = tokens.entry in
    let p = parser.entry.now in
    let q = parser.exit.now in
    G.LoopOn on t.records.now t.text.now t.count nesting count (old file) p.reported p.full p.state (new file)
    q.reported q.full (list_answer r q.state)
