-- The records of Post, stated over the parameters of the functions. Assumes nothing.
use Rattle.std.specs.Prelude.{ℕ, Result}
use Rattle.definition.specs.Slices.{MutLent, old, new}
use Rattle.definition.specs.Fallible.{Ans}
use Rattle.definition.specs.Act.{Node, Act}
use Rattle.definition.specs.declared.place.Place.{Place}
use Rattle.definition.specs.declared.refusal.Refusal.{Refusal}
use Rattle.fallible.specs.declared.Stop.{Stop}
use Rattle.fallible.specs.Answer.{node_answer, list_answer}
use Rattle.steps.specs.Contract.{LentTokens, MutParser}
use Rattle.definition.specs.declared.tag.Tag.{Tag}
use Rattle.statement.specs.declared.declarations.Tags.{Tags}
use Rattle.statement.specs.Post as B

abbrev pub ParsesPaid : Act (Ans Node) → LentTokens → MutLent → MutParser → ℕ → Result Place Stop → Type 0
ParsesPaid m tokens file parser nesting r =
    let t = tokens.entry in
    let p = parser.entry.now in
    let q = parser.exit.now in
    B.ReadsPaid t.records.now t.text.now t.count nesting m (old file) p.reported p.full p.state (new file) q.reported
    q.full (node_answer r q.state)

-- the answer of a value, and its tag
abbrev pub Valued : Tags → LentTokens → MutLent → MutParser → ℕ → Result Place Stop × Tag → Type 0
Valued tags tokens file parser nesting r =
    let t = tokens.entry in
    let p = parser.entry.now in
    let q = parser.exit.now in
    B.Valued t.records.now t.text.now t.count nesting tags (old file) p.reported p.full p.state (new file) q.reported
    q.full (node_answer r.0 q.state) r.1

abbrev pub ReadsDeclared : LentTokens → MutLent → MutParser → ℕ → Result Place Stop → Type 0
ReadsDeclared tokens file parser nesting r =
    let t = tokens.entry in
    let p = parser.entry.now in
    let q = parser.exit.now in
    B.ReadsDeclared t.records.now t.text.now t.count nesting (old file) p.reported p.full p.state (new file)
    q.reported q.full (node_answer r q.state)

abbrev pub ReadsBody : LentTokens → MutLent → MutParser → ℕ → Result ℕ Refusal → Type 0
ReadsBody tokens file parser nesting r =
    let t = tokens.entry in
    let p = parser.entry.now in
    let q = parser.exit.now in
    B.ReadsBody t.records.now t.text.now t.count nesting (old file) p.reported p.full p.state (new file)
    q.reported q.full (list_answer r q.state)
