-- The records of Items, stated over the parameters of the functions. Assumes nothing.
use Rattle.std.specs.Prelude.{List, ℕ, Result, Ok, Err}
use Rattle.std.specs.Borrow.{MutBor}
use Rattle.definition.specs.Slices.{MutSlice, MutLent, old, new}
use Rattle.definition.specs.Source as S
use Rattle.definition.specs.Fallible.{Ans}
use Rattle.definition.specs.Token.{Tok}
use Rattle.definition.specs.Act.{Act, Node}
use Rattle.definition.specs.Places.{place_of}
use Rattle.definition.specs.declared.place.Place.{Place}
use Rattle.fallible.specs.declared.Stop.{Stop}
use Rattle.fallible.specs.declared.parser.Parser.{Parser}
use Rattle.fallible.specs.Answer.{node_answer, count_answer}
use Rattle.steps.specs.declared.tokens.Token.{Token}
use Rattle.steps.specs.declared.tokens.Tokens.{Tokens}
use Rattle.steps.specs.Contract.{LentTokens, MutParser}
use Rattle.steps.specs.Shows.{Reads, node}
use Rattle.items.specs.Rules.{naming}
use Rattle.items.specs.Items as I
use Rattle.items.specs.declared.functions.Head.{Head}
use denote.Triple.Both.{Both}

abbrev pub ReadsType : S.Place → LentTokens → MutLent → MutParser → ℕ → Result Place Stop → Type 0
ReadsType place tokens file parser nesting r =
    let t = tokens.entry in
    let p = parser.entry.now in
    let q = parser.exit.now in
    I.ReadsType t.records.now t.text.now t.count nesting place (old file) p.reported p.full p.state (new file)
    q.reported q.full (node_answer r q.state)

abbrev pub ReadsSignature : S.Place → LentTokens → MutLent → MutParser → ℕ → Result ℕ Stop → Type 0
ReadsSignature place tokens file parser nesting r =
    let t = tokens.entry in
    let p = parser.entry.now in
    let q = parser.exit.now in
    I.ReadsSignature t.records.now t.text.now t.count nesting place (old file) p.reported p.full p.state (new file)
    q.reported q.full (count_answer r q.state)

-- after the head of a function
abbrev pub FunctionAsked : Tokens → MutSlice → MutBor Parser → Head → Type 0
FunctionAsked tokens file parser head =
    let p = parser.now in
    I.FunctionAsked tokens.records.now tokens.count file.now p.reported p.full head.name.now
    (count_answer (Ok head.count) p.state) head.from.pos head.from.reported

abbrev pub FunctionOn : ℕ → LentTokens → MutLent → MutParser → Both Head Head → ℕ → Result Place Stop → Type 0
FunctionOn external tokens file parser head nesting r =
    let t = tokens.entry in
    let h = head.entry in
    let p = parser.entry.now in
    let q = parser.exit.now in
    I.FunctionOn t.records.now t.text.now t.count nesting external (place_of h.place) h.name.now h.from.pos
    h.from.reported (old file) p.reported p.full (count_answer (Ok h.count) p.state) (new file) q.reported q.full
    (node_answer r q.state)

-- the token that names an item, of the kind k; another is the error `number`
abbrev pub Named : ℕ → ℕ → LentTokens → MutParser → Result Token Stop → Type 0
Named k number tokens parser (Ok t) =
    let l = tokens.entry in
    let p = parser.entry.now in
    let q = parser.exit.now in
    I.NamedBy l.records.now l.text.now l.count k p.reported p.full p.state q.reported q.full q.state t
Named k number tokens parser (Err e) =
    let l = tokens.entry in
    let p = parser.entry.now in
    let q = parser.exit.now in
    (d : ℕ) (m : Tok → Act (Ans Node)) (o : List ℕ) → Reads node l.records.now l.text.now l.count d (naming k number m) o
    p.reported p.full p.state o q.reported q.full (node_answer (Err e) q.state)
