-- The records of Leaves, stated over the parameters of the functions. Assumes nothing.
use Rattle.std.specs.Prelude.{List, ℕ, Result, Option, ⊤}
use Rattle.std.specs.Borrow.{MutBor}
use Rattle.definition.specs.Slices.{MutSlice, MutLent, old, new}
use Rattle.definition.specs.Node.{Rec}
use Rattle.definition.specs.declared.place.Place.{Place}
use Rattle.definition.specs.declared.refusal.Refusal.{Refusal}
use Rattle.fallible.specs.declared.Stop.{Stop}
use Rattle.fallible.specs.declared.parser.State.{State}
use Rattle.fallible.specs.declared.parser.Parser.{Parser}
use Rattle.fallible.specs.Answer.{item_status, node_answer, told}
use Rattle.steps.specs.declared.tokens.Token.{Token}
use Rattle.steps.specs.declared.tokens.Tokens.{Tokens}
use Rattle.steps.specs.Shows as S
use Rattle.steps.specs.Contract.{LentTokens, MutParser, going}
use Rattle.leaves.specs.Leaves as L
use denote.Triple.Both.{Both}

abbrev pub Literal : Tokens → MutSlice → MutBor Parser → Type 0
Literal tokens file parser =
    L.Literal tokens.records.now tokens.text.now tokens.count file.now parser.now.reported parser.now.full
    parser.now.state

abbrev pub Counted : Option Place → ℕ → ℕ → Type 0
Counted item count r = L.Counted (item_status item) count r

-- `comma`, on the n records w
abbrev pub CommasIn : List ℕ → ℕ → ℕ → MutParser → Result ⊤ Refusal → Type 0
CommasIn w n close parser r =
    let p = parser.entry.now in
    let q = parser.exit.now in
    L.Commas w n p.reported p.full p.state close q.reported q.full (told r q.state)

abbrev pub Commas : ℕ → LentTokens → MutParser → Result ⊤ Refusal → Type 0
Commas close tokens parser r = CommasIn tokens.entry.records.now tokens.entry.count close parser r

-- `close`, on the n records w
abbrev pub ClosedIn : List ℕ → ℕ → MutParser → Result Place Stop → Result Place Stop → Type 0
ClosedIn w n parser called r =
    let p = parser.entry.now in
    let q = parser.exit.now in
    L.Closed w n p.reported p.full (node_answer called p.state) q.reported q.full (node_answer r q.state)

abbrev pub Closed : LentTokens → MutParser → Result Place Stop → Result Place Stop → Type 0
Closed tokens parser called r = ClosedIn tokens.entry.records.now tokens.entry.count parser called r

-- the token t is consumed and its record is written
abbrev pub WritesNode : Rec → MutLent → Both Token Token → Both (MutBor State) (MutBor State) → Place → Type 0
WritesNode v file t state r =
    S.NodeWritten (old file) (L.there state.entry.now t.entry) v (new file) (going state.exit.now r 0)
