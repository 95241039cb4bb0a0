-- What the functions of the parser require and ensure: the records of Shows, stated over their parameters, with
-- slices as they are now, or at entry and at exit. First what is specific to a function, then its parameters in
-- order. Assumes nothing.
use Rattle.std.specs.Prelude.{List, ℕ, Result, Ok, Err}
use Rattle.std.specs.Borrow.{MutBor}
use Rattle.definition.specs.Slices.{MutSlice, MutLent, old, new}
use Rattle.definition.specs.Fallible.{Fallible, Ans}
use Rattle.definition.specs.Token.{Tok}
use Rattle.definition.specs.Act.{Act, Node, Role}
use Rattle.definition.specs.Node.{Rec}
use Rattle.definition.specs.declared.place.Place.{Place}
use Rattle.fallible.specs.declared.Stop.{Stop}
use Rattle.fallible.specs.declared.parser.State.{State}
use Rattle.fallible.specs.declared.parser.Parser.{Parser}
use Rattle.fallible.specs.Answer.{nowhere, Done, Answer, status_of, node_answer}
use Rattle.steps.specs.declared.tokens.Tokens.{Tokens}
use Rattle.steps.specs.Shows as S
use denote.Triple.Both.{Both}

-- tokens and a lent parser, at entry and at exit
abbrev pub LentTokens : Type 0
LentTokens = Both Tokens Tokens

abbrev pub MutParser : Type 0
MutParser = Both (MutBor Parser) (MutBor Parser)

-- ---- required

abbrev pub Asks : Tokens → MutBor Parser → Type 0
Asks tokens parser =
    S.Asks tokens.count parser.now.reported parser.now.full parser.now.state

-- the same with room in the file
abbrev pub Asked : Tokens → MutSlice → MutBor Parser → Type 0
Asked tokens file parser =
    S.Asked tokens.records.now tokens.count file.now parser.now.reported parser.now.full parser.now.state

-- a function that goes on in the state s, with a node at p or a list of k items
abbrev pub going : State → Place → ℕ → Answer
going s p k = record { status = Done; state = s; place = p; count = k }

-- the same unless a call stopped; then it has neither
abbrev pub unless : {A : Type 0} → Result Place Stop → A → A → A
unless (Ok v) x none = x
unless (Err e) x none = none

abbrev pub goes_unless : Result Place Stop → State → Place → ℕ → Answer
goes_unless r s p k = record { status = status_of r; state = s; place = unless r p nowhere; count = unless r k 0 }

-- in a construct that began in the state `from`
abbrev pub Follows : Tokens → MutBor Parser → State → Type 0
Follows tokens parser from =
    S.Follows tokens.count parser.now.reported parser.now.full (going parser.now.state nowhere 0) from.pos from.reported

-- the same after a node
abbrev pub GoesOn : Tokens → MutSlice → MutBor Parser → Place → State → Type 0
GoesOn tokens file parser first from =
    S.GoesOn tokens.records.now tokens.count file.now parser.now.reported parser.now.full
    (going parser.now.state first 0) from.pos from.reported

-- ---- ensured

-- a function that consumes one token, of the n records w
abbrev pub ExpectsIn : List ℕ → ℕ → (Role → Act (Ans Tok)) → MutParser → Result Place Stop → Type 0
ExpectsIn w n m parser r =
    let p = parser.entry.now in
    let q = parser.exit.now in
    S.Expects w n m p.reported p.full p.state q.reported q.full (node_answer r q.state)

abbrev pub Expects : (Role → Act (Ans Tok)) → LentTokens → MutParser → Result Place Stop → Type 0
Expects m tokens parser r = ExpectsIn tokens.entry.records.now tokens.entry.count m parser r

-- `expect(..)?` in a construct that goes on with a node at `place`, or with `count` items
abbrev pub ExpectedIn : List ℕ → ℕ → ℕ → MutParser → State → Result Place Stop → Type 0
ExpectedIn w n wanted parser from r =
    let p = parser.entry.now in
    let q = parser.exit.now in
    (place : Place) (count : ℕ) → S.Expected w n wanted from.pos from.reported p.reported p.full
    (going p.state place count) q.reported q.full (goes_unless r q.state place count)

abbrev pub Expected : ℕ → LentTokens → MutParser → State → Result Place Stop → Type 0
Expected wanted tokens parser from r = ExpectedIn tokens.entry.records.now tokens.entry.count wanted parser from r

-- a function that parses a node by the rule m, where `nesting` more counted calls may be opened
abbrev pub Parses : Act (Ans Node) → LentTokens → MutLent → MutParser → ℕ → Result Place Stop → Type 0
Parses m tokens file parser nesting r =
    let p = parser.entry.now in
    let q = parser.exit.now in
    S.Reads S.node tokens.entry.records.now tokens.entry.text.now tokens.entry.count nesting m (old file) p.reported p.full p.state
    (new file) q.reported q.full (node_answer r q.state)

-- a function that continues after the node at `first`
abbrev pub ParsesOn :
    (Fallible Node → Act (Ans Node)) → LentTokens → MutLent → MutParser → Place → State → ℕ → Result Place Stop → Type 0
ParsesOn k tokens file parser first from nesting r =
    let p = parser.entry.now in
    let q = parser.exit.now in
    S.Goes S.node S.node tokens.entry.records.now tokens.entry.text.now tokens.entry.count nesting k from.pos from.reported (old file)
    p.reported p.full (going p.state first 0) (new file) q.reported q.full (node_answer r q.state)

-- a record is written in a construct that goes on with a node at `place`, or with `count` items
abbrev pub WritesNode : Rec → MutLent → Both (MutBor State) (MutBor State) → Place → Type 0
WritesNode v file state r =
    (place : Place) (count : ℕ) → S.NodeWritten (old file) (going state.entry.now place count) v (new file) (going state.exit.now r 0)
