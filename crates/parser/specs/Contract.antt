-- The records of Answer and Losses, stated over the parameters of the functions. Assumes nothing.
use Rattle.std.specs.Prelude.{◌≡◌, List, map, ℕ, length, Result, MatchResult, ⊤}
use Rattle.std.specs.Borrow.{Bor}
use Rattle.definition.specs.Slices.{MutSlice, MutLent, at_entry, old, new}
use Rattle.definition.specs.Fallible.{Err}
use Rattle.error_fields.specs.Errors.{recorded}
use Rattle.fallible.specs.declared.parser.Parser.{Parser}
use Rattle.definition.specs.Act.{refused}
use Rattle.definition.specs.Losses.{parse_tokens}
use Rattle.definition.specs.Numbers.{refusal_number}
use Rattle.definition.specs.declared.refusal.Refusal.{Refusal}
use Rattle.steps.specs.declared.tokens.Tokens.{Tokens}
use Rattle.steps.specs.Tokens.{rest}
use Rattle.steps.specs.Contract.{LentTokens, MutParser}
use Rattle.parser.specs.Answer as A
use Rattle.parser.specs.Losses as L
use denote.Triple.Both.{Both}

-- records of token errors
abbrev pub Records : Type 0
Records = Bor (List (List ℕ))

-- their errors
abbrev pub recorded_in : Both Records Records → List Err
recorded_in errors = map recorded (at_entry errors)

abbrev pub RestRoom : MutSlice → Records → Bor Parser → Type 0
RestRoom file errors parser =
    let p = parser.now in
    A.RestRoom file.now p.state.pos (length errors.now) p.reported p.state.reported p.full p.state.full

abbrev pub RestWritten : MutLent → ℕ → Both Records Records → Both (Bor Parser) (Bor Parser) → ℕ → Type 0
RestWritten file count errors parser r =
    let p = parser.entry.now in
    A.RestWritten (old file) p.state.pos count (recorded_in errors) p.reported p.state.reported p.full p.state.full
    (new file) r

abbrev pub Bounded : Tokens → Records → Type 0
Bounded tokens errors = A.Bounded tokens.records.now tokens.count (length errors.now)

-- the losses of the tokens are entered, or refused
abbrev pub LossesEntered : LentTokens → MutParser → Result ⊤ Refusal → Type 0
LossesEntered tokens parser r =
    let t = tokens.entry in
    let q = parser.exit.now in
    MatchResult r (λ _. L.Entered t.records.now t.text.now t.count q.full q.state) (L.Refused t.records.now t.text.now t.count)

-- the tokens are parsed, or refused
abbrev pub TokensParsed : LentTokens → MutLent → MutParser → Result ℕ Refusal → Type 0
TokensParsed tokens file parser r =
    let t = tokens.entry in
    let q = parser.exit.now in
    MatchResult r (L.Parsed t.records.now t.text.now t.count (new file) q.reported q.full q.state)
    (λ m. parse_tokens (rest t.records.now t.text.now t.count 0) ≡ refused (refusal_number m))
