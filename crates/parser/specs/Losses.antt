-- What entering the losses of tokens ensures, and parsing them from there on. Assumes nothing.
use Rattle.std.specs.Prelude.{◌≡◌, false, List, ℕ, ◌<◌, ◌≤◌, length, take}
use Rattle.definition.specs.Node.{recs_bytes}
use Rattle.definition.specs.Numbers.{kind_number}
use Rattle.definition.specs.Places.{place_of}
use Rattle.definition.specs.declared.refusal.Refusal.{Refusal}
use Rattle.definition.specs.Token.{Tok}
use Rattle.definition.specs.Act.{Items, St, gives}
use Rattle.definition.specs.Losses.{losses, parse_tokens}
use Rattle.fallible.specs.declared.error.Error.{Error}
use Rattle.fallible.specs.declared.parser.State.{State}
use Rattle.fallible.specs.Lists.{errs}
use Rattle.steps.specs.declared.tokens.Token.{Token}
use Rattle.steps.specs.Tokens.{rest, budget}

-- the state before the first token, with k entries in the full list
abbrev pub begun : ℕ → State
begun k = record { at = 0; pos = 0; reported = 0; full = k }

-- the definition's token, apart from what it lost
abbrev pub token_of : Token → Tok
token_of t = record { kind = kind_number t.kind; place = place_of t.place; text = t.text.now; base = t.base; lost = false }

-- the full list is the losses of the n tokens
pub record Entered (w x : List ℕ) (n : ℕ) (f : List Error) (s : State) : Type 0 where
  pub few : length (losses (rest w x n 0)) ≤ 255
  pub state : s ≡ begun (length (losses (rest w x n 0)))
  pub is : errs f s.full ≡ losses (rest w x n 0)

-- there are too many
pub record Refused (w x : List ℕ) (n : ℕ) (m : Refusal) : Type 0 where
  pub many : 255 < length (losses (rest w x n 0))
  pub refusal : m ≡ Refusal.Errors

-- the tokens are parsed: the items, their records from the file's first byte on, and both lists
pub record Parsed (w x : List ℕ) (n : ℕ) (o : List ℕ) (r f : List Error) (s : State) (k : ℕ) : Type 0 where
  pub tree : Items
  pub state : St
  pub is : parse_tokens (rest w x n 0) ≡ gives tree state
  pub full : state.full ≡ errs f s.full
  pub recs : take s.pos o ≡ recs_bytes tree.recs
  pub reported : errs r s.reported ≡ tree.errors
  pub count : tree.count ≡ k
  pub room : s.pos ≤ budget w n 0
  pub fewer : s.reported ≤ s.full
  pub few : s.full ≤ 255
