-- What pushing a token or errors ensures of the slices and the state. Assumes nothing.
use Rattle.std.specs.Prelude.{◌≡◌, false, List, [], ◌∷◌, Result, MatchResult, ℕ, ◌+◌, ◌*◌, ◌<◌, ◌≤◌, length}
use Rattle.definition.specs.Choice.{pick}
use Rattle.definition.specs.Fallible.{Err}
use Rattle.definition.specs.declared.kind.Kind.{Kind}
use Rattle.definition.specs.declared.place.Place.{Place}
use Rattle.definition.specs.Numbers.{kind_number}
use Rattle.definition.specs.declared.refusal.Refusal.{Refusal}
use Rattle.definition.specs.Records.{errors_words}
use Rattle.slices.specs.Written.{Wrote}
use Rattle.token_records.specs.declared.State.{State}
use Rattle.token_records.specs.declared.Token.{Token}

-- a token without text or base that lost nothing
abbrev pub plain_token : Kind → Place → Token
plain_token k p = record { kind = k; place = p; start = 0; size = 0; base = 0; lost = false }

-- the words of a token
abbrev pub words_of_token : Token → List ℕ
words_of_token t = kind_number t.kind ∷ t.place.line ∷ t.place.column ∷ t.start ∷ t.size ∷ t.base ∷ pick t.lost 1 0 ∷ 0 ∷ []

pub record ErrorsWent (E : List ℕ) (f : State) (es : List Err) (E' : List ℕ) (r : State) : Type 0 where
  pub few : f.errors + length es ≤ 255
  pub cursor : r.cursor ≡ f.cursor
  pub tokens : r.tokens ≡ f.tokens
  pub errors : r.errors ≡ f.errors + length es
  pub text : r.text ≡ f.text
  pub wrote : Wrote E (4 * f.errors) (errors_words es) E' (4 * r.errors)

pub record ErrorsFull (f : State) (es : List Err) (x : Refusal) : Type 0 where
  pub many : 255 < f.errors + length es
  pub refusal : x ≡ Refusal.TokenErrors

pub record ErrorsPushed (E : List ℕ) (f : State) (es : List Err) (E' : List ℕ) (r : Result State Refusal) : Type 0 where
  pub is : MatchResult r (ErrorsWent E f es E') (ErrorsFull f es)

pub record TokenWent (most : ℕ) (T : List ℕ) (f : State) (ws : List ℕ) (T' : List ℕ) (r : State) : Type 0 where
  pub few : f.tokens < most
  pub cursor : r.cursor ≡ f.cursor
  pub tokens : r.tokens ≡ f.tokens + 1
  pub errors : r.errors ≡ f.errors
  pub text : r.text ≡ f.text
  pub wrote : Wrote T (8 * f.tokens) ws T' (8 * r.tokens)

pub record TokenFull (most : ℕ) (f : State) (x : Refusal) : Type 0 where
  pub many : most ≤ f.tokens
  pub refusal : x ≡ Refusal.Tokens

pub record TokenPushed (most : ℕ) (T : List ℕ) (f : State) (ws T' : List ℕ) (r : Result State Refusal) : Type 0 where
  pub is : MatchResult r (TokenWent most T f ws T') (TokenFull most f)
