-- What a turn of the tokenizer's loop ensures of the state and the slices. Assumes nothing.
use Rattle.std.specs.Prelude.{◌≡◌, Bool, Result, MatchResult, List, [], ◌∷◌, ℕ, ◌+◌, ◌*◌, ◌≤◌, leb, length}
use Rattle.definition.specs.Fallible.{Err}
use Rattle.definition.specs.Numbers.{refusal_number}
use Rattle.definition.specs.declared.refusal.Refusal.{Refusal}
use Rattle.definition.specs.Token.{Tok}
use Rattle.definition.specs.Choice.{pick}
use Rattle.definition.specs.Records.{tokens_words, tokens_text, errors_words}
use Rattle.definition.specs.Tokenizer.{Turn, goes, refused}
use Rattle.source.specs.Place.{Stands, rest}
use Rattle.source.specs.declared.Cursor.{Cursor}
use Rattle.slices.specs.Written.{Wrote}
use Rattle.scan.specs.Scan.{Asks}
use Rattle.token_records.specs.declared.State.{State}

-- the state with another cursor, and with more text
abbrev pub at_text : State → Cursor → ℕ → State
at_text f c n = record { cursor = c; tokens = f.tokens; errors = f.errors; text = n }

abbrev pub at_cursor : State → Cursor → State
at_cursor f c = at_text f c f.text

-- the words of a token that begins at c
abbrev pub token_record : Cursor → ℕ → ℕ → ℕ → ℕ → Bool → List ℕ
token_record c kind start size base lost = kind ∷ c.line ∷ c.column ∷ start ∷ size ∷ base ∷ pick lost 1 0 ∷ 0 ∷ []

-- the state is within the limits
pub record Few (most : ℕ) (f : State) : Type 0 where
  pub tokens : f.tokens ≤ most
  pub errors : f.errors ≤ 255

-- what a turn requires: f is the state before it, c the cursor after the characters already consumed
pub record Ready (most : ℕ) (s T X : List ℕ) (f : State) (c : Cursor) : Type 0 where
  pub asks : Asks s c X f.text
  pub few : Few most f
  pub wide : 8 * most ≤ length T

-- how the limits bound a turn, after e errors and k tokens
abbrev pub bounded : ℕ → ℕ → ℕ → Turn → Turn
bounded most e k (refused n) = refused n
bounded most e k (goes cs es ts) = pick (leb (e + length es) 255) (pick (leb (k + length ts) most) (goes cs es ts) (refused 6)) (refused 7)

-- the turn t goes from the state f and the cursor c to the state r, and the slices hold what it pushed
pub record Went (most : ℕ) (t : Turn) (s : List ℕ) (f : State) (c : Cursor) (T E X : List ℕ) (r : State) (T' E' X' : List ℕ) : Type 0 where
  pub es : List Err
  pub ts : List Tok
  pub is : t ≡ goes (rest s r.cursor) es ts
  pub stands : Stands s r.cursor
  pub forward : c.at ≤ r.cursor.at
  pub shorter : length (rest s r.cursor) ≤ length (rest s c)
  pub toks : Wrote T (8 * f.tokens) (tokens_words f.text ts) T' (8 * r.tokens)
  pub errs : Wrote E (4 * f.errors) (errors_words es) E' (4 * r.errors)
  pub text : Wrote X f.text (tokens_text ts) X' r.text
  pub tokens : r.tokens ≡ f.tokens + length ts
  pub errors : r.errors ≡ f.errors + length es
  pub room : r.text ≤ r.cursor.at
  pub few : Few most r

pub record Stopped (most : ℕ) (t : Turn) (f : State) (x : Refusal) : Type 0 where
  pub is : bounded most f.errors f.tokens t ≡ refused (refusal_number x)
  pub refusal : 4 ≤ refusal_number x

pub record Turned (most : ℕ) (t : Turn) (s : List ℕ) (f : State) (c : Cursor) (T E X : List ℕ) (r : Result State Refusal) (T' E' X' : List ℕ) : Type 0 where
  pub is : MatchResult r (λ r. Went most t s f c T E X r T' E' X') (Stopped most t f)
