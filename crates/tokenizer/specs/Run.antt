-- What the turn and the loop ensure, and the answer of Tokenise. Assumes nothing.
use Rattle.std.specs.Prelude.{◌≡◌, Result, MatchResult, List, [], ◌∷◌, ℕ, ◌*◌, ◌<◌, ◌≤◌, length, take}
use Rattle.std.specs.Prelude as P
use Rattle.definition.specs.Fallible.{Err}
use Rattle.definition.specs.Token.{Tok}
use Rattle.definition.specs.Source.{Ch}
use Rattle.definition.specs.Records.{tokens_words, tokens_text, errors_words}
use Rattle.definition.specs.Operations.{Tokenised, untouched}
use Rattle.definition.specs.Numbers.{refusal_number}
use Rattle.definition.specs.declared.refusal.Refusal.{Refusal}
use Rattle.definition.specs.Tokenizer.{Turn, goes}
use Rattle.definition.specs.Tokenizer as Z
use Rattle.source.specs.Place.{rest}
use Rattle.token_records.specs.declared.State.{State}
use Rattle.turns.specs.Turn.{Few, Went, Stopped}
use Rattle.tokenizer.specs.declared.Tokenized.{Tokenized}

-- ---- the turn

-- a turn consumes the character at its cursor
pub record Onward (most : ℕ) (t : Turn) (s : List ℕ) (f : State) (T E X : List ℕ) (r : State) (T' E' X' : List ℕ) : Type 0 where
  pub went : Went most t s f f.cursor T E X r T' E' X'
  pub strict : f.cursor.at < r.cursor.at
  pub less : length (rest s r.cursor) < length (rest s f.cursor)

pub record Taken (most : ℕ) (t : Turn) (s : List ℕ) (f : State) (T E X : List ℕ) (r : Result State Refusal) (T' E' X' : List ℕ) : Type 0 where
  pub is : MatchResult r (λ r. Onward most t s f T E X r T' E' X') (Stopped most t f)

abbrev pub turn_of : List Ch → Turn
turn_of [] = goes [] [] []
turn_of (c ∷ cs) = Z.turn c cs

-- ---- the loop

-- the slices hold the records of the tokens and errors, and the text
pub record Holds (ts : List Tok) (es : List Err) (T E X : List ℕ) (f : State) : Type 0 where
  pub toks : take (8 * f.tokens) T ≡ tokens_words 0 ts
  pub errs : take (4 * f.errors) E ≡ errors_words es
  pub text : take f.text X ≡ tokens_text ts
  pub tokens : f.tokens ≡ length ts
  pub errors : f.errors ≡ length es
  pub bytes : f.text ≡ length (tokens_text ts)

pub record Done (most : ℕ) (cs : List Ch) (T E X : List ℕ) (f : State) : Type 0 where
  pub ts : List Tok
  pub es : List Err
  pub is : Z.tokenize_within most cs ≡ Z.tokens ts es
  pub holds : Holds ts es T E X f
  pub few : Few most f
  pub room : f.text ≤ 16384

pub record NotDone (most : ℕ) (cs : List Ch) (x : Refusal) : Type 0 where
  pub is : Z.tokenize_within most cs ≡ Z.refused (refusal_number x)
  pub refusal : 4 ≤ refusal_number x

pub record Ran (most : ℕ) (cs : List Ch) (T E X : List ℕ) (r : Result State Refusal) : Type 0 where
  pub is : MatchResult r (Done most cs T E X) (NotDone most cs)

-- ---- the answer

-- the number, the counts and the three slices
abbrev pub answer : Result Tokenized Refusal → List ℕ → List ℕ → List ℕ → Tokenised
answer (P.Ok r) T E X = record { number = 0; tokens = r.tokens; errors = r.errors; bytes = r.bytes; toks = T; errs = E; text = X }
answer (P.Err x) T E X = untouched (refusal_number x) T E X
