-- What a message says; and what finding the token or the character of an error ensures. Assumes nothing.
use Rattle.std.specs.Prelude.{◌≡◌, List, [], ◌∷◌, ℕ}
use Rattle.definition.specs.Source.{Place, Ch}
use Rattle.definition.specs.Places.{place_of}
use Rattle.definition.specs.Token.{Tok}
use Rattle.definition.specs.Records.{error_at, error_of}
use Rattle.definition.specs.Numbers.{kind_number, parse_error_number, token_error_number}
use Rattle.definition.specs.Sentence as S
use Rattle.definition.specs.declared.kind.Kind.{Kind}
use Rattle.definition.specs.declared.place.Place as D
use Rattle.definition.specs.declared.parse_error.ParseError.{ParseError}
use Rattle.definition.specs.declared.token_error.TokenError.{TokenError}
use Rattle.source.specs.Place as P
use Rattle.source.specs.Place.{Stands, origin}
use Rattle.source.specs.declared.Cursor.{Cursor}
use Rattle.fallible.specs.Lists.{err_of}
use Rattle.fallible.specs.declared.error.Error.{Error}
use Rattle.steps.specs.declared.tokens.Token.{Token}
use Rattle.steps.specs.Tokens.{rest}

-- ---- messages

-- what is said of a parser's error, and of a token error in the script s
abbrev pub parser_meaning : ParseError → Kind → Token → S.Meaning
parser_meaning e expected got = record {
  number = parse_error_number e;
  expected = kind_number expected;
  got = kind_number got.kind;
  text = got.text.now;
  base = got.base;
}

abbrev pub token_meaning : List ℕ → TokenError → D.Place → S.Meaning
token_meaning s e p =
    S.token_meaning (P.rest s origin) (record { number = token_error_number e; place = place_of p; expected = 0; got = 0 })

-- ---- an error of the parser

-- t decodes a token: its text and its base
pub record Decodes (u : Tok) (t : Token) : Type 0 where
  pub text : u.text ≡ t.text.now
  pub base : u.base ≡ t.base

-- the sentence of an error
abbrev pub parser_sentence : List ℕ → List ℕ → ℕ → Error → List ℕ
parser_sentence w x n e = S.parser_sentence (S.parser_meaning (rest w x n 0) (err_of e))

-- ---- an error of the tokenizer

-- the bytes of the first character
abbrev pub first_bytes : List Ch → List ℕ
first_bytes [] = []
first_bytes (c ∷ cs) = c.byte ∷ c.more

-- at the cursor stands the character at the place p; if there is none, the cursor is at the end
pub record StandsAt (s : List ℕ) (p : Place) (c : Cursor) : Type 0 where
  pub stands : Stands s c
  pub is : S.character_at p (P.rest s origin) ≡ first_bytes (P.rest s c)

-- the sentence of an error's record
abbrev pub token_sentence : List ℕ → List ℕ → List ℕ
token_sentence s w = S.token_sentence (S.token_meaning (P.rest s origin) (error_of (error_at w 0)))
