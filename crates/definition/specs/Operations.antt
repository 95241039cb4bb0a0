-- The operations (docs/FORMAT.md, Operations and refusals): for all arguments the number, the counts and each slice
-- at exit. Token text is in Records.antt. Assumes nothing.
use Rattle.std.specs.Prelude.{true, false, ◌&&◌, List, [], ◌∷◌, ◌++◌, ℕ, ◌*◌, ◌-◌, ltb, leb, length, replicate}
use Rattle.std.proofs.Math.Option.{Option, none, some}
use Rattle.definition.specs.Tag as Tag
use Rattle.definition.specs.Source.{nowhere, characters}
use Rattle.definition.specs.Node.{u16, field, recs_bytes}
use Rattle.definition.specs.Fallible.{Err, errs_bytes}
use Rattle.definition.specs.Token.{Tok}
use Rattle.definition.specs.Tokenizer as Z
use Rattle.definition.specs.Tokenizer.{tokenize_within, tokenize}
use Rattle.definition.specs.Act as A
use Rattle.definition.specs.Act.{Items}
use Rattle.definition.specs.Losses.{parse_tokens_within, parse_tokens}
use Rattle.definition.specs.Records.{tokens_words, tokens_text, errors_words, tokens_of, errors_of}

-- a slice of n words or bytes: what was written, then zeros
abbrev pub filled : ℕ → List ℕ → List ℕ
filled n xs = xs ++ replicate (n - length xs) 0

-- ---- Tokenise

-- the number, the counts of tokens, token errors and text bytes, and the three slices
pub record Tokenised : Type 0 where
  pub number : ℕ
  pub tokens : ℕ
  pub errors : ℕ
  pub bytes : ℕ
  pub toks : List ℕ
  pub errs : List ℕ
  pub text : List ℕ

abbrev pub untouched : ℕ → List ℕ → List ℕ → List ℕ → Tokenised
untouched k T E X = record { number = k; tokens = 0; errors = 0; bytes = 0; toks = T; errs = E; text = X }

abbrev pub tokenised : List ℕ → List ℕ → List ℕ → Z.Tokens → Tokenised
tokenised T E X (Z.tokens ts es) = record { number = 0; tokens = length ts; errors = length es; bytes = length (tokens_text ts); toks = filled (length T) (tokens_words 0 ts); errs = filled (length E) (errors_words es); text = filled (length X) (tokens_text ts) }
tokenised T E X (Z.refused k) = record { number = k; tokens = 0; errors = 0; bytes = 0; toks = filled (length T) []; errs = filled (length E) []; text = filled (length X) [] }

unfoldable pub tokenise : List ℕ → List ℕ → List ℕ → List ℕ → Tokenised
unfolding characters tokenize tokens_words tokens_text errors_words
tokenise s T E X =
    elim (ltb 16384 (length s)) [
      | true ↦ untouched 1 T E X
      | false ↦ elim (characters s) [
        | none ↦ untouched 2 T E X
        | some cs ↦ elim (leb 16384 (length T) && leb 1024 (length E) && leb 16384 (length X)) [ true ↦ tokenised T E X (tokenize cs) | false ↦ untouched 3 T E X ]
      ]
    ]

-- ---- Read

pub data Outcome : Type 0 where
  file : List ℕ → Outcome
  refused : ℕ → Outcome

-- the bytes of a file: the tree, the token errors, the reported errors, the full list
unfoldable pub file_bytes : List Err → Items → List Err → List ℕ
unfolding recs_bytes errs_bytes
file_bytes es i full =
    recs_bytes i.recs ++ field Tag.Module (u16 i.count) ++ errs_bytes Tag.TokenError es
    ++ errs_bytes Tag.ReportedError i.errors ++ errs_bytes Tag.FullError full

-- reads tokens, where at most n counted calls of the parser may be open
unfoldable pub read_tokens_within : ℕ → List Tok → List Err → Outcome
unfolding parse_tokens_within file_bytes
read_tokens_within n [] es = refused 9
read_tokens_within n (t ∷ ts) es =
    elim (parse_tokens_within n (t ∷ ts)) [ A.gives i s ↦ file (file_bytes es i s.full) | A.refused k ↦ refused k ]

unfoldable pub read_tokens : List Tok → List Err → Outcome
unfolding read_tokens_within parse_tokens
read_tokens ts es = read_tokens_within 96 ts es

-- the number, the count of file bytes, and the file slice
pub record Written : Type 0 where
  pub number : ℕ
  pub bytes : ℕ
  pub file : List ℕ

-- a refusal before any work
abbrev pub kept : ℕ → List ℕ → Written
kept n o = record { number = n; bytes = 0; file = o }

abbrev pub written : List ℕ → Outcome → Written
written o (file f) = record { number = 0; bytes = length f; file = filled (length o) f }
written o (refused n) = record { number = n; bytes = 0; file = filled (length o) [] }

-- the tokens and errors passed to Read, if the slices hold them and each record is valid
pub record Validated : Type 0 where
  pub tokens : List Tok
  pub errors : List Err

abbrev pub both : Option (List Tok) → Option (List Err) → Option Validated
both none es = none
both (some ts) none = none
both (some ts) (some es) = some (record { tokens = ts; errors = es })

-- validates the slices, where at most `most` tokens are allowed
unfoldable pub validate_within : ℕ → List ℕ → ℕ → List ℕ → ℕ → List ℕ → Option Validated
unfolding tokens_of errors_of
validate_within most T n E m X =
    elim (leb n most && leb m 255 && leb (8 * n) (length T) && leb (4 * m) (length E)) [
      | true ↦ both (tokens_of T X nowhere 0 0 n) (errors_of E 0 m)
      | false ↦ none
    ]

unfoldable pub validate : List ℕ → ℕ → List ℕ → ℕ → List ℕ → Option Validated
unfolding validate_within
validate T n E m X = validate_within 2048 T n E m X

-- a list without tokens leaves the slice untouched
abbrev pub read_validated_within : ℕ → List ℕ → List Tok → List Err → Written
read_validated_within n o [] es = kept 9 o
read_validated_within n o (t ∷ ts) es = written o (read_tokens_within n (t ∷ ts) es)

abbrev pub read_validated : List ℕ → List Tok → List Err → Written
read_validated o ts es = read_validated_within 96 o ts es

-- Read: the token slice and its count, the error slice and its count, the text slice, the file slice; at most `most`
-- tokens and `nesting` open calls
unfoldable pub read_within : ℕ → ℕ → List ℕ → ℕ → List ℕ → ℕ → List ℕ → List ℕ → Written
unfolding validate_within read_tokens_within
read_within most nesting T n E m X o =
    elim (ltb (length o) 65536) [
      | true ↦ kept 3 o
      | false ↦ elim (validate_within most T n E m X) [
        | none ↦ kept 8 o
        | some h ↦ read_validated_within nesting o h.tokens h.errors
      ]
    ]

unfoldable pub read : List ℕ → ℕ → List ℕ → ℕ → List ℕ → List ℕ → Written
unfolding read_within validate read_tokens
read T n E m X o = read_within 2048 96 T n E m X o

-- ---- the whole operation

abbrev pub read_tokenised_within : ℕ → Z.Tokens → Outcome
read_tokenised_within n (Z.tokens ts es) = read_tokens_within n ts es
read_tokenised_within n (Z.refused k) = refused k

abbrev pub read_tokenised : Z.Tokens → Outcome
read_tokenised t = read_tokenised_within 96 t

-- the whole operation: the script, the file slice; at most `most` tokens and `nesting` open calls
unfoldable pub whole_within : ℕ → ℕ → List ℕ → List ℕ → Written
unfolding characters tokenize_within read_tokens_within
whole_within most nesting s o =
    elim (ltb 16384 (length s)) [
      | true ↦ kept 1 o
      | false ↦ elim (characters s) [
        | none ↦ kept 2 o
        | some cs ↦ elim (ltb (length o) 65536) [
          | true ↦ kept 3 o
          | false ↦ written o (read_tokenised_within nesting (tokenize_within most cs))
        ]
      ]
    ]

unfoldable pub whole : List ℕ → List ℕ → Written
unfolding whole_within tokenize read_tokens
whole s o = whole_within 2048 96 s o
