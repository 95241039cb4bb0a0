-- Token and error records as words (docs/FORMAT.md, Token records): what Tokenise writes, what Read validates, and
-- Token text. Assumes nothing.
use Rattle.std.specs.Prelude.{Bool, true, false, ◌&&◌, ◌||◌, List, [], ◌∷◌, ◌++◌, ℕ, zero, suc, ◌+◌, ◌*◌, eqb, ltb, leb, length, take, drop, get_or}
use Rattle.std.proofs.Math.Option.{Option, none, some}
use Rattle.definition.specs.Choice.{pick}
use Rattle.definition.specs.Classes.{between, is_digit_of}
use Rattle.definition.specs.Source.{Place, utf8}
use Rattle.definition.specs.Fallible.{Err}
use Rattle.definition.specs.Kind as K
use Rattle.definition.specs.Token.{Tok, dashed}

-- ---- writing

abbrev pub has_text : ℕ → Bool
has_text k = eqb k K.Identifier || eqb k K.Integer || eqb k K.String || eqb k K.InlineAssemblyFragment

-- the kinds that can lose something
abbrev pub can_lose : ℕ → Bool
can_lose k = eqb k K.Minus || eqb k K.InlineAssemblyFragment

-- kind, line, column, text start, text length, base, 1 if it lost something, 0; n is the length of the text before this
-- token's
abbrev pub token_words : ℕ → Tok → List ℕ
token_words n t = t.kind ∷ t.place.line ∷ t.place.column ∷ pick (has_text t.kind) n 0 ∷ length t.text ∷ t.base ∷ pick t.lost 1 0 ∷ 0 ∷ []

unfoldable pub tokens_words : ℕ → List Tok → List ℕ
tokens_words n [] = []
tokens_words n (t ∷ ts) = token_words n t ++ tokens_words (n + length t.text) ts

unfoldable pub tokens_text : List Tok → List ℕ
tokens_text [] = []
tokens_text (t ∷ ts) = t.text ++ tokens_text ts

-- number, line, column, 0
unfoldable pub errors_words : List Err → List ℕ
errors_words [] = []
errors_words (e ∷ es) = e.number ∷ e.place.line ∷ e.place.column ∷ 0 ∷ errors_words es

-- ---- validating a token record

pub record TokenWords : Type 0 where
  pub kind : ℕ
  pub line : ℕ
  pub column : ℕ
  pub start : ℕ
  pub size : ℕ
  pub base : ℕ
  pub seventh : ℕ
  pub eighth : ℕ

-- the record at index i of a slice
abbrev pub words_at : List ℕ → ℕ → TokenWords
words_at ws i = record { kind = get_or ws (8 * i) 0; line = get_or ws (8 * i + 1) 0; column = get_or ws (8 * i + 2) 0; start = get_or ws (8 * i + 3) 0; size = get_or ws (8 * i + 4) 0; base = get_or ws (8 * i + 5) 0; seventh = get_or ws (8 * i + 6) 0; eighth = get_or ws (8 * i + 7) 0 }

-- the part of the text slice that a record names
abbrev pub part : List ℕ → TokenWords → List ℕ
part text w = take w.size (drop w.start text)

abbrev pub base_fits : ℕ → ℕ → Bool
base_fits k b = pick (eqb k K.Integer) (eqb b 2 || eqb b 10 || eqb b 16) (eqb b 0)

unfoldable pub all_digits : ℕ → List ℕ → Bool
all_digits base [] = true
all_digits base (c ∷ cs) = is_digit_of base c && all_digits base cs

abbrev pub some_digits : ℕ → List ℕ → Bool
some_digits base ds = ltb 0 (length ds) && all_digits base ds

-- an integer's text: digits of the base, at least one, in base 10 with at most a dash before them
abbrev pub integer_text : ℕ → List ℕ → Bool
integer_text base ds = pick (eqb base 10 && dashed ds) (some_digits base (drop 1 ds)) (some_digits base ds)

-- the text ends within byte 16,384 and the slice, and is UTF-8
abbrev pub text_fits : List ℕ → TokenWords → Bool
text_fits text w = leb (w.start + w.size) 16384 && leb (w.start + w.size) (length text) && utf8 (part text w)

-- the rules that concern this record alone
unfoldable pub valid_alone : List ℕ → TokenWords → Bool
unfolding utf8 all_digits
valid_alone text w =
    between K.Identifier K.InlineAssemblyFragment w.kind && between 1 16384 w.line && between 1 16384 w.column
    && base_fits w.kind w.base && leb w.seventh (pick (can_lose w.kind) 1 0) && eqb w.eighth 0
    && pick (has_text w.kind) (text_fits text w) (eqb w.start 0 && eqb w.size 0)
    && pick (eqb w.kind K.Integer) (integer_text w.base (part text w)) true

abbrev pub comes_after : Place → ℕ → ℕ → Bool
comes_after p l c = ltb p.line l || (eqb p.line l && ltb p.column c)

-- the rules that compare it with the former records: p is the place of the former token, e the end of the former text
abbrev pub valid_after : Place → ℕ → TokenWords → Bool
valid_after p e w = comes_after p w.line w.column && pick (has_text w.kind) (leb e w.start) true

abbrev pub place_of : TokenWords → Place
place_of w = record { line = w.line; column = w.column }

-- the end of the last text, after this record
abbrev pub text_end : ℕ → TokenWords → ℕ
text_end e w = pick (has_text w.kind) (w.start + w.size) e

abbrev pub token_of : List ℕ → TokenWords → Tok
token_of text w = record { kind = w.kind; place = place_of w; text = part text w; base = w.base; lost = eqb w.seventh 1 }

abbrev pub token_before : Tok → Option (List Tok) → Option (List Tok)
token_before t none = none
token_before t (some ts) = some (t ∷ ts)

-- the tokens of n records from index i on, if each is valid
unfoldable pub tokens_of : List ℕ → List ℕ → Place → ℕ → ℕ → ℕ → Option (List Tok)
unfolding valid_alone
tokens_of ws text p e i zero = some []
tokens_of ws text p e i (suc n) =
    elim (valid_alone text (words_at ws i) && valid_after p e (words_at ws i)) [
      | true ↦ token_before (token_of text (words_at ws i)) (tokens_of ws text (place_of (words_at ws i)) (text_end e (words_at ws i)) (suc i) n)
      | false ↦ none
    ]

-- ---- validating an error record

pub record ErrorWords : Type 0 where
  pub number : ℕ
  pub line : ℕ
  pub column : ℕ
  pub fourth : ℕ

abbrev pub error_at : List ℕ → ℕ → ErrorWords
error_at ws i = record { number = get_or ws (4 * i) 0; line = get_or ws (4 * i + 1) 0; column = get_or ws (4 * i + 2) 0; fourth = get_or ws (4 * i + 3) 0 }

abbrev pub valid_error : ErrorWords → Bool
valid_error w = between 1 4 w.number && between 1 16384 w.line && between 1 16384 w.column && eqb w.fourth 0

abbrev pub error_of : ErrorWords → Err
error_of w = record { number = w.number; place = record { line = w.line; column = w.column }; expected = 0; got = 0 }

abbrev pub error_before : Err → Option (List Err) → Option (List Err)
error_before e none = none
error_before e (some es) = some (e ∷ es)

-- the errors of n records from index i on, if each is valid
unfoldable pub errors_of : List ℕ → ℕ → ℕ → Option (List Err)
errors_of ws i zero = some []
errors_of ws i (suc n) = elim (valid_error (error_at ws i)) [ true ↦ error_before (error_of (error_at ws i)) (errors_of ws (suc i) n) | false ↦ none ]

-- ---- Token text

-- the text of token i; empty if the slice ends before the record does, the kind has no text, or the record is bad
unfoldable pub text_of : List ℕ → List ℕ → ℕ → List ℕ
unfolding valid_alone
text_of ws text i = pick (leb (8 * i + 8) (length ws) && has_text (words_at ws i).kind && valid_alone text (words_at ws i)) (part text (words_at ws i)) []
