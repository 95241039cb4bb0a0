-- `tokenize` of `tokenizer.rs` (docs/FORMAT.md, Tokens): the turns of its loop, and the loop. Assumes nothing.
use Rattle.std.specs.Prelude.{Bool, true, false, ◌&&◌, ◌||◌, not, List, [], ◌∷◌, ◌++◌, ℕ, zero, suc, ◌+◌, eqb, ltb, leb, length, replicate}
use Prim.Native.String as S
use Rattle.definition.specs.Ascii.{ascii, char}
use Rattle.definition.specs.Choice.{◌⇒◌, pick, first}
use Rattle.definition.specs.Classes.{is_foreign, is_white, is_digit, is_letter, is_word, is_digit_of}
use Rattle.definition.specs.TokenError as E
use Rattle.definition.specs.Source.{Place, Ch, code}
use Rattle.definition.specs.Fallible.{Err}
use Rattle.definition.specs.Kind as K
use Rattle.definition.specs.Token.{Tok, tok, tok_losing}

-- ---- fixed spellings; 0 for bytes that are none of them

-- symbols of two characters
unfoldable pub pair : ℕ → ℕ → ℕ
unfolding first
pair c d =
    first
    ((are "<" "<" ⇒ K.LeftShift) ∷ (are "<" "-" ⇒ K.LArrow) ∷ (are "<" "=" ⇒ K.LAngleEquals) ∷ (are ">" ">" ⇒ K.RightShift) ∷ (are ">" "=" ⇒ K.RAngleEquals) ∷
    (are "&" "&" ⇒ K.DoubleAmpersand) ∷ (are "." "*" ⇒ K.DotStar) ∷ (are "=" "=" ⇒ K.DoubleEquals) ∷ [])
    0
  where
    are : S.String → S.String → Bool
    are x y = eqb c (char x) && eqb d (char y)

-- symbols of one character
unfoldable pub symbol : ℕ → ℕ
unfolding first
symbol c =
    first
    ((is "{" ⇒ K.LBrace) ∷ (is "}" ⇒ K.RBrace) ∷ (is "(" ⇒ K.LParen) ∷ (is ")" ⇒ K.RParen) ∷ (is "[" ⇒ K.LBracket) ∷ (is "]" ⇒ K.RBracket) ∷
    (is "<" ⇒ K.LAngle) ∷ (is ">" ⇒ K.RAngle) ∷ (is ":" ⇒ K.Colon) ∷ (is ";" ⇒ K.Semicolon) ∷ (is "+" ⇒ K.Plus) ∷ (is "*" ⇒ K.Star) ∷
    (is "," ⇒ K.Comma) ∷ (is "&" ⇒ K.Ampersand) ∷ (is "|" ⇒ K.Bar) ∷ (is "^" ⇒ K.Caret) ∷ (is "~" ⇒ K.Tilde) ∷ (is "!" ⇒ K.Bang) ∷
    (is "." ⇒ K.Dot) ∷ (is "=" ⇒ K.Equals) ∷ (is "#" ⇒ K.Hash) ∷ (is "/" ⇒ K.ForwardSlash) ∷ [])
    0
  where
    is : S.String → Bool
    is x = eqb c (char x)

unfoldable pub same : List ℕ → List ℕ → Bool
same [] [] = true
same [] (y ∷ ys) = false
same (x ∷ xs) [] = false
same (x ∷ xs) (y ∷ ys) = eqb x y && same xs ys

unfoldable pub keyword : List ℕ → ℕ
unfolding first same ascii
keyword w =
    first
    ((is "fn" ⇒ K.KwFn) ∷ (is "var" ⇒ K.KwVar) ∷ (is "return" ⇒ K.KwReturn) ∷ (is "loop" ⇒ K.KwLoop) ∷ (is "while" ⇒ K.KwWhile) ∷ (is "break" ⇒ K.KwBreak) ∷
    (is "if" ⇒ K.KwIf) ∷ (is "else" ⇒ K.KwElse) ∷ (is "true" ⇒ K.KwTrue) ∷ (is "false" ⇒ K.KwFalse) ∷ (is "as" ⇒ K.KwAs) ∷ (is "type" ⇒ K.KwType) ∷
    (is "struct" ⇒ K.KwStruct) ∷ (is "sizeof" ⇒ K.KwSizeof) ∷ (is "use" ⇒ K.KwUse) ∷ (is "extern" ⇒ K.KwExtern) ∷ (is "distinct" ⇒ K.KwDistinct) ∷ (is "internal" ⇒ K.KwInternal) ∷ [])
    0
  where
    is : S.String → Bool
    is x = same w (ascii x)

-- the escapes of a string: `\r`, `\n`, `\t`
abbrev pub escape : ℕ → ℕ
escape c = pick (eqb c (char "r")) 13 (pick (eqb c (char "n")) 10 (pick (eqb c (char "t")) 9 0))

-- ---- one turn: the characters left, the errors it pushes, then the tokens it pushes; or a refusal

pub data Turn : Type 0 where
  goes : List Ch → List Err → List Tok → Turn
  refused : ℕ → Turn

abbrev pub nothing : List Ch → Turn
nothing cs = goes cs [] []

abbrev pub token_text : List Ch → ℕ → Place → List ℕ → ℕ → Turn
token_text cs k p text base = goes cs [] (tok k p text base ∷ [])

abbrev pub token : List Ch → ℕ → Place → Turn
token cs k p = token_text cs k p [] 0

abbrev pub token_losing : List Ch → ℕ → Place → List ℕ → Bool → Turn
token_losing cs k p text l = goes cs [] (tok_losing k p text l ∷ [])

abbrev pub token_error : ℕ → Place → Err
token_error n p = record { number = n; place = p; expected = 0; got = 0 }

-- the first byte of what is left; 0 at the end, and at a zero character, which no test looks for
abbrev pub look : List Ch → ℕ
look [] = 0
look (c ∷ cs) = c.byte

abbrev pub drop_one : List Ch → List Ch
drop_one [] = []
drop_one (c ∷ cs) = cs

-- what is left after a comment: the characters after its newline
unfoldable pub comment : List Ch → List Ch
comment [] = []
comment (c ∷ cs) = elim (eqb c.byte 10) [ true ↦ cs | false ↦ comment cs ]

-- a text that was scanned, and the characters left
pub record Span : Type 0 where
  pub text : List ℕ
  pub rest : List Ch

abbrev pub ahead : List ℕ → Span → Span
ahead bs s = record { text = bs ++ s.text; rest = s.rest }

-- ---- numbers

unfoldable pub digits : ℕ → List Ch → Span
digits base [] = record { text = []; rest = [] }
digits base (c ∷ cs) = elim (is_digit_of base c.byte) [ true ↦ ahead (c.byte ∷ []) (digits base cs) | false ↦ record { text = []; rest = c ∷ cs } ]

-- a number with no digits is `0`
abbrev pub or_zero : List ℕ → List ℕ
or_zero [] = char "0" ∷ []
or_zero (d ∷ ds) = d ∷ ds

abbrev pub integer : Place → ℕ → List ℕ → Span → Turn
integer p base before s = token_text s.rest K.Integer p (or_zero (before ++ s.text)) base

-- after a dash: an arrow, an integer, or Minus, which consumes the next character too: lost, unless it is white space
unfoldable pub dash_turn : Place → List Ch → Turn
unfolding digits
dash_turn p [] = refused 5
dash_turn p (c ∷ cs) =
    elim (eqb c.byte (char ">")) [
      | true ↦ token cs K.RArrow p
      | false ↦ elim (is_digit c.byte) [ true ↦ integer p 10 (char "-" ∷ []) (digits 10 (c ∷ cs)) | false ↦ token_losing cs K.Minus p [] (not (is_white (code c))) ]
    ]

-- after a `0` that begins a number; the `0` is dropped
unfoldable pub zero_turn : Place → List Ch → Turn
unfolding digits
zero_turn p cs =
    elim (eqb (look cs) (char "x")) [
      | true ↦ integer p 16 [] (digits 16 (drop_one cs))
      | false ↦ elim (eqb (look cs) (char "b")) [ true ↦ integer p 2 [] (digits 2 (drop_one cs)) | false ↦ integer p 10 [] (digits 10 cs) ]
    ]

-- ---- strings

-- a string after its opening quote: the text, how many escapes were unknown, whether it is closed, characters left
pub record Quoted : Type 0 where
  pub text : List ℕ
  pub unknown : ℕ
  pub closed : Bool
  pub rest : List Ch

abbrev pub quoted_ahead : List ℕ → Quoted → Quoted
quoted_ahead bs q = record { text = bs ++ q.text; unknown = q.unknown; closed = q.closed; rest = q.rest }

abbrev pub one_unknown : Quoted → Quoted
one_unknown q = record { text = q.text; unknown = suc q.unknown; closed = q.closed; rest = q.rest }

abbrev pub cut_off : Quoted
cut_off = record { text = []; unknown = 0; closed = false; rest = [] }

-- the flag: whether the last character was a backslash
unfoldable pub quoted : Bool → List Ch → Quoted
quoted false [] = cut_off
quoted true [] = one_unknown cut_off
quoted false (c ∷ cs) =
    elim (eqb c.byte (char "\"")) [
      | true ↦ record { text = []; unknown = 0; closed = true; rest = cs }
      | false ↦ elim (eqb c.byte (char "\\")) [ true ↦ quoted true cs | false ↦ quoted_ahead (c.byte ∷ c.more) (quoted false cs) ]
    ]
quoted true (c ∷ cs) = elim (escape c.byte) [ zero ↦ one_unknown (quoted false cs) | suc e ↦ quoted_ahead (suc e ∷ []) (quoted false cs) ]

unfoldable pub string_turn : Place → Quoted → Turn
string_turn p q =
    elim q.closed [
      | true ↦ goes q.rest (replicate q.unknown (token_error E.UnknownEscape p)) (tok K.String p q.text 0 ∷ [])
      | false ↦ goes q.rest
          (replicate q.unknown (token_error E.UnknownEscape p) ++ (token_error E.UnclosedString p ∷ [])) []
    ]

-- ---- words

-- the result of a scan that refuses a foreign character
pub data Run : Type 0 where
  ends : Span → Run
  foreign : Run

abbrev pub run_ahead : List ℕ → Run → Run
run_ahead bs (ends s) = ends (ahead bs s)
run_ahead bs foreign = foreign

-- the letters and digits of a word
unfoldable pub word : List Ch → Run
word [] = ends (record { text = []; rest = [] })
word (c ∷ cs) =
    elim (is_foreign (code c)) [
      | true ↦ foreign
      | false ↦ elim (is_word (code c)) [ true ↦ run_ahead (c.byte ∷ c.more) (word cs) | false ↦ ends (record { text = []; rest = c ∷ cs }) ]
    ]

-- white space after `asm`
unfoldable pub white : List Ch → Run
white [] = ends (record { text = []; rest = [] })
white (c ∷ cs) = elim (is_foreign (code c)) [ true ↦ foreign | false ↦ elim (is_white (code c)) [ true ↦ white cs | false ↦ ends (record { text = []; rest = c ∷ cs }) ] ]

-- the text of inline assembly, up to `}` or the end
unfoldable pub assembly : List Ch → Span
assembly [] = record { text = []; rest = [] }
assembly (c ∷ cs) = elim (eqb c.byte (char "}")) [ true ↦ record { text = []; rest = cs } | false ↦ ahead (c.byte ∷ c.more) (assembly cs) ]

-- whether a `}` ends it
unfoldable pub closed : List Ch → Bool
closed [] = false
closed (c ∷ cs) = eqb c.byte (char "}") || closed cs

-- after `asm` and white space: `{` and the text; another character is consumed, with an error
unfoldable pub assembly_turn : Place → Run → Turn
unfolding assembly closed
assembly_turn p foreign = refused 4
assembly_turn p (ends s) =
    elim (eqb (look s.rest) (char "{")) [
      | true ↦ let cs = drop_one s.rest in let a = assembly cs in token_losing a.rest K.InlineAssemblyFragment p a.text (not (closed cs))
      | false ↦ goes (drop_one s.rest) (token_error E.NoAssembly p ∷ []) []
    ]

unfoldable pub word_turn : Place → Run → Turn
unfolding same keyword ascii assembly_turn white
word_turn p foreign = refused 4
word_turn p (ends s) =
    elim (same s.text (ascii "asm")) [
      | true ↦ assembly_turn p (white s.rest)
      | false ↦ elim (keyword s.text) [ zero ↦ token_text s.rest K.Identifier p s.text 0 | suc k ↦ token s.rest (suc k) p ]
    ]

-- ---- the turn

-- what a character begins, by its number and the first byte after it
pub data Class : Type 0 where
  Foreign White Comment Pair Symbol Quote Word Dash Zero Digit Unknown : Class

unfoldable pub class : ℕ → ℕ → Class
unfolding first pair symbol
class c d =
    first
    ((is_foreign c ⇒ Foreign) ∷ (is_white c ⇒ White) ∷ ((eqb c (char "/") && eqb d (char "/")) ⇒ Comment) ∷ (ltb 0 (pair c d) ⇒ Pair) ∷ (ltb 0 (symbol c) ⇒ Symbol) ∷
    (eqb c (char "\"") ⇒ Quote) ∷ (is_letter c ⇒ Word) ∷ (eqb c (char "-") ⇒ Dash) ∷ (eqb c (char "0") ⇒ Zero) ∷ (is_digit c ⇒ Digit) ∷ [])
    Unknown

-- the turn at a character, by its class
abbrev pub turn_by : Class → Ch → List Ch → Turn
turn_by Foreign c cs = refused 4
turn_by White c cs = nothing cs
turn_by Comment c cs = nothing (comment (drop_one cs))
turn_by Pair c cs = token (drop_one cs) (pair (code c) (look cs)) c.place
turn_by Symbol c cs = token cs (symbol (code c)) c.place
turn_by Quote c cs = string_turn c.place (quoted false cs)
turn_by Word c cs = word_turn c.place (run_ahead (c.byte ∷ c.more) (word cs))
turn_by Dash c cs = dash_turn c.place cs
turn_by Zero c cs = zero_turn c.place cs
turn_by Digit c cs = integer c.place 10 (c.byte ∷ []) (digits 10 cs)
turn_by Unknown c cs = goes cs (token_error E.UnknownCharacter c.place ∷ []) []

unfoldable pub turn : Ch → List Ch → Turn
unfolding class pair symbol comment quoted string_turn word word_turn dash_turn zero_turn digits
turn c cs = turn_by (class (code c) (look cs)) c cs

-- ---- the loop

pub data Tokens : Type 0 where
  tokens : List Tok → List Err → Tokens
  refused : ℕ → Tokens

-- The loop: at most `most` tokens and 255 errors, in at most n turns. Each turn consumes a character, so one turn for
-- each and one more are enough: no script reaches `refused 0`
unfoldable pub tokenize_from : ℕ → ℕ → List Ch → List Tok → List Err → Tokens
unfolding turn
tokenize_from most zero cs ts es = refused 0
tokenize_from most (suc n) [] ts es = tokens ts es
tokenize_from most (suc n) (c ∷ cs) ts es =
    elim (turn c cs) [
      | refused k ↦ refused k
      | goes cs' es' ts' ↦ elim (leb (length es + length es') 255) [
        | false ↦ refused 7
        | true ↦ elim (leb (length ts + length ts') most) [ false ↦ refused 6 | true ↦ tokenize_from most n cs' (ts ++ ts') (es ++ es') ]
      ]
    ]

-- the tokenizer with at most `most` tokens
unfoldable pub tokenize_within : ℕ → List Ch → Tokens
unfolding tokenize_from
tokenize_within most cs = tokenize_from most (suc (length cs)) cs [] []

unfoldable pub tokenize : List Ch → Tokens
unfolding tokenize_within
tokenize cs = tokenize_within 2048 cs
