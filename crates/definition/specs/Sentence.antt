-- Complaints in words (docs/FORMAT.md, Sentences): the sentence of each error, composed as the messages of
-- `tokenizer.rs` and `parser.rs` are, and the operation that writes it. Assumes nothing.
use Rattle.std.specs.Prelude.{true, false, List, [], ◌∷◌, ◌++◌, ℕ, zero, suc, ◌+◌, ◌-◌, ◌/◌, ◌%◌, eqb, ltb, length, get_or}
use Rattle.std.proofs.Math.Option.{none, some}
use Prim.Native.String as S
use Rattle.std.proofs.Math.ListN.{get_elem?}
use Rattle.definition.specs.Ascii.{ascii, char}
use Rattle.definition.specs.Choice.{◌⇒◌, pick, first}
use Rattle.definition.specs.Classes.{between}
use Rattle.definition.specs.Tag as Tag
use Rattle.definition.specs.Source.{Place, same_place, Ch, code, characters}
use Rattle.definition.specs.Fallible.{Err}
use Rattle.definition.specs.Kind as K
use Rattle.definition.specs.Token.{Tok, end_token}
use Rattle.definition.specs.TokenError as TokenError
use Rattle.definition.specs.Tokenizer as Z
use Rattle.definition.specs.Tokenizer.{tokenize}
use Rattle.definition.specs.Act as A
use Rattle.definition.specs.Losses.{parse_tokens}
use Rattle.definition.specs.Records.{has_text}
use Rattle.definition.specs.Operations.{Written, kept, written, file}

-- ---- a token, in its Debug spelling

-- `TokenKind`, by number
unfoldable pub kind_names : List S.String
kind_names =
    "" ∷ "Identifier" ∷ "Integer" ∷ "String" ∷ "KwFn" ∷ "KwVar" ∷ "KwReturn" ∷ "KwLoop" ∷ "KwWhile" ∷ "KwBreak"
    ∷ "KwIf" ∷ "KwElse" ∷ "KwTrue" ∷ "KwFalse" ∷ "KwAs" ∷ "KwType" ∷ "KwStruct" ∷ "KwSizeof" ∷ "KwUse" ∷ "KwExtern"
    ∷ "KwDistinct" ∷ "KwInternal" ∷ "Plus" ∷ "Minus" ∷ "Star" ∷ "ForwardSlash" ∷ "Equals" ∷ "DoubleEquals"
    ∷ "Ampersand" ∷ "DoubleAmpersand" ∷ "Bar" ∷ "Caret" ∷ "Tilde" ∷ "Bang" ∷ "Dot" ∷ "DotStar" ∷ "LeftShift"
    ∷ "RightShift" ∷ "Hash" ∷ "LBrace" ∷ "RBrace" ∷ "LParen" ∷ "RParen" ∷ "LBracket" ∷ "RBracket" ∷ "LAngle"
    ∷ "LAngleEquals" ∷ "RAngle" ∷ "RAngleEquals" ∷ "Colon" ∷ "Semicolon" ∷ "RArrow" ∷ "LArrow" ∷ "Comma"
    ∷ "InlineAssemblyFragment" ∷ []

unfoldable pub kind_name : ℕ → List ℕ
unfolding ascii kind_names
kind_name k = ascii (get_or kind_names k "")

-- 0 to 9, a to f
abbrev pub digit_char : ℕ → ℕ
digit_char d = pick (ltb d 10) (char "0" + d) (char "a" + (d - 10))

-- a number in a base, without leading zeros, in at most f digits
unfoldable pub digits_in : ℕ → ℕ → ℕ → List ℕ
digits_in base zero n = []
digits_in base (suc f) n =
    elim (ltb n base) [
      | true ↦ digit_char n ∷ []
      | false ↦ digits_in base f (n / base) ++ (digit_char (n % base) ∷ [])
    ]

unfoldable pub in_base : ℕ → ℕ → List ℕ
unfolding digits_in
in_base base n = digits_in base (suc n) n

-- the character with the number n, in quoted text
unfoldable pub escaped : ℕ → List ℕ
unfolding first ascii in_base
escaped n =
    first
    ((eqb n (char "\"") ⇒ ascii "\\\"") ∷ (eqb n (char "\\") ⇒ ascii "\\\\") ∷ (eqb n 10 ⇒ ascii "\\n")
    ∷ (eqb n 13 ⇒ ascii "\\r") ∷ (eqb n 9 ⇒ ascii "\\t") ∷ (between 32 126 n ⇒ (n ∷ [])) ∷ [])
    (ascii "\\u{" ++ in_base 16 n ++ ascii "}")

unfoldable pub escaped_all : List Ch → List ℕ
unfolding escaped
escaped_all [] = []
escaped_all (c ∷ cs) = escaped (code c) ++ escaped_all cs

-- a text in quotes; that of a token is UTF-8
unfoldable pub in_quotes : List ℕ → List ℕ
unfolding characters ascii escaped_all
in_quotes text = elim (characters text) [ none ↦ [] | some cs ↦ ascii "\"" ++ escaped_all cs ++ ascii "\"" ]

-- the base of an Integer, after its text
unfoldable pub base_part : ℕ → ℕ → List ℕ
unfolding ascii in_base
base_part k base = elim (eqb k K.Integer) [ true ↦ ascii ", " ++ in_base 10 base | false ↦ [] ]

-- the text that a kind has, with the base of an Integer
unfoldable pub in_parentheses : ℕ → List ℕ → ℕ → List ℕ
unfolding ascii in_quotes base_part
in_parentheses k text base =
    elim (has_text k) [ true ↦ ascii "(" ++ in_quotes text ++ base_part k base ++ ascii ")" | false ↦ [] ]

abbrev pub spelled : ℕ → List ℕ → ℕ → List ℕ
spelled k text base = kind_name k ++ in_parentheses k text base

-- ---- messages

-- What a sentence says of an error: all but its place. The text and base are those of the token got; of token error 4
-- the text is the character.
pub record Meaning : Type 0 where
  pub number : ℕ
  pub expected : ℕ
  pub got : ℕ
  pub text : List ℕ
  pub base : ℕ

-- what a message is composed of: words, the kind expected, the token got, the character
pub data Part : Type 0 where
  words : S.String → Part
  expected got character : Part

abbrev pub part_bytes : Meaning → Part → List ℕ
part_bytes m (words w) = ascii w
part_bytes m expected = kind_name m.expected
part_bytes m got = spelled m.got m.text m.base
part_bytes m character = m.text

unfoldable pub compose : Meaning → List Part → List ℕ
unfolding ascii kind_name in_parentheses
compose m [] = []
compose m (p ∷ ps) = part_bytes m p ++ compose m ps

-- the messages of `tokenizer.rs`, by number
unfoldable pub token_messages : List (List Part)
token_messages =
    []
    ∷ (words "unknown escape sequence" ∷ [])
    ∷ (words "expected closing double-quotes for string" ∷ [])
    ∷ (words "expected { after `asm`" ∷ [])
    ∷ (words "unexpected character: " ∷ character ∷ [])
    ∷ []

-- the messages of `parser.rs`, by number; then those of losses
unfoldable pub parser_messages : List (List Part)
parser_messages =
    []
    ∷ (words "unexpected token at top-level: " ∷ got ∷ [])
    ∷ (words "expected " ∷ expected ∷ words ", got " ∷ got ∷ [])
    ∷ (words "expected " ∷ expected ∷ words ", got end of file" ∷ [])
    ∷ (words "expected identifier" ∷ [])
    ∷ (words "unexpected end-of-file" ∷ [])
    ∷ (words "expected statement, got end of file" ∷ [])
    ∷ (words "expected expression, got " ∷ got ∷ [])
    ∷ (words "expected expression, got end of file" ∷ [])
    ∷ (words "expected array size" ∷ [])
    ∷ (words "array size must be a positive integer" ∷ [])
    ∷ (words "expected type, got " ∷ got ∷ [])
    ∷ (words "expected type, got end of file" ∷ [])
    ∷ (words "expected } before end of file" ∷ [])
    ∷ (words "unexpected end-of-file while parsing list" ∷ [])
    ∷ (words "unexpected token " ∷ got ∷ words " in list" ∷ [])
    ∷ (words "expected identifier after `type`" ∷ [])
    ∷ (words "expected string after `use`" ∷ [])
    ∷ (words "expected start of compound, got end of file" ∷ [])
    ∷ (words "unexpected token for compound literal " ∷ got ∷ [])
    ∷ (words "character lost after minus" ∷ [])
    ∷ (words "assembly not closed" ∷ [])
    ∷ []

unfoldable pub token_sentence : Meaning → List ℕ
unfolding compose token_messages
token_sentence m = compose m (get_or token_messages m.number [])

unfoldable pub parser_sentence : Meaning → List ℕ
unfolding compose parser_messages
parser_sentence m = compose m (get_or parser_messages m.number [])

-- of an entry of the list 62, and of 60 and 61
abbrev pub sentence_of : ℕ → Meaning → List ℕ
sentence_of list m = elim (eqb list Tag.TokenError) [ true ↦ token_sentence m | false ↦ parser_sentence m ]

-- ---- an error, with the token or the character at its place

unfoldable pub token_at : Place → List Tok → Tok
token_at p [] = end_token
token_at p (t ∷ ts) = elim (same_place p t.place) [ true ↦ t | false ↦ token_at p ts ]

unfoldable pub character_at : Place → List Ch → List ℕ
character_at p [] = []
character_at p (c ∷ cs) = elim (same_place p c.place) [ true ↦ c.byte ∷ c.more | false ↦ character_at p cs ]

-- the character that token error 4 names
unfoldable pub character_of : List Ch → Err → List ℕ
unfolding character_at
character_of cs e = elim (eqb e.number TokenError.UnknownCharacter) [ true ↦ character_at e.place cs | false ↦ [] ]

unfoldable pub token_meaning : List Ch → Err → Meaning
unfolding character_of
token_meaning cs e = record { number = e.number; expected = K.End; got = K.End; text = character_of cs e; base = 0 }

-- the token got, where there is one
unfoldable pub token_got : List Tok → Err → Tok
unfolding token_at
token_got ts e = elim (eqb e.got K.End) [ true ↦ end_token | false ↦ token_at e.place ts ]

unfoldable pub parser_meaning : List Tok → Err → Meaning
unfolding token_got
parser_meaning ts e =
    record {
      number = e.number;
      expected = e.expected;
      got = e.got;
      text = (token_got ts e).text;
      base = (token_got ts e).base;
    }

-- ---- the operation

-- what is found in a script: its characters and tokens, and the three lists
pub record Found : Type 0 where
  pub chars : List Ch
  pub toks : List Tok
  pub token_errors : List Err
  pub reported : List Err
  pub full : List Err

pub data Examined : Type 0 where
  found : Found → Examined
  refused : ℕ → Examined

-- the steps of the whole operation, without its file
unfoldable pub parsed : List Ch → Z.Tokens → Examined
unfolding parse_tokens
parsed cs (Z.tokens [] es) = refused 9
parsed cs (Z.tokens (t ∷ ts) es) =
    elim (parse_tokens (t ∷ ts)) [
      | A.gives i s ↦ found (record { chars = cs; toks = t ∷ ts; token_errors = es; reported = i.errors; full = s.full })
      | A.refused n ↦ refused n
    ]
parsed cs (Z.refused n) = refused n

unfoldable pub examine : List ℕ → Examined
unfolding characters tokenize parsed
examine s =
    elim (ltb 16384 (length s)) [
      | true ↦ refused 1
      | false ↦ elim (characters s) [ none ↦ refused 2 | some cs ↦ parsed cs (tokenize cs) ]
    ]

-- the list with a tag; a number that is no list has no entries
abbrev pub entries : Found → ℕ → List Err
entries f list =
    pick (eqb list Tag.TokenError) f.token_errors
    (pick (eqb list Tag.ReportedError) f.reported (pick (eqb list Tag.FullError) f.full []))

abbrev pub meaning : Found → ℕ → Err → Meaning
meaning f list e =
    elim (eqb list Tag.TokenError) [ true ↦ token_meaning f.chars e | false ↦ parser_meaning f.toks e ]

-- the sentence at a position; past the end of the list the empty one
unfoldable pub sentence_at : Found → ℕ → ℕ → List ℕ
unfolding token_meaning parser_meaning token_sentence parser_sentence
sentence_at f list i =
    elim (get_elem? (entries f list) i) [ none ↦ [] | some e ↦ sentence_of list (meaning f list e) ]

abbrev pub said : List ℕ → List ℕ → Written
said o bs = elim (ltb (length o) (length bs)) [ true ↦ kept 13 o | false ↦ written o (file bs) ]

-- the script, the list by its tag, the position from 0, the slice
unfoldable pub sentence : List ℕ → ℕ → ℕ → List ℕ → Written
unfolding examine sentence_at
sentence s list i o = elim (examine s) [ found f ↦ said o (sentence_at f list i) | refused n ↦ kept n o ]
