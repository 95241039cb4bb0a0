-- A reader of sentences (docs/FORMAT.md, Sentences): the meaning of a sentence of each list, by its words, its kinds
-- and their texts. That it gives the meaning of each error's sentence back is proved in proofs/Complaints.antt.
-- Assumes nothing.
use Rattle.std.specs.Prelude.{Bool, true, false, ◌||◌, List, [], ◌∷◌, ◌++◌, map, ℕ, suc, ◌+◌, ◌*◌, ◌/◌, ◌%◌, eqb, ltb, length, take, drop, get_or}
use Rattle.definition.specs.Ascii.{ascii, char}
use Rattle.definition.specs.Choice.{pick}
use Rattle.definition.specs.Classes.{between, is_digit}
use Rattle.definition.specs.Tag as Tag
use Rattle.definition.specs.Kind as K
use Rattle.definition.specs.TokenError as TokenError
use Rattle.definition.specs.Token.{digit}
use Rattle.definition.specs.Tokenizer.{same}
use Rattle.definition.specs.Sentence.{kind_names, Meaning, Part, words, expected, got, character, token_messages, parser_messages}

-- ---- characters

-- the last six bits of a number, as a byte after the first
abbrev pub last_six : ℕ → ℕ
last_six n = 0x80 + n % 64

-- UTF-8: the bytes of the character with the number n
abbrev pub encode : ℕ → List ℕ
encode n =
    pick (ltb n 0x80) (n ∷ [])
    (pick (ltb n 0x800) ((0xC0 + n / 64) ∷ last_six n ∷ [])
    (pick (ltb n 0x10000) ((0xE0 + n / 4096) ∷ last_six (n / 64) ∷ last_six n ∷ [])
    ((0xF0 + n / 262144) ∷ last_six (n / 4096) ∷ last_six (n / 64) ∷ last_six n ∷ [])))

-- ---- a sentence in pieces

abbrev pub is_capital : ℕ → Bool
is_capital c = between (char "A") (char "Z") c

abbrev pub is_alphabetic : ℕ → Bool
is_alphabetic c = is_capital c || between (char "a") (char "z") c

-- the position of a spelling in a list
unfoldable pub position : List (List ℕ) → List ℕ → ℕ
unfolding same
position [] w = 0
position (x ∷ xs) w = elim (same w x) [ true ↦ 0 | false ↦ suc (position xs w) ]

-- the kind with a name
unfoldable pub kind_of : List ℕ → ℕ
unfolding position ascii kind_names
kind_of w = position (map ascii kind_names) w

-- a piece of a sentence: a byte of its words, or a kind with its text and base
pub data Piece : Type 0 where
  word : ℕ → Piece
  named : ℕ → List ℕ → ℕ → Piece

-- within quotes: at a character; after a backslash; after `\u`; within `\u{..}`, with the number so far
pub data Quoting : Type 0 where
  plain slash brace : Quoting
  code : ℕ → Quoting

-- within a sentence: in words; in the name of a kind; before its text; in its text; after it, with the base so far
pub data Reading : Type 0 where
  in_words : Reading
  in_name : List ℕ → Reading
  before_text : ℕ → Reading
  in_text : ℕ → List ℕ → Quoting → Reading
  after_text : ℕ → List ℕ → ℕ → Reading

-- the character that a letter after a backslash stands for
abbrev pub unescaped : ℕ → ℕ
unescaped b = pick (eqb b (char "n")) 10 (pick (eqb b (char "r")) 13 (pick (eqb b (char "t")) 9 b))

-- the pieces of the bytes left
unfoldable pub read : Reading → List ℕ → List Piece
unfolding kind_of
read in_words [] = []
read (in_name w) [] = named (kind_of w) [] 0 ∷ []
read (before_text k) [] = []
read (in_text k x q) [] = []
read (after_text k x n) [] = []
read in_words (b ∷ bs) = elim (is_capital b) [ true ↦ read (in_name (b ∷ [])) bs | false ↦ word b ∷ read in_words bs ]
read (in_name w) (b ∷ bs) =
    elim (is_alphabetic b) [
      | true ↦ read (in_name (w ++ (b ∷ []))) bs
      | false ↦ elim (eqb b (char "(")) [
        | true ↦ read (before_text (kind_of w)) bs
        | false ↦ named (kind_of w) [] 0 ∷ word b ∷ read in_words bs
      ]
    ]
read (before_text k) (b ∷ bs) = read (in_text k [] plain) bs
read (in_text k x plain) (b ∷ bs) =
    elim (eqb b (char "\"")) [
      | true ↦ read (after_text k x 0) bs
      | false ↦ elim (eqb b (char "\\")) [
        | true ↦ read (in_text k x slash) bs
        | false ↦ read (in_text k (x ++ (b ∷ [])) plain) bs
      ]
    ]
read (in_text k x slash) (b ∷ bs) =
    elim (eqb b (char "u")) [
      | true ↦ read (in_text k x brace) bs
      | false ↦ read (in_text k (x ++ (unescaped b ∷ [])) plain) bs
    ]
read (in_text k x brace) (b ∷ bs) = read (in_text k x (code 0)) bs
read (in_text k x (code n)) (b ∷ bs) =
    elim (eqb b (char "}")) [
      | true ↦ read (in_text k (x ++ encode n) plain) bs
      | false ↦ read (in_text k x (code (n * 16 + digit b))) bs
    ]
read (after_text k x n) (b ∷ bs) =
    elim (eqb b (char ")")) [
      | true ↦ named k x n ∷ read in_words bs
      | false ↦ elim (is_digit b) [
        | true ↦ read (after_text k x (n * 10 + digit b)) bs
        | false ↦ read (after_text k x n) bs
      ]
    ]

-- ---- what the pieces mean

-- the words of a sentence, with 0 for each kind
abbrev pub words_alone : List Piece → List ℕ
words_alone [] = []
words_alone (word b ∷ ps) = b ∷ words_alone ps
words_alone (named k x b ∷ ps) = 0 ∷ words_alone ps

-- and of a message
unfoldable pub wording : List Part → List ℕ
unfolding ascii
wording [] = []
wording (words w ∷ ps) = ascii w ++ wording ps
wording (expected ∷ ps) = 0 ∷ wording ps
wording (got ∷ ps) = 0 ∷ wording ps
wording (character ∷ ps) = wording ps

-- the number of the message with these words
unfoldable pub number_of : List ℕ → ℕ
unfolding position wording parser_messages
number_of ws = position (map wording parser_messages) ws

-- the kinds that a message names
unfoldable pub names : List Part → List Part
names [] = []
names (words w ∷ ps) = names ps
names (expected ∷ ps) = expected ∷ names ps
names (got ∷ ps) = got ∷ names ps
names (character ∷ ps) = names ps

-- a meaning, completed with the kinds that stand among the pieces
unfoldable pub completed : Meaning → List Part → List Piece → Meaning
completed m [] ps = m
completed m (n ∷ ns) [] = m
completed m (n ∷ ns) (word b ∷ ps) = completed m (n ∷ ns) ps
completed m (words w ∷ ns) (named k x b ∷ ps) = completed m ns ps
completed m (expected ∷ ns) (named k x b ∷ ps) =
    completed (record { number = m.number; expected = k; got = m.got; text = m.text; base = m.base }) ns ps
completed m (got ∷ ns) (named k x b ∷ ps) =
    completed (record { number = m.number; expected = m.expected; got = k; text = x; base = b }) ns ps
completed m (character ∷ ns) (named k x b ∷ ps) = completed m ns ps

-- a number, with a text
abbrev pub telling : ℕ → List ℕ → Meaning
telling n x = record { number = n; expected = K.End; got = K.End; text = x; base = 0 }

abbrev pub message : ℕ → List Part
message n = get_or parser_messages n []

abbrev pub numbered : ℕ → List Piece → Meaning
numbered n ps = completed (telling n []) (names (message n)) ps

-- the meaning of a sentence of the lists 60 and 61
unfoldable pub understood : List ℕ → Meaning
unfolding read number_of names parser_messages completed
understood bs = let ps = read in_words bs in numbered (number_of (words_alone ps)) ps

-- the words before the character of token error 4
unfoldable pub before_character : List ℕ
unfolding wording token_messages
before_character = wording (get_or token_messages TokenError.UnknownCharacter [])

-- the meaning of a sentence of the list 62
unfoldable pub understood_token : List ℕ → Meaning
unfolding same position wording token_messages before_character
understood_token bs =
    elim (same (take (length before_character) bs) before_character) [
      | true ↦ telling TokenError.UnknownCharacter (drop (length before_character) bs)
      | false ↦ telling (position (map wording token_messages) bs) []
    ]

-- the meaning of a sentence of a list
abbrev pub understood_in : ℕ → List ℕ → Meaning
understood_in list bs = elim (eqb list Tag.TokenError) [ true ↦ understood_token bs | false ↦ understood bs ]
