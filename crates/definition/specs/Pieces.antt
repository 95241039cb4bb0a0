-- How a script is shared out (docs/FORMAT.md, Losses): each of its characters lies in a token, white space, a comment, or
-- something with a token error. That it holds of every clean script is proved in proofs/Pieces.antt. Assumes nothing.
use Rattle.std.specs.Prelude.{◌≡◌, Bool, true, false, List, [], ◌∷◌, ◌++◌, ℕ, suc, ◌≤◌, eqb, length, replicate}
use Rattle.std.specs.List.{All}
use Rattle.std.proofs.Math.Option.{some}
use Rattle.definition.specs.Ascii.{ascii, char}
use Rattle.definition.specs.Classes.{is_white}
use Rattle.definition.specs.Kind as K
use Rattle.definition.specs.TokenError as E
use Rattle.definition.specs.Fallible.{Err}
use Rattle.definition.specs.Source.{Place, Ch, code, characters}
use Rattle.definition.specs.Token.{Tok, tok}
use Rattle.definition.specs.Tokenizer as Z
use Rattle.definition.specs.Tokenizer.{or_zero, token_error, tokens, tokenize}

-- the bytes of characters
unfoldable pub bytes_of : List Ch → List ℕ
bytes_of [] = []
bytes_of (c ∷ cs) = c.byte ∷ c.more ++ bytes_of cs

-- white space; the character with a byte; another one
abbrev pub White : Ch → Type 0
White c = is_white (code c) ≡ true

abbrev pub Is : ℕ → Ch → Type 0
Is b c = c.byte ≡ b

abbrev pub Not : ℕ → Ch → Type 0
Not b c = eqb c.byte b ≡ false

-- two slashes, and what follows them but for a newline
pub data Comment : List Ch → Type 0 where
  comment : {c d : Ch} {cs : List Ch} → Is (char "/") c → Is (char "/") d → All (Not (char "\n")) cs → Comment (c ∷ d ∷ cs)

-- what is before the digits of an integer, by its base
pub data Prefix : ℕ → List ℕ → Type 0 where
  bare : Prefix 10 []
  zero : Prefix 10 (ascii "0")
  hexadecimal : Prefix 16 (ascii "0x")
  binary : Prefix 2 (ascii "0b")

-- characters after the opening quote of a string, the text that they stand for, and how many escapes are unknown; whether
-- a quote comes after them, or the end of the script
pub data Escaped : Bool → List Ch → List ℕ → ℕ → Type 0 where
  end : {b : Bool} → Escaped b [] [] 0
  itself : {b : Bool} {c : Ch} {cs : List Ch} {x : List ℕ} {n : ℕ} → Not (char "\"") c → Not (char "\\") c → Escaped b cs x n
      → Escaped b (c ∷ cs) (c.byte ∷ c.more ++ x) n
  escape : {b : Bool} {c d : Ch} {cs : List Ch} {x : List ℕ} {n e : ℕ} → Is (char "\\") c → Z.escape d.byte ≡ suc e
      → Escaped b cs x n → Escaped b (c ∷ d ∷ cs) (suc e ∷ x) n
  unknown : {b : Bool} {c d : Ch} {cs : List Ch} {x : List ℕ} {n : ℕ} → Is (char "\\") c → Z.escape d.byte ≡ 0
      → Escaped b cs x n → Escaped b (c ∷ d ∷ cs) x (suc n)
  last : {c : Ch} → Is (char "\\") c → Escaped false (c ∷ []) [] 1

-- the characters of a token, which tell all of it
pub data Spells : List Ch → Tok → Type 0 where
  symbol : {c : Ch} {k : ℕ} → Z.symbol (code c) ≡ suc k → Spells (c ∷ []) (tok (suc k) c.place [] 0)
  pair : {c d : Ch} {k : ℕ} → Z.pair (code c) d.byte ≡ suc k → Spells (c ∷ d ∷ []) (tok (suc k) c.place [] 0)
  minus : {c : Ch} → Is (char "-") c → Spells (c ∷ []) (tok K.Minus c.place [] 0)
  arrow : {c d : Ch} → Is (char "-") c → Is (char ">") d → Spells (c ∷ d ∷ []) (tok K.RArrow c.place [] 0)
  keyword : {c : Ch} {cs : List Ch} {k : ℕ} → Z.keyword (bytes_of (c ∷ cs)) ≡ suc k → Spells (c ∷ cs) (tok (suc k) c.place [] 0)
  identifier : {c : Ch} {cs : List Ch} → Spells (c ∷ cs) (tok K.Identifier c.place (bytes_of (c ∷ cs)) 0)
  integer : {c : Ch} {cs : List Ch} {base : ℕ} {p : List ℕ} (ds : List ℕ) → Prefix base p → bytes_of (c ∷ cs) ≡ p ++ ds
      → Spells (c ∷ cs) (tok K.Integer c.place (or_zero ds) base)
  string : {c : Ch} {cs : List Ch} {x : List ℕ} (d : Ch) → Is (char "\"") c → Escaped true cs x 0 → Is (char "\"") d
      → Spells (c ∷ cs ++ (d ∷ [])) (tok K.String c.place x 0)
  assembly : {c : Ch} (cs ws : List Ch) (o : Ch) (xs : List Ch) (d : Ch) → bytes_of (c ∷ cs) ≡ ascii "asm" → All White ws → Is (char "{") o
      → All (Not (char "}")) xs → Is (char "}") d
      → Spells (c ∷ cs ++ ws ++ (o ∷ xs) ++ (d ∷ [])) (tok K.InlineAssemblyFragment c.place (bytes_of xs) 0)

-- so many unknown escapes of the string at a place
abbrev pub escapes : ℕ → Place → List Err
escapes n p = replicate n (token_error E.UnknownEscape p)

-- the characters of what has a token error, its token, if it has one, and its errors: an unknown character, `asm` with no
-- brace after it, a string with unknown escapes
pub data Faulty : List Ch → List Tok → List Err → Type 0 where
  character : {c : Ch} → Faulty (c ∷ []) [] (token_error E.UnknownCharacter c.place ∷ [])
  assembly : {c : Ch} (cs ws ds : List Ch) → bytes_of (c ∷ cs) ≡ ascii "asm" → All White ws → length ds ≤ 1
      → All (Not (char "{")) ds → Faulty (c ∷ cs ++ ws ++ ds) [] (token_error E.NoAssembly c.place ∷ [])
  string : {c : Ch} {cs : List Ch} {x : List ℕ} {n : ℕ} (d : Ch) → Is (char "\"") c → Escaped true cs x (suc n) → Is (char "\"") d
      → Faulty (c ∷ cs ++ (d ∷ [])) (tok K.String c.place x 0 ∷ []) (escapes (suc n) c.place)

-- A script's characters, with its tokens and token errors, piece by piece. A string with no closing quote is the last one
pub data Shared : List Ch → List Tok → List Err → Type 0 where
  end : Shared [] [] []
  white : {c : Ch} {cs : List Ch} {ts : List Tok} {es : List Err} → White c → Shared cs ts es → Shared (c ∷ cs) ts es
  remark : {xs cs : List Ch} {ts : List Tok} {es : List Err} → Comment xs → Shared cs ts es → Shared (xs ++ cs) ts es
  token : {xs cs : List Ch} {t : Tok} {ts : List Tok} {es : List Err} → Spells xs t → Shared cs ts es → Shared (xs ++ cs) (t ∷ ts) es
  fault : {xs cs : List Ch} {us ts : List Tok} {fs es : List Err} → Faulty xs us fs → Shared cs ts es
      → Shared (xs ++ cs) (us ++ ts) (fs ++ es)
  unclosed : {c : Ch} {cs : List Ch} {x : List ℕ} {n : ℕ} {ts : List Tok} {es : List Err} → Is (char "\"") c → Escaped false cs x n
      → Shared [] ts es → Shared (c ∷ cs) ts ((escapes n c.place ++ (token_error E.UnclosedString c.place ∷ [])) ++ es)

-- A script of which nothing is lost: its characters are shared out among the tokens and token errors that Tokenise gives
pub record LostNothing (s : List ℕ) : Type 0 where
  pub chars : List Ch
  pub toks : List Tok
  pub errors : List Err
  pub decoded : characters s ≡ some chars
  pub tokenised : tokenize chars ≡ tokens toks errors
  pub shared : Shared chars toks errors
