-- The starred scripts of docs/FORMAT.md in one table: for each the result of the whole operation and, where the
-- answer there is about tokens, that of Tokenise. Assumes nothing.
use Rattle.std.specs.Prelude.{◌≡◌, refl, true, false, List, [], ◌∷◌, map, ℕ, ◌+◌, ◌*◌, eqb, take, replicate}
use Rattle.std.proofs.Math.Option.{Option, none, some}
use Prim.Native.Char.{code}
use Prim.Native.String.{String}
use Prim.Native.String as S
use Rattle.definition.specs.Ascii.{ascii}
use Rattle.definition.specs.Token.{digit}
use Rattle.definition.specs.Operations.{Tokenised, tokenise, Written, whole}

-- ---- how a row is written

-- bytes in hexadecimal, two digits each; spaces are skipped
hex_from : Option ℕ → String → List ℕ
hex_from h S.[] = []
hex_from none (S.◌∷◌ c s) = elim (eqb (code c) 32) [ true ↦ hex_from none s | false ↦ hex_from (some (digit (code c))) s ]
hex_from (some h) (S.◌∷◌ c s) = (h * 16 + digit (code c)) ∷ hex_from none s

-- decimal numbers, separated by one space
decimal_from : ℕ → String → List ℕ
decimal_from n S.[] = n ∷ []
decimal_from n (S.◌∷◌ c s) = elim (eqb (code c) 32) [ true ↦ n ∷ decimal_from 0 s | false ↦ decimal_from (n * 10 + digit (code c)) s ]

-- the result of Tokenise: token records, error records and text, up to their counts
pub record Lists : Type 0 where
  pub number : ℕ
  pub toks : List ℕ
  pub errs : List ℕ
  pub text : List ℕ

-- the result of the whole operation: the number and the bytes of the file
pub record File : Type 0 where
  pub number : ℕ
  pub bytes : List ℕ

pub record Row : Type 0 where
  pub script : List ℕ
  pub tokens : Option Lists
  pub file : File

abbrev pub lists : Tokenised → Lists
lists t = record { number = t.number; toks = take (8 * t.tokens) t.toks; errs = take (4 * t.errors) t.errs; text = take t.bytes t.text }

abbrev pub file : Written → File
file w = record { number = w.number; bytes = take w.bytes w.file }

-- a row with the results that the definitions compute, on slices of the least length
unfoldable pub answered : Row → Row
unfolding tokenise whole
answered r = record {
  script = r.script;
  tokens = elim r.tokens [ none ↦ none | some t ↦ some (lists (tokenise r.script (replicate 16384 1) (replicate 1024 1) (replicate 16384 1))) ];
  file = file (whole r.script (replicate 65536 1));
}

row : String → Option Lists → File → Row
row s t f = record { script = ascii s; tokens = t; file = f }

tokens : String → String → Option Lists
tokens ws text = some (record { number = 0; toks = decimal_from 0 ws; errs = []; text = ascii text })

token_errors : String → Option Lists
token_errors es = some (record { number = 0; toks = []; errs = decimal_from 0 es; text = [] })

tree : String → File
tree bs = record { number = 0; bytes = hex_from none bs }

refused : ℕ → File
refused n = record { number = n; bytes = [] }

-- ---- the table

pub table : List Row
table =
    row "var x: T;" none (tree "10 0005 0001 0008 54  33 0000  53 0005 0001 0001 78  5F 0002 0001") ∷
    row "fn f (){c(w -1);}" none
    (tree "11 0004 0001 0001  20 0005 0001 0009 63  20 0005 0001 000B 77  24 0006 0001 0009 0001  41 0004 0001 0009  40 0006 0001 0001 0001  50 0008 0001 0001 00 0000 66  5F 0002 0001  61 0007 0F 0001 000D 00 02") ∷
    row "fn f" none
    (tree "11 0004 0001 0001  40 0006 0001 0001 0000  50 0008 0001 0001 00 0000 66  5F 0002 0001  60 0007 03 0000 0000 27 00  60 0007 03 0000 0000 29 00  60 0007 0E 0000 0000 00 00  61 0007 03 0000 0000 29 00  61 0007 0E 0000 0000 00 00  61 0007 03 0000 0000 27 00") ∷
    row "fn g (){f()();}" none
    (tree "11 0004 0001 0001  40 0006 0001 0001 0000  50 0008 0001 0001 00 0000 67  5F 0002 0001  60 0007 02 0001 000C 32 29  60 0007 07 0001 000D 00 2A  60 0007 07 0001 000E 00 32  61 0007 02 0001 000C 32 29  61 0007 07 0001 000D 00 2A  61 0007 07 0001 000E 00 32") ∷
    row "a -bc" (tokens "1 1 1 0 1 0 0 0 23 1 3 0 0 0 1 0 1 1 5 1 1 0 0 0" "ac")
    (tree "5F 0002 0000  60 0007 01 0001 0001 00 01  60 0007 01 0001 0003 00 17  60 0007 01 0001 0005 00 01  61 0007 14 0001 0003 00 00  61 0007 01 0001 0001 00 01  61 0007 01 0001 0003 00 17  61 0007 01 0001 0005 00 01") ∷
    row "0x" (tokens "2 1 1 0 1 16 0 0" "0") (tree "5F 0002 0000  60 0007 01 0001 0001 00 02  61 0007 01 0001 0001 00 02") ∷
    row "0b2" (tokens "2 1 1 0 1 2 0 0 2 1 3 1 1 10 0 0" "02")
    (tree "5F 0002 0000  60 0007 01 0001 0001 00 02  60 0007 01 0001 0003 00 02  61 0007 01 0001 0001 00 02  61 0007 01 0001 0003 00 02") ∷
    row "\"a\\\"" (token_errors "1 1 1 0 2 1 1 0") (refused 9) ∷
    row "-" none (refused 5) ∷
    row "type" none (refused 11) ∷
    row "" none (refused 9) ∷
    []

pub holds : map answered table ≡ table
unfolding hex_from decimal_from answered row tokens token_errors tree refused table ascii
holds = refl
