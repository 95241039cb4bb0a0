-- The tokens that the records in lent slices encode, and what decoding one ensures. Assumes nothing.
use Rattle.std.specs.Prelude.{◌≡◌, List, [], ◌∷◌, ℕ, zero, suc, min, ◌+◌, ◌*◌, ◌-◌, ◌<◌, ◌≤◌, length, take, drop, get_or}
use Rattle.definition.specs.Kind as K
use Rattle.definition.specs.Numbers.{kind_number}
use Rattle.definition.specs.Token.{Tok, next_token, tail}
use Rattle.definition.specs.Records.{words_at, token_of}
use Rattle.definition.specs.Places.{place_of}
use Rattle.steps.specs.declared.tokens.Decoded.{Decoded}
use Rattle.steps.specs.declared.tokens.Token.{Token}

-- the token of the record at index i
abbrev pub tok_at : List ℕ → List ℕ → ℕ → Tok
tok_at w x i = token_of x (words_at w i)

unfoldable pub from : List ℕ → List ℕ → ℕ → ℕ → List Tok
from w x i zero = []
from w x i (suc k) = tok_at w x i ∷ from w x (i + 1) k

-- the tokens of n records from index `at` on
unfoldable pub rest : List ℕ → List ℕ → ℕ → ℕ → List Tok
rest w x n at = from w x at (n - at)

-- the file bytes that k records from index i on account for, as `cost` for each token
unfoldable pub owed : List ℕ → ℕ → ℕ → ℕ
owed w i zero = 0
owed w i (suc k) = 16 * min (get_or w (8 * i) 0) 1 + get_or w (8 * i + 4) 0 + owed w (i + 1) k

-- those that the n records account for from index `at` on
unfoldable pub budget : List ℕ → ℕ → ℕ → ℕ
budget w n at = owed w at (n - at)

-- 1 if there is a record at index `at`, else 0
unfoldable pub present : ℕ → ℕ → ℕ
present n at = min (n - at) 1

-- a record that can be decoded
pub record Sound (w : List ℕ) (i : ℕ) : Type 0 where
  pub real : 0 < get_or w (8 * i) 0
  pub kind : get_or w (8 * i) 0 ≤ K.InlineAssemblyFragment
  pub line : get_or w (8 * i + 1) 0 ≤ 16384
  pub column : get_or w (8 * i + 2) 0 ≤ 16384
  pub base : get_or w (8 * i + 5) 0 ≤ 16
  pub based : get_or w (8 * i) 0 ≡ K.Integer → 0 < get_or w (8 * i + 5) 0

-- n records are there, and each can be decoded
pub record Held (w : List ℕ) (n : ℕ) : Type 0 where
  pub words : 8 * n ≤ length w
  pub few : n ≤ 2048
  pub each : (i : ℕ) → i < n → Sound w i

-- the parts of n records lie in the text
pub record Parts (w x : List ℕ) (n : ℕ) : Type 0 where
  pub each : (i : ℕ) → i < n → get_or w (8 * i + 3) 0 + get_or w (8 * i + 4) 0 ≤ length x

-- what `Records::peek` ensures, whatever the text y holds
pub record Peeked (w : List ℕ) (n at : ℕ) (t : Decoded) : Type 0 where
  pub kind : (y : List ℕ) → (next_token (rest w y n at)).kind ≡ kind_number t.kind
  pub place : (y : List ℕ) → (next_token (rest w y n at)).place ≡ place_of t.place
  pub text : (y : List ℕ) → (next_token (rest w y n at)).text ≡ take t.length (drop t.start y)
  pub part : {y : List ℕ} → Parts w y n → t.start + t.length ≤ length y
  pub base : (y : List ℕ) → (next_token (rest w y n at)).base ≡ t.base
  pub tail : (y : List ℕ) → tail (rest w y n at) ≡ rest w y n t.next
  pub pays : budget w n t.next + 16 * min (kind_number t.kind) 1 + t.length ≡ budget w n at
  pub present : present n at ≡ min (kind_number t.kind) 1
  pub on : at + min (kind_number t.kind) 1 ≤ t.next
  pub up : at ≤ t.next
  pub end : t.next ≤ n
  pub bases : t.base ≤ 16
  pub based : kind_number t.kind ≡ K.Integer → 0 < t.base

-- what `Tokens::peek` ensures; of the text y it says nothing, but that the token's text is a part of x
pub record Seen (w x : List ℕ) (n at : ℕ) (t : Token) : Type 0 where
  pub kind : (y : List ℕ) → (next_token (rest w y n at)).kind ≡ kind_number t.kind
  pub place : (y : List ℕ) → (next_token (rest w y n at)).place ≡ place_of t.place
  pub text : (next_token (rest w x n at)).text ≡ t.text.now
  pub base : (y : List ℕ) → (next_token (rest w y n at)).base ≡ t.base
  pub tail : (y : List ℕ) → tail (rest w y n at) ≡ rest w y n t.next
  pub pays : budget w n t.next + 16 * min (kind_number t.kind) 1 + length t.text.now ≡ budget w n at
  pub present : present n at ≡ min (kind_number t.kind) 1
  pub on : at + min (kind_number t.kind) 1 ≤ t.next
  pub up : at ≤ t.next
  pub end : t.next ≤ n
  pub bases : t.base ≤ 16
  pub based : kind_number t.kind ≡ K.Integer → 0 < t.base
