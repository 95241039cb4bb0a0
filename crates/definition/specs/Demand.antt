-- Demand 3 (docs/FORMAT.md, Two scripts with one tree): the terms that state it. The theorem is in
-- proofs/Claim.antt. Assumes nothing.
use Rattle.std.specs.Prelude.{◌≡◌, Bool, true, false, ◌&&◌, ◌||◌, List, [], ◌∷◌, ◌++◌, map, ℕ, zero, suc, ◌+◌, ◌*◌, eqb, length, take, drop, get_or}
use Rattle.std.proofs.Math.Option.{none, some}
use Rattle.definition.specs.Tag as Tag
use Rattle.definition.specs.Source.{characters}
use Rattle.definition.specs.Kind as K
use Rattle.definition.specs.Token.{Tok, number}
use Rattle.definition.specs.Tokenizer as Z
use Rattle.definition.specs.Tokenizer.{tokenize}
use Rattle.definition.specs.Act.{Role, plain, group, final, size, Consumed, Items, Res, gives, refused}
use Rattle.definition.specs.Losses.{parse_tokens}
use Rattle.definition.specs.Operations.{whole}

-- ---- the file

-- the length of the first field: one byte of tag, two of length, the body
abbrev pub field_size : List ℕ → ℕ
field_size bs = 3 + get_or bs 1 0 * 256 + get_or bs 2 0

-- the bytes to the end of the first field 5F, within n fields
unfoldable pub tree_from : ℕ → List ℕ → List ℕ
tree_from zero bs = []
tree_from (suc n) bs =
    take (field_size bs) bs
    ++ elim (eqb (get_or bs 0 0) Tag.Module) [ true ↦ [] | false ↦ tree_from n (drop (field_size bs) bs) ]

-- the tree of a file
unfoldable pub tree : List ℕ → List ℕ
unfolding tree_from
tree bs = tree_from (length bs) bs

-- how many of the first n fields have the tag
unfoldable pub entries_from : ℕ → ℕ → List ℕ → ℕ
entries_from tag zero bs = 0
entries_from tag (suc n) [] = 0
entries_from tag (suc n) (b ∷ bs) = elim (eqb b tag) [ true ↦ 1 | false ↦ 0 ] + entries_from tag n (drop (field_size (b ∷ bs)) (b ∷ bs))

-- the length of the full list in a file
unfoldable pub full_entries : List ℕ → ℕ
unfolding entries_from
full_entries bs = entries_from Tag.FullError (length bs) bs

-- the file that the whole operation writes for a script
abbrev pub file_of : List ℕ → List ℕ → List ℕ
file_of s o = take (whole s o).bytes (whole s o).file

-- ---- the script's tokens

-- the tokens that Tokenise gives for a script
unfoldable pub tokens_of_script : List ℕ → List Tok
unfolding characters tokenize
tokens_of_script s = elim (characters s) [ none ↦ [] | some cs ↦ elim (tokenize cs) [ Z.tokens ts es ↦ ts | Z.refused n ↦ [] ] ]

abbrev pub read_by : Res Items → List Consumed
read_by (gives i st) = st.read
read_by (refused n) = []

-- each token with its role in the Rust's steps
unfoldable pub reading : List ℕ → List Consumed
reading s = read_by (parse_tokens (tokens_of_script s))

-- the words `distinct` and `internal`
abbrev pub is_modifier : ℕ → Bool
is_modifier k = eqb k K.KwDistinct || eqb k K.KwInternal

-- the tokens that are struck: grouping parentheses, commas right before the end of a list, and these two words
abbrev pub is_struck : Role → ℕ → Bool
is_struck plain k = is_modifier k
is_struck group k = true
is_struck final k = true
is_struck size k = is_modifier k

unfoldable pub strike : List Consumed → List Consumed
strike [] = []
strike (c ∷ cs) = elim (is_struck c.role c.tok.kind) [ true ↦ strike cs | false ↦ c ∷ strike cs ]

-- ---- equal but for the spelling of array sizes

abbrev pub is_size : Role → Bool
is_size plain = false
is_size group = false
is_size final = false
is_size size = true

abbrev pub both_sizes : Consumed → Consumed → Bool
both_sizes c d = is_size c.role && is_size d.role

abbrev pub value : Consumed → ℕ
value c = number c.tok.base 0 c.tok.text

-- the same kind, text and base; two array sizes need only have the same value
pub record Same (c d : Consumed) : Type 0 where
  pub kind : c.tok.kind ≡ d.tok.kind
  pub text : both_sizes c d ≡ false → c.tok.text ≡ d.tok.text
  pub base : both_sizes c d ≡ false → c.tok.base ≡ d.tok.base
  pub value : both_sizes c d ≡ true → value c ≡ value d

-- lists of the same length that agree at every position
pub data Agree : List Consumed → List Consumed → Type 0 where
  none_left : Agree [] []
  one_more : {c d : Consumed} {cs ds : List Consumed} → Same c d → Agree cs ds → Agree (c ∷ cs) (d ∷ ds)

-- Each reading has the tokens of its script, and after striking the two agree.
pub record OneReading (s t : List ℕ) : Type 0 where
  pub first : map (λ c. c.tok) (reading s) ≡ tokens_of_script s
  pub second : map (λ c. c.tok) (reading t) ≡ tokens_of_script t
  pub agree : Agree (strike (reading s)) (strike (reading t))
