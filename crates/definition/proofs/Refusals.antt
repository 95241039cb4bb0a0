-- The numbers of the refusals of Tokenise after its first tests, and of Read. Assumes nothing.
use mathlib.Core.Path.{◌≡◌, subst}
use mathlib.Core.Option.{some}
use mathlib.Core.List.{List, ◌∷◌}
use Prim.Native.Nat.{ℕ, ◌≤◌}
use native.Mathlib.Omega.{arith}
use lib.Dec.{T}
use lib.ListN.{length}
use Rattle.definition.specs.Classes.{between}
use Rattle.definition.specs.Source.{Ch, characters}
use Rattle.definition.specs.Fallible.{Err}
use Rattle.definition.specs.Token.{Tok}
use Rattle.definition.specs.Tokenizer as Z
use Rattle.definition.specs.Tokenizer.{tokenize}
use Rattle.definition.specs.Act as A
use Rattle.definition.specs.Act.{Items, Res}
use Rattle.definition.specs.Losses.{parse_tokens}
use Rattle.definition.specs.Operations.{Outcome, file, refused, file_bytes, read_tokens}
use Rattle.definition.proofs.Tests.{passed, between_bounds}
use Rattle.definition.proofs.Total.{Moves}
use Rattle.definition.proofs.Losses.{tokens_move}
use Rattle.definition.proofs.Tokens.{TokensOf, script_tokens}

-- the tokenizer refuses with 4 to 7
pub tokenize_refuses : (s : List ℕ) (cs : List Ch) → length s ≤ 16384 → characters s ≡ some cs → (n : ℕ)
    → tokenize cs ≡ Z.refused n → (4 ≤ n) × (n ≤ 7)
tokenize_refuses s cs h e n r = between_bounds 4 7 n (passed _ (subst TokensOf r (script_tokens s cs h e)))

-- the parser refuses with 10 to 12
pub read_refuses : (t : Tok) (ts : List Tok) (es : List Err) (n : ℕ) → read_tokens (t ∷ ts) es ≡ refused n → (10 ≤ n) × (n ≤ 12)
unfolding read_tokens
read_refuses t ts es n e = between_bounds 10 12 n (passed _ (go (parse_tokens (t ∷ ts)) (tokens_move (t ∷ ts)) e))
  where
    go : (r : Res Items) → Moves r
        → elim r as (λ _. Outcome) [ A.gives i s ↦ file (file_bytes es i s.full) | A.refused m ↦ refused m ]
        ≡ refused n → T (between 10 12 n)
    go (A.gives i s) m q = absurd (let z : ◌≡◌ {A = ℕ} 0 1 = cc in omega arith)
    go (A.refused k) m q = let z : k ≡ n = cc in subst (λ (x : ℕ). T (between 10 12 x)) z m
