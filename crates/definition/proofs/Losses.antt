-- The losses of tokens, and the parse that begins with them: what holds of the parser from any full list on holds of it.
-- Assumes nothing.
use mathlib.Core.Path.{◌≡◌, refl, ap, ◌∙◌}
use mathlib.Core.Bool.{Bool, true, false}
use mathlib.Core.List.{List, [], ◌∷◌}
use Prim.Native.Nat.{◌≤◌, ◌<◌}
use borrow.Author.Tests.{le-leb, lt-leb}
use lib.Dec.{leb, leb→le}
use lib.ListN.{length}
use Rattle.definition.specs.Fallible.{Err}
use Rattle.definition.specs.Token.{Tok}
use Rattle.definition.specs.Act.{Items, St, Res, refused}
use Rattle.definition.specs.Parser.{parse_module}
use Rattle.definition.specs.Losses.{loss, losses, parse_tokens}
use Rattle.definition.proofs.Tests.{All, ◌∈◌, here, there}
use Rattle.definition.proofs.Later.{After}
use Rattle.definition.proofs.Ind.{limit}
use Rattle.definition.proofs.Total.{Moves, module_moves}

-- a token that lost something has an entry, another one has none
module _ (t : Tok) (ts : List Tok) where
  pub losses_lost : t.lost ≡ true → losses (t ∷ ts) ≡ loss t ∷ losses ts
  unfolding losses
  losses_lost e = rw (e, losses)

  pub losses_kept : t.lost ≡ false → losses (t ∷ ts) ≡ losses ts
  unfolding losses
  losses_kept e = rw (e, losses)

-- what holds of the entry of each token holds of all losses
pub losses_all : (P : Err → Type 0) (ts : List Tok) → ((t : Tok) → t ∈ ts → P (loss t)) → All P (losses ts)
unfolding losses
losses_all P [] f = tt
losses_all P (t ∷ ts) f = go t.lost (f t here) (losses_all P ts (λ u m. f u (there m)))
  where
    go : (b : Bool) → P (loss t) → All P (losses ts)
        → All P (elim b as (λ _. List Err) [ true ↦ loss t ∷ losses ts | false ↦ losses ts ])
    go true p a = (p, a)
    go false p a = a

-- that parse, by whether its losses are few
abbrev parse_if : List Tok → Bool → Res Items
parse_if ts b = elim b as (λ _. Res Items) [ true ↦ parse_module (losses ts) ts | false ↦ refused 12 ]

tokens_by : (ts : List Tok) → parse_tokens ts ≡ parse_if ts (leb (length (losses ts)) 255)
unfolding parse_tokens parse_module
tokens_by ts = refl

pub tokens_after : (Q : Items → St → Type 0) (ts : List Tok)
    → (length (losses ts) ≤ 255 → After Q (parse_module (losses ts) ts)) → After Q (parse_tokens ts)
tokens_after Q ts h =
    rw (tokens_by ts)
    (limit Q (leb (length (losses ts)) 255) (parse_module (losses ts) ts) (λ t. h (leb→le (length (losses ts)) 255 t)))

-- it refuses with 10 to 12
pub tokens_move : (ts : List Tok) → Moves (parse_tokens ts)
tokens_move ts = rw (tokens_by ts) (go (leb (length (losses ts)) 255))
  where
    go : (b : Bool) → Moves (parse_if ts b)
    go true = module_moves (losses ts) ts
    go false = tt

-- it is the parser's, with its losses, or refused
pub tokens_parsed : (ts : List Tok) → length (losses ts) ≤ 255 → parse_tokens ts ≡ parse_module (losses ts) ts
tokens_parsed ts h = tokens_by ts ∙ ap (parse_if ts) (le-leb (length (losses ts)) 255 h)

pub tokens_refused : (ts : List Tok) → 255 < length (losses ts) → parse_tokens ts ≡ refused 12
tokens_refused ts h = tokens_by ts ∙ ap (parse_if ts) (lt-leb (length (losses ts)) 255 h)
