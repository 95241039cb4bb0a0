-- What `examine` finds in a script: its characters, tokens, token errors and the lists of its reading, as the other
-- definitions give them. Assumes nothing.
use mathlib.Core.Path.{◌≡◌, refl, subst}
use mathlib.Core.Option.{Option, none, some}
use mathlib.Core.List.{List, [], ◌∷◌}
use Prim.Native.Nat.{ℕ, ◌≤◌}
use borrow.Author.Tests.{ltb-false}
use lib.Dec.{ltb}
use lib.ListN.{length}
use Rattle.definition.specs.Source.{Ch, characters}
use Rattle.definition.specs.Tokenizer as Z
use Rattle.definition.specs.Tokenizer.{tokenize}
use Rattle.definition.specs.Act as A
use Rattle.definition.specs.Act.{Items, St, Res}
use Rattle.definition.specs.Losses.{parse_tokens}
use Rattle.definition.specs.Sentence.{Found, Examined, found, refused, parsed, examine}
use Rattle.definition.proofs.Tests.{chosen}
use Rattle.definition.proofs.Tokens.{Made, TokensOf, script_tokens}

pub record FoundIn (s : List ℕ) (f : Found) : Type 0 where
  pub size : length s ≤ 16384
  pub chars : characters s ≡ some f.chars
  pub tokens : tokenize f.chars ≡ Z.tokens f.toks f.token_errors
  pub items : Items
  pub state : St
  pub reading : parse_tokens f.toks ≡ A.gives items state
  pub reported : items.errors ≡ f.reported
  pub full : state.full ≡ f.full

abbrev FoundOf : List ℕ → Examined → Type 0
FoundOf s (found f) = FoundIn s f
FoundOf s (refused n) = Unit {0}

parsed_found : (s : List ℕ) (cs : List Ch) (t : Z.Tokens) → length s ≤ 16384 → characters s ≡ some cs → tokenize cs ≡ t
    → FoundOf s (parsed cs t)
unfolding parsed
parsed_found s cs (Z.tokens [] es) h c e = tt
parsed_found s cs (Z.tokens (t ∷ ts) es) h c e = go (parse_tokens (t ∷ ts)) refl
  where
    go : (r : Res Items) → parse_tokens (t ∷ ts) ≡ r → FoundOf s (elim r as (λ _. Examined) [
      | A.gives i st ↦ found (record { chars = cs; toks = t ∷ ts; token_errors = es; reported = i.errors; full = st.full })
      | A.refused n ↦ refused n
    ])
    go (A.gives i st) p =
        record { size = h; chars = c; tokens = e; items = i; state = st; reading = p; reported = refl; full = refl }
    go (A.refused n) p = tt
parsed_found s cs (Z.refused n) h c e = tt

pub examined : (s : List ℕ) (f : Found) → examine s ≡ found f → FoundIn s f
unfolding examine
examined s f e =
    subst (FoundOf s) e
    (chosen (FoundOf s) (ltb 16384 (length s)) _ _ (λ _. tt)
    (λ l. go (characters s) refl (ltb-false 16384 (length s) l)))
  where
    go : (o : Option (List Ch)) → characters s ≡ o → length s ≤ 16384
        → FoundOf s (elim o as (λ _. Examined) [ none ↦ refused 2 | some cs ↦ parsed cs (tokenize cs) ])
    go none c h = tt
    go (some cs) c h = parsed_found s cs (tokenize cs) h c refl

-- so its tokens and token errors are what the tokenizer makes
pub found_made : {s : List ℕ} {f : Found} → FoundIn s f → Made f.toks f.token_errors
found_made {s} {f} i = subst TokensOf i.tokens (script_tokens s f.chars i.size i.chars)
