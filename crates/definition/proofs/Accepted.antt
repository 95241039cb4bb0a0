-- An accepted script: if the whole operation answers 0, each of its steps has succeeded. Assumes nothing.
use mathlib.Core.Path.{◌≡◌, refl, sym, ap, ◌∙◌, subst}
use mathlib.Core.Bool.{Bool, true, false}
use mathlib.Core.Option.{Option, none, some}
use mathlib.Core.List.{List, [], ◌∷◌}
use Prim.Native.Nat.{ℕ, ◌≤◌}
use native.Mathlib.Omega.{arith}
use lib.Dec.{ltb, T}
use lib.ListN.{length}
use borrow.Author.Tests.{ltb-false}
use Rattle.definition.specs.Classes.{between}
use Rattle.definition.specs.Source.{Ch, characters}
use Rattle.definition.specs.Fallible.{Err}
use Rattle.definition.specs.Token.{Tok}
use Rattle.definition.specs.Tokenizer as Z
use Rattle.definition.specs.Tokenizer.{tokenize}
use Rattle.definition.specs.Act as A
use Rattle.definition.specs.Act.{Items, St, Res}
use Rattle.definition.specs.Losses.{parse_tokens}
use Rattle.definition.specs.Operations.{Outcome, file, refused, filled, file_bytes, read_tokens, read_tokenised, Written, kept, written, whole}
use Rattle.definition.proofs.Total.{Moves}
use Rattle.definition.proofs.Losses.{tokens_move}
use Rattle.definition.proofs.Tokens.{Made, TokensOf, script_tokens}

-- the characters, tokens, errors and items of an accepted script, read on a file slice o
pub record Accepted (s o : List ℕ) : Type 0 where
  pub chars : List Ch
  pub decoded : characters s ≡ some chars
  pub toks : List Tok
  pub errors : List Err
  pub tokenised : tokenize chars ≡ Z.tokens toks errors
  pub made : Made toks errors
  pub items : Items
  pub last : St
  pub parsed : parse_tokens toks ≡ A.gives items last
  pub bytes : (whole s o).bytes ≡ length (file_bytes errors items last.full)
  pub file : (whole s o).file ≡ filled (length o) (file_bytes errors items last.full)

module _ (s o : List ℕ) where
  -- the result of the operation
  abbrev Is : Written → Type 0
  Is w = whole s o ≡ w

  parsed : (cs : List Ch) → characters s ≡ some cs → (ts : List Tok) (es : List Err) → tokenize cs ≡ Z.tokens ts es
      → Made ts es → (r : Res Items) → parse_tokens ts ≡ r → Moves r
      → (w : Outcome)
      → w
      ≡ elim r as (λ _. Outcome) [ A.gives i st ↦ file (file_bytes es i st.full) | A.refused n ↦ refused n ]
      → Is (written o w) → (whole s o).number ≡ 0 → Accepted s o
  parsed cs c ts es t m (A.gives i st) p v w e h z =
      record {
        chars = cs;
        decoded = c;
        toks = ts;
        errors = es;
        tokenised = t;
        made = m;
        items = i;
        last = st;
        parsed = p;
        bytes = ap (λ (x : Written). x.bytes) (h ∙ ap (written o) e);
        file = ap (λ (x : Written). x.file) (h ∙ ap (written o) e);
      }
  parsed cs c ts es t m (A.refused n) p v w e h z =
      absurd
      (subst (λ (k : ℕ). T (between 10 12 k)) (sym (ap (λ (x : Written). x.number) (h ∙ ap (written o) e)) ∙ z)
      v)

  tokenised : (cs : List Ch) → characters s ≡ some cs → (t : Z.Tokens) → tokenize cs ≡ t → TokensOf t
      → Is (written o (read_tokenised t)) → (whole s o).number ≡ 0 → Accepted s o
  unfolding read_tokens
  tokenised cs c (Z.tokens [] es) t m h z = absurd (omega (arith, ap (λ (x : Written). x.number) h))
  tokenised cs c (Z.tokens (x ∷ ts) es) t m h z =
      parsed cs c (x ∷ ts) es t m (parse_tokens (x ∷ ts)) refl (tokens_move (x ∷ ts)) (read_tokens (x ∷ ts) es)
      refl h z
  tokenised cs c (Z.Tokens.refused n) t m h z =
      absurd (subst (λ (k : ℕ). T (between 4 7 k)) (sym (ap (λ (x : Written). x.number) h) ∙ z) m)

  wide : (cs : List Ch) → length s ≤ 16384 → characters s ≡ some cs → (b : Bool)
      → Is (elim b as (λ _. Written) [ true ↦ kept 3 o | false ↦ written o (read_tokenised (tokenize cs)) ])
      → (whole s o).number ≡ 0 → Accepted s o
  wide cs l c true h z = absurd (omega (arith, ap (λ (x : Written). x.number) h))
  wide cs l c false h z = tokenised cs c (tokenize cs) refl (script_tokens s cs l c) h z

  utf8 : length s ≤ 16384 → (cs : Option (List Ch)) → characters s ≡ cs
      → Is (elim cs as (λ _. Written)
      [ none ↦ kept 2 o | some cs ↦ elim (ltb (length o) 65536) as (λ _. Written) [ true ↦ kept 3 o | false ↦ written o (read_tokenised (tokenize cs)) ] ])
      → (whole s o).number ≡ 0 → Accepted s o
  utf8 l none c h z = absurd (omega (arith, ap (λ (x : Written). x.number) h))
  utf8 l (some cs) c h z = wide cs l c (ltb (length o) 65536) h z

  short : (b : Bool) → ltb 16384 (length s) ≡ b
      → Is (elim b as (λ _. Written)
      [ true ↦ kept 1 o | false ↦ elim (characters s) as (λ _. Written) [ none ↦ kept 2 o | some cs ↦ elim (ltb (length o) 65536) as (λ _. Written) [ true ↦ kept 3 o | false ↦ written o (read_tokenised (tokenize cs)) ] ] ])
      → (whole s o).number ≡ 0 → Accepted s o
  short true b h z = absurd (omega (arith, ap (λ (x : Written). x.number) h))
  short false b h z = utf8 (ltb-false _ _ b) (characters s) refl h z

  -- a script with the number 0 has been decoded, tokenised and parsed
  pub accepted : (whole s o).number ≡ 0 → Accepted s o
  unfolding whole
  accepted z = short (ltb 16384 (length s)) refl refl z
