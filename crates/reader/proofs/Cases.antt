-- The whole operation: one law for each return. Assumes nothing.
use mathlib.Core.Path.{◌≡◌, refl, sym, ap, ap₂, ◌∙◌}
use mathlib.Core.Bool.{Bool, true, false}
use mathlib.Core.Option.{Option, none, some}
use mathlib.Core.List.{List, [], ◌∷◌, ◌++◌, map}
use Prim.Native.Nat.{ℕ, ◌*◌, ◌≤◌, ◌<◌}
use native.Mathlib.Omega.{arith}
use lib.Dec.{ltb}
use lib.ListN.{length, take, drop, take-append-drop}
use borrow.Author.Tests.{lt-ltb, le-ltb}
use Rattle.definition.specs.Source.{Ch, characters}
use Rattle.definition.specs.Token.{Tok}
use Rattle.definition.specs.Records.{tokens_words, tokens_text, errors_words}
use Rattle.definition.specs.Tokenizer as Z
use Rattle.definition.specs.Tokenizer.{tokenize}
use Rattle.definition.specs.Operations as O
use Rattle.definition.specs.Operations.{validate, kept, written, read_tokens, read_tokenised, whole}
use Rattle.definition.specs.Sentence as S
use Rattle.definition.proofs.ReadBack.{read_back}
use Rattle.definition.specs.Numbers.{refusal_number}
use Rattle.definition.specs.declared.refusal.Refusal.{Refusal}
use Rattle.source.specs.Place.{Stands, rest, origin, Unfit, too_long, not_text}
use Rattle.token_records.specs.declared.State.{State}
use Rattle.tokenizer.specs.Run.{Done, NotDone}
use Rattle.tokenizer.proofs.Answer.{the_characters, within_limit}
use Rattle.std.specs.Simd.{first_chunks}
use Rattle.std.specs.Prelude.{Result, Err}
use Rattle.error_fields.specs.Errors.{recorded}
use Rattle.error_fields.proofs.Records.{recorded_is, records_are}
use Rattle.steps.specs.Tokens as Tokens
use Rattle.validate.specs.Tested.{Tested}
use Rattle.validate.proofs.Accepted.{tested}
use Rattle.parser.specs.Answer.{answer}

-- ---- the definition by its tests

unfoldable pub whole_by : List ℕ → Bool → Option (List Ch) → Bool → O.Written
whole_by o true x c = kept 1 o
whole_by o false none c = kept 2 o
whole_by o false (some cs) true = kept 3 o
whole_by o false (some cs) false = written o (read_tokenised (tokenize cs))

pub whole_is : (s o : List ℕ) → whole s o ≡ whole_by o (ltb 16384 (length s)) (characters s) (ltb (length o) 65536)
unfolding whole whole_by
whole_is s o = one (ltb 16384 (length s)) (characters s) (ltb (length o) 65536)
  where
    one : (b : Bool) (x : Option (List Ch)) (c : Bool)
        → ◌≡◌ {A = O.Written} (elim b as (λ _. O.Written)
        [ true ↦ kept 1 o | false ↦ elim x as (λ _. O.Written) [ none ↦ kept 2 o | some cs ↦ elim c as (λ _. O.Written) [ true ↦ kept 3 o | false ↦ written o (read_tokenised (tokenize cs)) ] ] ])
        (whole_by o b x c)
    one true x c = refl
    one false none c = refl
    one false (some cs) true = refl
    one false (some cs) false = refl

-- ---- the tests

module _ (s : List ℕ) where
  pub whole_unfit : (o : List ℕ) {x : Refusal} → Unfit s x → answer (Err x) o ≡ whole s o
  unfolding whole
  whole_unfit o (too_long h) = rw (lt-ltb 16384 (length s) h, whole, O.whole_within)
  whole_unfit o (not_text h n) = rw (le-ltb 16384 (length s) h, n, whole, O.whole_within)

  pub examine_unfit : {x : Refusal} → Unfit s x → S.examine s ≡ S.refused (refusal_number x)
  unfolding S.examine
  examine_unfit (too_long h) = rw (S.examine, lt-ltb 16384 (length s) h)
  examine_unfit (not_text h n) = rw (S.examine, le-ltb 16384 (length s) h, n)

  pub whole_short : (o : List ℕ) → Stands s origin × (length s ≤ 16384) → length o < 65536 → answer (Err Refusal.SliceLength) o ≡ whole s o
  unfolding whole
  whole_short o q l =
      rw (le-ltb 16384 (length s) q.1, the_characters s q.0, lt-ltb (length o) 65536 l, whole, O.whole_within)

-- ---- after the tests

-- a slice is its first words and the rest
before_rest : (n : ℕ) (T ws : List ℕ) → take n T ≡ ws → T ≡ ws ++ drop n T
before_rest n T ws e = sym (take-append-drop n T) ∙ ap (λ (v : List ℕ). v ++ drop n T) e

-- the records of the loop are valid
module _ (s : List ℕ) (z : Stands s origin) (h : length s ≤ 16384) {T E X : List ℕ} {f : State}
    (d : Done 2048 (rest s origin) T E X f) where
  pub validated_back : validate T f.tokens E f.errors X ≡ some (record { tokens = d.ts; errors = d.es })
  validated_back =
      cc (
        before_rest (8 * f.tokens) T (tokens_words 0 d.ts) d.holds.toks,
        d.holds.tokens,
        before_rest (4 * f.errors) E (errors_words d.es) d.holds.errs,
        d.holds.errors,
        before_rest f.text X (tokens_text d.ts) d.holds.text,
        read_back s (rest s origin) d.ts d.es h (the_characters s z)
            (within_limit (rest s origin) ∙ d.is) (drop (8 * f.tokens) T) (drop (4 * f.errors) E)
            (drop f.text X),
      )

  pub records : Tested T f.tokens E f.errors X (record { tokens = d.ts; errors = d.es })
  records = tested T f.tokens E f.errors X _ validated_back

module _ (s o : List ℕ) (q : Stands s origin × (length s ≤ 16384) × (65536 ≤ length o)) where
  -- by the result of the loop
  runs : {t : Z.Tokens} → Z.tokenize_within 2048 (rest s origin) ≡ t → written o (read_tokenised t) ≡ whole s o
  unfolding whole
  runs e =
      rw (le-ltb 16384 (length s) q.1, the_characters s q.0, le-ltb (length o) 65536 q.2, whole, O.whole_within)
      (ap (λ (t : Z.Tokens). written o (read_tokenised t)) (sym (within_limit (rest s origin) ∙ e)))

  pub whole_stopped : {x : Refusal} → NotDone 2048 (rest s origin) x → written o (O.refused (refusal_number x)) ≡ whole s o
  whole_stopped d = runs d.is

  module _ {T E X : List ℕ} {f : State} (d : Done 2048 (rest s origin) T E X f) where
    pub whole_none : f.tokens ≡ 0 → written o (O.refused 9) ≡ whole s o
    unfolding read_tokens
    whole_none k = go d.ts (omega (arith, d.holds.tokens)) (runs d.is)
      where
        go : (ts : List Tok) → length ts ≡ 0 → written o (read_tokens ts d.es) ≡ whole s o → written o (O.refused 9) ≡ whole s o
        go [] m e = e
        go (t ∷ ts) m e = absurd (omega arith)

    pub whole_read : (o' : List ℕ) (w : Result ℕ Refusal) → (f.tokens ≡ 0 → ⊥)
        → answer w o' ≡ O.read_validated o (Tokens.rest T X f.tokens 0) (map recorded (first_chunks 4 f.errors E)) → answer w o' ≡ whole s o
    unfolding read_tokens
    whole_read o' w k r =
        go d.ts (λ m. k (d.holds.tokens ∙ m))
        (r ∙ ap₂ (O.read_validated o) (records s q.0 q.1 d).tokens (records_are recorded recorded_is E f.errors 0 d.es (records s q.0 q.1 d).errors)) (runs d.is)
      where
        go : (ts : List Tok) → (length ts ≡ 0 → ⊥) → answer w o' ≡ O.read_validated o ts d.es
            → written o (read_tokens ts d.es) ≡ whole s o → answer w o' ≡ whole s o
        go [] m e p = absurd (m refl)
        go (t ∷ ts) m e p = e ∙ p
