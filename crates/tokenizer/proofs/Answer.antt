-- The laws of `tokenize`, one for each return. Assumes nothing.
use mathlib.Core.Path.{◌≡◌, refl, sym, ap, ◌∙◌}
use Rattle.std.specs.Prelude.{Ok}
use mathlib.Core.Bool.{Bool, true, false, ◌&&◌}
use mathlib.Core.List.{List, []}
use mathlib.Core.Option.{some}
use Prim.Native.Nat.{ℕ, ◌*◌, ◌≤◌}
use native.Mathlib.Omega.{arith}
use borrow.Author.Tests.{lt-ltb, le-ltb, leb-true}
use lib.Dec.{leb}
use lib.ListN.{length}
use Rattle.definition.specs.Source.{Ch, characters}
use Rattle.definition.specs.Records.{tokens_words, tokens_text, errors_words}
use Rattle.definition.specs.Operations.{Tokenised, untouched, tokenised, tokenise}
use Rattle.definition.specs.Tokenizer as Z
use Rattle.definition.proofs.Tests.{left_true, right_true}
use Rattle.definition.specs.Numbers.{refusal_number}
use Rattle.definition.specs.declared.refusal.Refusal.{Refusal}
use Rattle.source.specs.Place.{Stands, rest, origin, Unfit, too_long, not_text}
use Rattle.token_records.specs.declared.State.{State}
use Rattle.slices.specs.Cleared.{Cleared}
use Rattle.slices.proofs.Clearing.{cleared_filled}
use Rattle.tokenizer.specs.Run.{Done, NotDone, answer}

-- ---- the slices are long enough

abbrev wide_enough : List ℕ → List ℕ → List ℕ → Bool
wide_enough T E X = leb 16384 (length T) && leb 1024 (length E) && leb 16384 (length X)

pub record Wide (T E X : List ℕ) : Type 0 where
  pub tokens : 16384 ≤ length T
  pub errors : 1024 ≤ length E
  pub text : 16384 ≤ length X

pub wide_all : (T E X : List ℕ) → wide_enough T E X ≡ true → Wide T E X
wide_all T E X e =
    let f = left_true (leb 16384 (length T) && leb 1024 (length E)) (leb 16384 (length X)) e in
    record {
      tokens = leb-true _ _ (left_true (leb 16384 (length T)) (leb 1024 (length E)) f);
      errors = leb-true _ _ (right_true (leb 16384 (length T)) (leb 1024 (length E)) f);
      text = leb-true _ _ (right_true (leb 16384 (length T) && leb 1024 (length E)) (leb 16384 (length X)) e);
    }

-- ---- before any work

pub the_characters : (s : List ℕ) → Stands s origin → characters s ≡ some (rest s origin)
unfolding characters
the_characters s z = z.is

pub unfit : (s T E X : List ℕ) {x : Refusal} → Unfit s x → untouched (refusal_number x) T E X ≡ tokenise s T E X
unfolding tokenise
unfit s T E X (too_long h) = rw (lt-ltb 16384 (length s) h, tokenise)
unfit s T E X (not_text h n) = rw (le-ltb 16384 (length s) h, n, tokenise)

of_characters : (s T E X : List ℕ) → Stands s origin × (length s ≤ 16384) → (t : Bool) → wide_enough T E X ≡ t
    → tokenise s T E X
    ≡ elim t as (λ _. Tokenised)
    [ true ↦ tokenised T E X (Z.tokenize (rest s origin)) | false ↦ untouched 3 T E X ]
unfolding tokenise
of_characters s T E X q t w = rw (le-ltb 16384 (length s) q.1, the_characters s q.0, w, tokenise)

pub too_narrow : (s T E X : List ℕ) → Stands s origin × (length s ≤ 16384)
    → wide_enough T E X ≡ false → untouched 3 T E X ≡ tokenise s T E X
too_narrow s T E X q w = sym (of_characters s T E X q false w)

-- ---- after the loop

pub within_limit : (cs : List Ch) → Z.tokenize cs ≡ Z.tokenize_within 2048 cs
unfolding Z.tokenize
within_limit cs = refl

answer_eq : {a a' b b' c c' : ℕ} {x x' y y' w w' : List ℕ} → a ≡ a' → b ≡ b' → c ≡ c' → x ≡ x' → y ≡ y' → w ≡ w'
    → ◌≡◌ {A = Tokenised} (record { number = 0; tokens = a; errors = b; bytes = c; toks = x; errs = y; text = w })
    (record { number = 0; tokens = a'; errors = b'; bytes = c'; toks = x'; errs = y'; text = w' })
answer_eq p q r t u v = rw (p, q, r, t, u, v)

module _ (s T E X : List ℕ) (q : Stands s origin × (length s ≤ 16384))
    (w : wide_enough T E X ≡ true) where
  ran : tokenise s T E X ≡ tokenised T E X (Z.tokenize_within 2048 (rest s origin))
  ran = of_characters s T E X q true w ∙ ap (tokenised T E X) (within_limit _)

  module _ {T₁ E₁ X₁ T₂ E₂ X₂ : List ℕ} (lt : length T₁ ≡ length T) (le : length E₁ ≡ length E) (lx : length X₁ ≡ length X) where
    pub refused_answer : {x : Refusal} → NotDone 2048 (rest s origin) x → Cleared T₁ 0 T₂ → Cleared E₁ 0 E₂ → Cleared X₁ 0 X₂
        → untouched (refusal_number x) T₂ E₂ X₂ ≡ tokenise s T E X
    refused_answer d a b c =
        let x = cleared_filled T 0 [] a refl lt (omega arith) in
        let y = cleared_filled E 0 [] b refl le (omega arith) in
        let z = cleared_filled X 0 [] c refl lx (omega arith) in
        rw (x, y, z) (sym (ran ∙ ap (tokenised T E X) d.is))

    pub accepted_answer : {f : State} → Done 2048 (rest s origin) T₁ E₁ X₁ f → Cleared T₁ (8 * f.tokens) T₂
        → Cleared E₁ (4 * f.errors) E₂ → Cleared X₁ f.text X₂
        → answer (Ok (record { tokens = f.tokens; errors = f.errors; bytes = f.text })) T₂ E₂ X₂ ≡ tokenise s T E X
    accepted_answer {f} d a b c =
        let k = wide_all T E X w in
        let x = cleared_filled T (8 * f.tokens) (tokens_words 0 d.ts) a d.holds.toks lt
        (omega (arith, d.few.tokens, lt, k.tokens)) in
        let y = cleared_filled E (4 * f.errors) (errors_words d.es) b d.holds.errs le
        (omega (arith, d.few.errors, le, k.errors)) in
        let z = cleared_filled X f.text (tokens_text d.ts) c d.holds.text lx (omega (arith, d.room, lx, k.text)) in
        answer_eq d.holds.tokens d.holds.errors d.holds.bytes x y z ∙ sym (ran ∙ ap (tokenised T E X) d.is)
