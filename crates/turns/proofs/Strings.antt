-- The laws of the turn for a string. Assumes nothing.
use mathlib.Core.Path.{◌≡◌, refl, sym, ap, ◌∙◌}
use mathlib.Core.Bool.{Bool, true, false}
use mathlib.Core.List.{List, [], ◌∷◌, ◌++◌}
use Prim.Native.Nat.{ℕ, ◌+◌, ◌-◌, ◌<◌, ◌≤◌}
use native.Mathlib.Omega.{arith}
use borrow.Author.Tests.{lt-leb}
use lib.ListN.{length, replicate, length-append}
use Rattle.std.specs.Prelude as P
use Rattle.std.specs.Prelude.{Result}
use Rattle.definition.specs.Source.{Place}
use Rattle.definition.specs.Fallible.{Err}
use Rattle.definition.specs.declared.refusal.Refusal.{Refusal}
use Rattle.definition.specs.Token.{Tok, tok}
use Rattle.definition.specs.Kind as K
use Rattle.definition.specs.Tokenizer.{goes, refused}
use Rattle.definition.specs.Tokenizer as Z
use Rattle.source.specs.declared.Cursor.{Cursor}
use Rattle.source.specs.Place.{rest}
use Rattle.scan.specs.declared.Body.{Body}
use Rattle.scan.specs.declared.Scan.{Scan}
use Rattle.scan.specs.Scan.{Spanned, span_of, QuotedAs}
use Rattle.token_records.specs.declared.State.{State}
use Rattle.token_records.specs.Push.{ErrorsWent, ErrorsFull, ErrorsPushed, TokenPushed}
use Rattle.turns.specs.Turn.{at_text, Ready, bounded, Turned}
use Rattle.turns.proofs.Turned.{stopped, end_token, end_errors, with_words, wrote_back}

string_closed : (p : Place) (q : Z.Quoted) → q.closed ≡ true
    → Z.string_turn p q
    ≡ goes q.rest (replicate q.unknown (Z.token_error 1 p))
    (tok K.String p q.text 0 ∷ [])
unfolding Z.string_turn
string_closed p q e = rw (e, Z.string_turn)

string_open : (p : Place) (q : Z.Quoted) → q.closed ≡ false
    → Z.string_turn p q
    ≡ goes q.rest (replicate q.unknown (Z.token_error 1 p) ++ (Z.token_error 2 p ∷ [])) []
unfolding Z.string_turn
string_open p q e = rw (e, Z.string_turn)

-- the string from the cursor on, and the errors of its escapes
abbrev body : List ℕ → Cursor → Z.Quoted
body s c = Z.quoted false (rest s c)

abbrev escapes : ℕ → Place → List Err
escapes n p = replicate n (Z.token_error 1 p)

-- p is the place of the token and of the errors
module _ {most : ℕ} {s : List ℕ} {st : State} {c : Cursor} {T X X₁ : List ℕ} {q : Body}
    (p : Place) (a : Ready most s T X st c) (u : QuotedAs s c X st.text (body s c) X₁ q) where
  too_many : 255 < st.errors + length (escapes (body s c).unknown p) → (t : Bool) → (body s c).closed ≡ t
      → bounded most st.errors st.tokens (Z.string_turn p (body s c)) ≡ refused 7
  too_many h true f =
      ap (bounded most st.errors st.tokens) (string_closed p (body s c) f)
      ∙ rw (lt-leb (st.errors + length (escapes (body s c).unknown p)) 255 h)
  too_many h false f =
      let x = escapes (body s c).unknown p ++ (Z.token_error 2 p ∷ []) in
      let k : 255 < st.errors + length x = omega (arith, h, length-append (escapes (body s c).unknown p) (Z.token_error 2 p ∷ [])) in
      ap (bounded most st.errors st.tokens) (string_open p (body s c) f) ∙ rw (lt-leb (st.errors + length x) 255 k)

  -- too many errors: refused
  pub string_full_law : {E E' T' X' : List ℕ} {x : Refusal} → ErrorsFull st (escapes q.unknown p) x
      → Turned most (Z.string_turn p (body s c)) s st c T E X (P.Err x) T' E' X'
  string_full_law f =
      rw f.refusal (stopped Refusal.TokenErrors (too_many (rw u.unknown at f.many) (body s c).closed refl) (omega arith))

  -- the errors of the escapes are pushed
  module _ {E E₁ : List ℕ} {e : State} (z : ErrorsWent E st (escapes q.unknown p) E₁ e) where
    module _ {d : Scan} {o : Bool} (y : ((body s c).closed ≡ o) × Spanned s c X st.text (span_of (body s c)) X₁ d) where
      pub string_closed_law : {T' : List ℕ} {r : Result State Refusal} → o ≡ true
          → TokenPushed most T (at_text e d.cursor d.n)
          (K.String ∷ p.line ∷ p.column ∷ e.text ∷ (d.n - e.text) ∷ 0 ∷ 0 ∷ 0 ∷ []) T' r
          → Turned most (Z.string_turn p (body s c)) s st c T E X r T' E₁ X₁
      string_closed_law f x =
          let k : Tok = tok K.String p (body s c).text 0 in
          end_token a.few (record {
            passed = y.1.passed;
            tokens = z.tokens;
            errors = z.errors;
            few = omega (arith, z.errors, z.few);
            room = y.1.room;
            errs = z.wrote;
            text = y.1.wrote;
          })
          (string_closed p _ (y.0 ∙ f)
          ∙ ap (λ (v : ℕ). goes (body s c).rest (escapes v p) (k ∷ [])) (sym u.unknown))
          (with_words k refl z.text (omega (arith, y.1.wrote.count, z.text)) x)

      pub string_open_law : {E₂ : List ℕ} {r : Result State Refusal} → o ≡ false
          → ErrorsPushed E₁ (at_text e d.cursor e.text) (Z.token_error 2 p ∷ []) E₂ r
          → Turned most (Z.string_turn p (body s c)) s st c T E X r T E₂ X₁
      string_open_law f x =
          let l : st.text ≤ length X = omega (arith, a.asks.room, a.asks.wide, a.asks.small, a.asks.stands.inside) in
          end_errors a.few (record {
            passed = y.1.passed;
            tokens = z.tokens;
            errors = z.errors;
            few = omega (arith, z.errors, z.few);
            room = omega (arith, a.asks.room, y.1.passed.forward);
            errs = z.wrote;
            text = wrote_back l y.1.wrote;
          })
          (string_open p _ (y.0 ∙ f)
          ∙ ap (λ (v : ℕ). goes (body s c).rest (escapes v p ++ (Z.token_error 2 p ∷ [])) []) (sym u.unknown))
          (rw z.text at x)
