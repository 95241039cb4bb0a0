-- The laws of the turns for words and inline assembly. Assumes nothing.
use mathlib.Core.Path.{◌≡◌, refl, sym, ap, ◌∙◌}
use mathlib.Core.Bool.{Bool, true, false, not}
use mathlib.Core.List.{List, [], ◌∷◌, ◌++◌}
use Prim.Native.Nat.{ℕ, zero, suc, ◌-◌, ◌≤◌}
use native.Mathlib.Omega.{arith}
use borrow.Author.Tests.{ltb-true, eq-eqb, ne_eqb}
use lib.ListN.{length, take, drop}
use Rattle.std.specs.Prelude.{Option, Some, None, option_map, Result, Err}
use Rattle.definition.specs.Source.{Place, Ch}
use Rattle.definition.specs.Kind as K
use Rattle.definition.specs.declared.kind.Kind.{Kind}
use Rattle.definition.specs.declared.refusal.Refusal.{Refusal}
use Rattle.definition.specs.Numbers.{kind_number}
use Rattle.classes.specs.Found.{nonzero}
use Rattle.classes.proofs.Found.{kind_is, kind_there, no_kind}
use Rattle.definition.specs.Choice.{pick}
use Rattle.definition.specs.Token.{tok, tok_losing}
use Rattle.definition.specs.Tokenizer.{Span, Turn, goes, refused}
use Rattle.definition.specs.Tokenizer as Z
use Rattle.definition.proofs.Formed.{keyword_plain, plain_textless}
use Rattle.source.specs.declared.Cursor.{Cursor}
use Rattle.source.specs.Place.{Stepped, rest, char}
use Rattle.scan.specs.declared.Scan.{Scan}
use Rattle.slices.specs.Written.{Wrote}
use Rattle.scan.proofs.Laws.{copied_room}
use Rattle.scan.specs.Scan.{Passed, Asks, Spanned, stop_at, SkippedAs, Ended}
use Rattle.slices.proofs.Writing.{wrote_none, wrote_trans}
use Rattle.token_records.specs.declared.State.{State}
use Rattle.token_records.specs.Push.{ErrorsPushed, TokenPushed}
use Rattle.turns.specs.Turn.{at_text, at_cursor, Ready, Turned}
use Rattle.turns.proofs.Turned.{passed_trans, on_text, end_token, end_errors, end_refused, end_plain, with_words, turned_on, turned_back, part_of}

-- ---- assembly

asm_foreign : (p : Place) → Z.assembly_turn p Z.foreign ≡ refused 4
unfolding Z.assembly_turn
asm_foreign p = refl

-- the turn of the assembly that cs has after its brace
abbrev fragment : Place → List Ch → Turn
fragment p cs = let a = Z.assembly cs in Z.token_losing a.rest K.InlineAssemblyFragment p a.text (not (Z.closed cs))

asm_open : (p : Place) (s : Span) → Z.look s.rest ≡ 123
    → Z.assembly_turn p (Z.ends s) ≡ fragment p (Z.drop_one s.rest)
unfolding Z.assembly_turn
asm_open p s e = rw (eq-eqb _ _ e, Z.assembly_turn)

asm_other : (p : Place) (s : Span) → (Z.look s.rest ≡ 123 → ⊥)
    → Z.assembly_turn p (Z.ends s) ≡ goes (Z.drop_one s.rest) (Z.token_error 3 p ∷ []) []
unfolding Z.assembly_turn
asm_other p s e = rw (ne_eqb _ _ e, Z.assembly_turn)

module _ {most : ℕ} {s : List ℕ} {st : State} {c w : Cursor} {T X : List ℕ} (p : Place) (a : Ready most s T X st c)
    (z : SkippedAs s c (Z.white (rest s c)) w) where
  pub asm_foreign_law : {x : Refusal} {E T' E' X' : List ℕ} → (stop_at (rest s w) ≡ Z.foreign) × (x ≡ Refusal.ForeignCharacter)
      → Turned most (Z.assembly_turn p (Z.white (rest s c))) s st c T E X (Err x) T' E' X'
  asm_foreign_law r =
      rw r.1 (end_refused Refusal.ForeignCharacter (ap (Z.assembly_turn p) (z.is ∙ r.0) ∙ asm_foreign p) (omega arith))

  module _ (k : stop_at (rest s w) ≡ Z.ends (record { text = []; rest = rest s w })) {d : Cursor}
      (pd : Passed s w (Z.drop_one (rest s w)) d) where
    pub asm_open_law : {E X₁ : List ℕ} {n : Scan} {r : Result State Refusal} {T' : List ℕ} {b : Bool} → Z.look (rest s w) ≡ 123
        → (Z.closed (rest s d) ≡ b) × Spanned s d X st.text (Z.assembly (rest s d)) X₁ n →
        TokenPushed most T (at_text st n.cursor n.n)
        (K.InlineAssemblyFragment ∷ p.line ∷ p.column ∷ st.text ∷ (n.n - st.text) ∷ 0 ∷ pick (not b) 1 0 ∷ 0 ∷ []) T' r
        → Turned most (Z.assembly_turn p (Z.white (rest s c))) s st c T E X r T' E X₁
    asm_open_law e q g =
        let sp = q.1 in
        end_token a.few (on_text a.few (passed_trans (passed_trans z.passed pd) sp.passed) sp.wrote sp.room)
        (ap (Z.assembly_turn p) (z.is ∙ k) ∙ asm_open p _ e ∙ ap (fragment p) (sym pd.is))
        (with_words (tok_losing K.InlineAssemblyFragment p (Z.assembly (rest s d)).text (not (Z.closed (rest s d)))) refl refl
        (omega (arith, sp.wrote.count)) (rw (sym q.0) at g))

    pub asm_other_law : {E E' : List ℕ} {r : Result State Refusal} → (Z.look (rest s w) ≡ 123 → ⊥)
        → ErrorsPushed E (at_cursor st d) (Z.token_error 3 p ∷ []) E' r
        → Turned most (Z.assembly_turn p (Z.white (rest s c))) s st c T E X r T E' X
    asm_other_law e g =
        end_errors a.few
        (on_text a.few (passed_trans z.passed pd) wrote_none (omega (arith, z.passed.forward, pd.forward, a.asks.room)))
        (ap (Z.assembly_turn p) (z.is ∙ k) ∙ asm_other p _ e) g

-- ---- words

abbrev asm : List ℕ
asm = 97 ∷ 115 ∷ 109 ∷ []

abbrev word_kind : Place → Span → ℕ → Turn
word_kind p s k = elim k as (λ _. Turn) [ zero ↦ Z.token_text s.rest K.Identifier p s.text 0 | suc j ↦ Z.token s.rest (suc j) p ]

abbrev word_body : Place → Span → Bool → ℕ → Turn
word_body p s t k = elim t as (λ _. Turn) [ true ↦ Z.assembly_turn p (Z.white s.rest) | false ↦ word_kind p s k ]

word_ends : (p : Place) (s : Span) → Z.word_turn p (Z.ends s) ≡ word_body p s (Z.same s.text asm) (Z.keyword s.text)
unfolding Z.word_turn
word_ends p s = refl

word_foreign : (p : Place) → Z.word_turn p Z.foreign ≡ refused 4
unfolding Z.word_turn
word_foreign p = refl

word_keyword : (p : Place) (s : Span) (k : ℕ) → (k ≡ 0 → ⊥) → word_kind p s k ≡ Z.token s.rest k p
word_keyword p s zero e = absurd (e refl)
word_keyword p s (suc k) e = refl

-- the word as the code reads it back, and as the definition has it
abbrev taken : State → Scan → List ℕ → List ℕ
taken st w X = take (w.n - st.text) (drop st.text X)

abbrev turn_at : Place → List ℕ → List Ch → Turn
turn_at p first cs = Z.word_turn p (Z.run_ahead first (Z.word cs))

-- after the first character was written
pub word_asks : {most : ℕ} {s T X X₁ : List ℕ} {st : State} {c : Cursor} {n : ℕ} → Ready most s T X st c
    → Asks s st.cursor X st.text → Stepped s st.cursor c
    → Wrote X st.text ((char s st.cursor).byte ∷ (char s st.cursor).more) X₁ n → Asks s c X₁ n
word_asks a b z w = record {
  stands = a.asks.stands;
  small = a.asks.small;
  room = copied_room z w b.room;
  wide = omega (arith, w.size, a.asks.wide);
}

pub word_foreign_law : {most : ℕ} {s : List ℕ} {st : State} {c : Cursor} {T E X T' E' X' : List ℕ} {x : Refusal} (p : Place)
    (first : List ℕ) → x ≡ Refusal.ForeignCharacter → Z.word (rest s c) ≡ Z.foreign
    → Turned most (turn_at p first (rest s c)) s st c T E X (Err x) T' E' X'
word_foreign_law p first e r =
    rw e (end_refused Refusal.ForeignCharacter
    (ap (λ (y : Z.Run). Z.word_turn p (Z.run_ahead first y)) r ∙ word_foreign p) (omega arith))

module _ {most : ℕ} {s : List ℕ} {st : State} {c : Cursor} {T X X₁ X₂ first : List ℕ} {n : ℕ} {w : Scan}
    (p : Place) (a : Ready most s T X st c) (q : Wrote X st.text first X₁ n) (z : Ended s c X₁ n (Z.word (rest s c)) X₂ w) where
  within : st.text ≤ length X
  within = omega (arith, a.asks.room, a.asks.wide, a.asks.small, a.asks.stands.inside)

  passed : Passed s c (rest s w.cursor) w.cursor
  passed = z.spanned.passed

  -- the whole word
  abbrev spelled : Span
  spelled = record { text = first ++ z.text; rest = rest s w.cursor }

  written : Wrote X st.text spelled.text X₂ w.n
  written = wrote_trans q z.spanned.wrote

  taken_is : taken st w X₂ ≡ spelled.text
  taken_is = part_of within written (omega (arith, z.spanned.room, passed.stands.inside, a.asks.wide, a.asks.small))

  module _ {v : Bool} (e : v ≡ Z.same (taken st w X₂) asm) where
    turn_body : (t : Bool) → v ≡ t → turn_at p first (rest s c) ≡ word_body p spelled t (Z.keyword (taken st w X₂))
    turn_body t f =
        ap (λ (y : Z.Run). Z.word_turn p (Z.run_ahead first y)) z.is
        ∙ word_ends p spelled
        ∙ ap (λ (l : List ℕ). word_body p spelled (Z.same l asm) (Z.keyword l)) (sym taken_is)
        ∙ ap (λ (u : Bool). word_body p spelled u (Z.keyword (taken st w X₂))) (sym e ∙ f)

    pub word_asm_law : {E : List ℕ} {r : Result State Refusal} {T' E' X' : List ℕ} → v ≡ true
        → Turned most (Z.assembly_turn p (Z.white (rest s w.cursor))) s st w.cursor T E X₂ r T' E' X'
        → Turned most (turn_at p first (rest s c)) s st c T E X r T' E' X'
    word_asm_law f g =
        turned_back within written (turned_on (turn_body true f) passed g)

    module _ (f : v ≡ false) {o : Option Kind} (g : option_map kind_number o ≡ nonzero (Z.keyword (taken st w X₂))) where
      pub word_identifier_law : {E T' : List ℕ} {r : Result State Refusal} → o ≡ None
          → TokenPushed most T (at_text st w.cursor w.n)
          (K.Identifier ∷ p.line ∷ p.column ∷ st.text ∷ (w.n - st.text) ∷ 0 ∷ 0 ∷ 0 ∷ []) T' r
          → Turned most (turn_at p first (rest s c)) s st c T E X r T' E X₂
      word_identifier_law h x =
          end_token a.few (on_text a.few passed written z.spanned.room)
          (turn_body false f ∙ ap (word_kind p spelled) (no_kind _ g h))
          (with_words (tok K.Identifier p spelled.text 0) refl refl (omega (arith, written.count)) x)

      pub word_keyword_law : {E T' : List ℕ} {r : Result State Refusal} {y : Kind} → o ≡ Some y
          → TokenPushed most T (at_cursor st w.cursor) (kind_number y ∷ p.line ∷ p.column ∷ 0 ∷ 0 ∷ 0 ∷ 0 ∷ 0 ∷ []) T' r
          → Turned most (turn_at p first (rest s c)) s st c T E X r T' E X₂
      word_keyword_law {y = y} h x =
          let e : kind_number y ≡ Z.keyword (taken st w X₂) = kind_is _ g h in
          turned_back within written
          (end_plain a.few a.asks.room passed
          (turn_body false f ∙ ap (word_kind p spelled) (sym e)
          ∙ word_keyword _ _ _ (λ i. omega (arith, e, ltb-true 0 _ (kind_there _ g h))))
          (rw e (plain_textless _ (keyword_plain (taken st w X₂)))) x)
