-- The laws of the turns for numbers and for a dash. Assumes nothing.
use mathlib.Core.Path.{◌≡◌, refl, sym, ap, ◌∙◌}
use mathlib.Core.Bool.{Bool, true, false, not}
use mathlib.Core.List.{List, [], ◌∷◌, ◌++◌}
use Prim.Native.Nat.{ℕ, ◌-◌, ◌<◌, ◌≤◌}
use native.Mathlib.Omega.{arith}
use borrow.Author.Tests.{eq-eqb, ne_eqb}
use lib.ListN.{length, get_or}
use Rattle.std.specs.Prelude.{Option, None, unwrap_or, Result, Err}
use Rattle.definition.specs.Choice.{pick}
use Rattle.definition.specs.Source.{Place, Ch, code}
use Rattle.definition.specs.declared.refusal.Refusal.{Refusal}
use Rattle.definition.specs.Token.{Tok, tok}
use Rattle.definition.specs.Classes as C
use Rattle.definition.specs.Kind as K
use Rattle.definition.specs.Tokenizer.{refused}
use Rattle.definition.specs.Tokenizer as Z
use Rattle.source.specs.declared.Cursor.{Cursor}
use Rattle.source.specs.Place.{Stepped, rest, char}
use Rattle.source.proofs.Laws.{rest_end}
use Rattle.slices.specs.Written.{Wrote}
use Rattle.scan.specs.Scan.{Passed}
use Rattle.slices.proofs.Writing.{wrote_trans}
use Rattle.token_records.specs.declared.State.{State}
use Rattle.token_records.specs.Push.{TokenPushed}
use Rattle.turns.specs.Turn.{at_text, at_cursor, Ready, Turned}
use Rattle.turns.proofs.Turned.{passed_step, on_text, end_token, end_refused, end_plain, with_words, turned_same, turned_on}

abbrev number : Place → ℕ → List ℕ → Tok
number p base text = tok K.Integer p text base

-- ---- digits

none_left : (t : List ℕ) → length t ≡ 0 → t ≡ []
none_left [] e = refl
none_left (b ∷ t) e = absurd (omega (arith, e))

some_left : (t : List ℕ) → (length t ≡ 0 → ⊥) → Z.or_zero t ≡ t
some_left [] e = absurd (e refl)
some_left (b ∷ t) e = refl

module _ {X : List ℕ} {x : ℕ} {u X₁ : List ℕ} {n : ℕ} (w : Wrote X x u X₁ n) where
  -- no text is `0`
  pub none_written : {X₂ : List ℕ} {m : ℕ} → n ≡ x → Wrote X₁ x (48 ∷ []) X₂ m → Wrote X x (Z.or_zero u) X₂ m
  none_written e v =
      let z : u ≡ [] = none_left _ (omega (arith, w.count)) in
      rw z (wrote_trans (rw (e, z) at w) v)

  pub some_written : (n ≡ x → ⊥) → Wrote X x (Z.or_zero u) X₁ n
  some_written e = rw (some_left u (λ i. e (omega (arith, w.count)))) w

pub integer_law : {most : ℕ} {s : List ℕ} {st : State} {c : Cursor} {T X T' X' : List ℕ} {p : Place} {r : Result State Refusal}
    {base n : ℕ} (before : List ℕ) {d : Cursor} → Ready most s T X st c → Passed s c (Z.digits base (rest s c)).rest d
    → Wrote X st.text (Z.or_zero (before ++ (Z.digits base (rest s c)).text)) X' n → n ≤ d.at →
    TokenPushed most T (at_text st d n)
    (K.Integer ∷ p.line ∷ p.column ∷ st.text ∷ (n - st.text) ∷ base ∷ 0 ∷ 0 ∷ []) T' r
    → (E : List ℕ) → Turned most (Z.integer p base before (Z.digits base (rest s c))) s st c T E X r T' E X'
integer_law {p = p} {base = base} before a q y h k E =
    end_token a.few (on_text a.few q y h) refl
    (with_words (number p base (Z.or_zero (before ++ (Z.digits base _).text))) refl refl (omega (arith, y.count)) k)

-- ---- zero

-- no character is like the number 0
pub looked_end : {o : Option ℕ} {n : ℕ} → unwrap_or o 0 ≡ n → o ≡ None → 0 ≡ n
looked_end h e = rw e at h

zero_hexadecimal : (p : Place) (cs : List Ch) → Z.look cs ≡ 120 → Z.zero_turn p cs ≡ Z.integer p 16 [] (Z.digits 16 (Z.drop_one cs))
unfolding Z.zero_turn
zero_hexadecimal p cs e = rw (eq-eqb _ _ e, Z.zero_turn)

zero_binary : (p : Place) (cs : List Ch) → Z.look cs ≡ 98 → Z.zero_turn p cs ≡ Z.integer p 2 [] (Z.digits 2 (Z.drop_one cs))
unfolding Z.zero_turn
zero_binary p cs e = rw (ne_eqb (Z.look cs) 120 (λ f. omega (arith, e)), eq-eqb _ _ e, Z.zero_turn)

zero_decimal : (p : Place) (cs : List Ch) → (Z.look cs ≡ 120 → ⊥) → (Z.look cs ≡ 98 → ⊥)
    → Z.zero_turn p cs ≡ Z.integer p 10 [] (Z.digits 10 cs)
unfolding Z.zero_turn
zero_decimal p cs e f = rw (ne_eqb _ _ e, ne_eqb _ _ f, Z.zero_turn)

module _ {most : ℕ} {s : List ℕ} {st : State} {c : Cursor} {T X : List ℕ} {p : Place} {r : Result State Refusal}
    {T' X' : List ℕ} where
  based : {d : Cursor} {base : ℕ}
      → Z.zero_turn p (rest s c) ≡ Z.integer p base [] (Z.digits base (Z.drop_one (rest s c)))
      → Passed s c (Z.drop_one (rest s c)) d →
      ((E : List ℕ) → Turned most (Z.integer p base [] (Z.digits base (rest s d))) s st d T E X r T' E X')
      → (E : List ℕ) → Turned most (Z.zero_turn p (rest s c)) s st c T E X r T' E X'
  based {base = base} e q g E = turned_on (e ∙ ap (λ (cs : List Ch). Z.integer p base [] (Z.digits base cs)) (sym q.is)) q (g E)

  pub hexadecimal_law : {b : ℕ} {d : Cursor} → b ≡ Z.look (rest s c) → b ≡ 120 → Passed s c (Z.drop_one (rest s c)) d
      → ((E : List ℕ) → Turned most (Z.integer p 16 [] (Z.digits 16 (rest s d))) s st d T E X r T' E X')
      → (E : List ℕ) → Turned most (Z.zero_turn p (rest s c)) s st c T E X r T' E X'
  hexadecimal_law k e = based (zero_hexadecimal _ _ (sym k ∙ e))

  pub binary_law : {b : ℕ} {d : Cursor} → b ≡ Z.look (rest s c) → b ≡ 98 → Passed s c (Z.drop_one (rest s c)) d
      → ((E : List ℕ) → Turned most (Z.integer p 2 [] (Z.digits 2 (rest s d))) s st d T E X r T' E X')
      → (E : List ℕ) → Turned most (Z.zero_turn p (rest s c)) s st c T E X r T' E X'
  binary_law k e = based (zero_binary _ _ (sym k ∙ e))

  pub decimal_law : {b : ℕ} → b ≡ Z.look (rest s c) → (b ≡ 120 → ⊥) → (b ≡ 98 → ⊥)
      → ((E : List ℕ) → Turned most (Z.integer p 10 [] (Z.digits 10 (rest s c))) s st c T E X r T' E X')
      → (E : List ℕ) → Turned most (Z.zero_turn p (rest s c)) s st c T E X r T' E X'
  decimal_law k e f g E = turned_same (zero_decimal _ _ (λ q. e (k ∙ q)) (λ q. f (k ∙ q))) (g E)

-- ---- dash

dash_end : (p : Place) → Z.dash_turn p [] ≡ refused 5
unfolding Z.dash_turn
dash_end p = refl

dash_arrow : (p : Place) (c : Ch) (cs : List Ch) → c.byte ≡ 62 → Z.dash_turn p (c ∷ cs) ≡ Z.token cs K.RArrow p
unfolding Z.dash_turn
dash_arrow p c cs e = rw (eq-eqb _ _ e, Z.dash_turn)

dash_digit : (p : Place) (c : Ch) (cs : List Ch) → (c.byte ≡ 62 → ⊥) → C.is_digit c.byte ≡ true
    → Z.dash_turn p (c ∷ cs) ≡ Z.integer p 10 (45 ∷ []) (Z.digits 10 (c ∷ cs))
unfolding Z.dash_turn
dash_digit p c cs e f = rw (ne_eqb _ _ e, f, Z.dash_turn)

dash_minus : (p : Place) (c : Ch) (cs : List Ch) → (c.byte ≡ 62 → ⊥) → C.is_digit c.byte ≡ false
    → Z.dash_turn p (c ∷ cs) ≡ Z.token_losing cs K.Minus p [] (not (C.is_white (code c)))
unfolding Z.dash_turn
dash_minus p c cs e f = rw (ne_eqb _ _ e, f, Z.dash_turn)

pub end_law : {most : ℕ} {s : List ℕ} {st : State} {c : Cursor} {T X : List ℕ} (p : Place) {T' X' : List ℕ}
    → length s ≤ c.at → (E : List ℕ)
    → Turned most (Z.dash_turn p (rest s c)) s st c T E X (Err Refusal.MinusAtEnd) T' E X'
end_law {s = s} {c = c} p h E = end_refused Refusal.MinusAtEnd (ap (Z.dash_turn p) (rest_end s c h) ∙ dash_end _) (omega arith)

module _ {most : ℕ} {s : List ℕ} {st : State} {c : Cursor} {T X : List ℕ} {p : Place} {r : Result State Refusal} {T' : List ℕ}
    {d : Cursor} (z : Stepped s c d) where
  pub digit_law : {X' : List ℕ} {v : Bool} → (get_or s c.at 0 ≡ 62 → ⊥) → v ≡ C.is_digit (get_or s c.at 0) → v ≡ true
      → ((E : List ℕ) → Turned most (Z.integer p 10 (45 ∷ []) (Z.digits 10 (rest s c))) s st c T E X r T' E X')
      → (E : List ℕ) → Turned most (Z.dash_turn p (rest s c)) s st c T E X r T' E X'
  digit_law e f v g E =
      turned_same (ap (Z.dash_turn p) z.chars ∙ dash_digit _ _ _ e (sym f ∙ v)
      ∙ ap (λ (cs : List Ch). Z.integer p 10 (45 ∷ []) (Z.digits 10 cs)) (sym z.chars)) (g E)

  module _ (a : Ready most s T X st c × (st.text < c.at)) where
    pub arrow_law : get_or s c.at 0 ≡ 62
        → TokenPushed most T (at_cursor st d) (K.RArrow ∷ p.line ∷ p.column ∷ 0 ∷ 0 ∷ 0 ∷ 0 ∷ 0 ∷ []) T' r
        → (E : List ℕ) → Turned most (Z.dash_turn p (rest s c)) s st c T E X r T' E X
    arrow_law e g E = end_plain a.0.few a.0.asks.room (passed_step z) (ap (Z.dash_turn p) z.chars ∙ dash_arrow _ _ _ e) refl g

    pub minus_law : {v w : Bool} → (get_or s c.at 0 ≡ 62 → ⊥) → v ≡ C.is_digit (get_or s c.at 0) → v ≡ false
        → w ≡ C.is_white (code (char s c))
        → TokenPushed most T (at_cursor st d) (K.Minus ∷ p.line ∷ p.column ∷ 0 ∷ 0 ∷ 0 ∷ pick (not w) 1 0 ∷ 0 ∷ []) T' r
        → (E : List ℕ) → Turned most (Z.dash_turn p (rest s c)) s st c T E X r T' E X
    minus_law e f v q g E =
        end_plain a.0.few a.0.asks.room (passed_step z)
        (ap (Z.dash_turn p) z.chars ∙ dash_minus _ _ _ e (sym f ∙ v)
        ∙ ap (λ (l : Bool). Z.token_losing (rest s d) K.Minus p [] (not l)) (sym q)) refl g
