-- How a turn ends: after what was read and written, a token is pushed, errors are, nothing is, or the turn is
-- refused. Assumes nothing.
use mathlib.Core.Path.{◌≡◌, refl, sym, ap, ◌∙◌}
use Rattle.std.specs.Prelude as P
use Rattle.std.specs.Prelude.{Result}
use Rattle.definition.specs.Numbers.{refusal_number}
use Rattle.definition.specs.declared.refusal.Refusal.{Refusal}
use mathlib.Core.Bool.{Bool, true, false}
use mathlib.Core.List.{List, [], ◌∷◌, ◌++◌, append-nil}
use Prim.Native.Nat.{ℕ, ◌+◌, ◌-◌, ◌*◌, ◌≤◌}
use native.Mathlib.Omega.{arith}
use borrow.Author.Tests.{le-leb, lt-leb}
use lib.Dec.{leb}
use lib.ListN.{length, take, drop, length-append}
use lib.Seq.{take-add, drop_at, take-take, take-append-le, length-take-le}
use Rattle.definition.specs.Source.{Place, Ch}
use Rattle.definition.specs.Choice.{pick}
use Rattle.definition.specs.Fallible.{Err}
use Rattle.definition.specs.Token.{Tok}
use Rattle.definition.specs.Records.{has_text, token_words, tokens_words, tokens_text, errors_words}
use Rattle.definition.specs.Tokenizer.{Turn, goes, refused}
use Rattle.definition.specs.Tokenizer as Z
use Rattle.source.specs.declared.Cursor.{Cursor}
use Rattle.source.specs.Place.{Stands, Stepped, rest}
use Rattle.slices.specs.Written.{Wrote}
use Rattle.scan.specs.Scan.{Passed}
use Rattle.slices.proofs.Writing.{wrote_none, wrote_trans}
use Rattle.token_records.specs.declared.State.{State}
use Rattle.token_records.specs.Push.{ErrorsPushed, TokenPushed}
use Rattle.turns.specs.Turn.{at_text, at_cursor, Few, bounded, Turned}

-- ---- cursors

pub passed_step : {s : List ℕ} {c d : Cursor} → Stepped s c d → Passed s c (rest s d) d
passed_step z = record { stands = z.stands; is = refl; forward = omega (arith, z.wide); shorter = omega (arith, ap length z.chars) }

pub passed_none : {s : List ℕ} {c : Cursor} → Stands s c → Passed s c (rest s c) c
passed_none z = record { stands = z; is = refl; forward = omega arith; shorter = omega arith }

pub passed_trans : {s : List ℕ} {c d e : Cursor} {cs ds : List Ch} → Passed s c cs d → Passed s d ds e → Passed s c ds e
passed_trans a b =
    record {
      stands = b.stands;
      is = b.is;
      forward = omega (arith, a.forward, b.forward);
      shorter = omega (arith, a.shorter, b.shorter);
    }

-- ---- records

pub errors_words_append : (a b : List Err) → errors_words (a ++ b) ≡ errors_words a ++ errors_words b
unfolding errors_words
errors_words_append [] b = refl
errors_words_append (e ∷ a) b = ap (λ (l : List ℕ). e.number ∷ e.place.line ∷ e.place.column ∷ 0 ∷ l) (errors_words_append a b)

words_one : (x : ℕ) (k : Tok) → tokens_words x (k ∷ []) ≡ token_words x k
unfolding tokens_words
words_one x k = refl

text_one : (k : Tok) → tokens_text (k ∷ []) ≡ k.text
unfolding tokens_text
text_one k = append-nil k.text

-- ---- text that is written and then taken back

pub wrote_back : {X : List ℕ} {n : ℕ} {t X' : List ℕ} {m : ℕ} → n ≤ length X → Wrote X n t X' m → Wrote X n [] X' n
wrote_back {X} {n} {t} {X'} {m} h w =
    let l : n ≤ length (take n X) = omega (arith, length-take-le n X h) in
    let a : n ≤ m = omega (arith, w.count) in
    record {
      put = sym (take-take n m X' a) ∙ ap (take n) w.put ∙ take-append-le n (take n X) t l
          ∙ take-take n n X (omega arith) ∙ sym (append-nil (take n X));
      count = omega arith;
      size = w.size;
    }

-- the part that was written
pub part_of : {X : List ℕ} {n : ℕ} {t X' : List ℕ} {m : ℕ} → n ≤ length X → Wrote X n t X' m → m ≤ length X → take (m - n) (drop n X') ≡ t
part_of {X} {n} {t} {X'} {m} h w k =
    let a : m ≡ n + (m - n) = omega (arith, w.count) in
    let b : length (take n X') ≡ n = length-take-le n X' (omega (arith, w.size)) in
    let c : length (take n X) ≡ n = length-take-le n X h in
    let e : take n X' ++ take (m - n) (drop n X') ≡ take n X ++ t = sym (take-add n (m - n) X') ∙ sym
    (ap (λ (i : ℕ). take i X') a) ∙ w.put in
    sym (drop_at (take n X') (take (m - n) (drop n X')) n b) ∙ ap (drop n) e ∙ drop_at (take n X) t n c

-- ---- the ends of a turn

-- after what was read and pushed so far: the characters left, the errors es and the text t
pub record On (s : List ℕ) (st : State) (c : Cursor) (E X : List ℕ) (cs : List Ch) (es : List Err) (t : List ℕ) (f : State) (E' X' : List ℕ) : Type 0 where
  pub passed : Passed s c cs f.cursor
  pub tokens : f.tokens ≡ st.tokens
  pub errors : f.errors ≡ st.errors + length es
  pub few : f.errors ≤ 255
  pub room : f.text ≤ f.cursor.at
  pub errs : Wrote E (4 * st.errors) (errors_words es) E' (4 * f.errors)
  pub text : Wrote X st.text t X' f.text

-- no error, and a text
pub on_text : {most : ℕ} {s : List ℕ} {st : State} {c : Cursor} {E X : List ℕ} {cs : List Ch} {t X' : List ℕ} {d : Cursor}
    {n : ℕ}
    → Few most st → Passed s c cs d → Wrote X st.text t X' n → n ≤ d.at
    → On s st c E X cs [] t (at_text st d n) E X'
unfolding errors_words
on_text {st = st} w p x r =
    record {
      passed = p;
      tokens = refl;
      errors = omega arith;
      few = w.errors;
      room = r;
      errs = wrote_none;
      text = x;
    }

pub stopped : {most : ℕ} {t : Turn} {s : List ℕ} {st : State} {c : Cursor} {T E X T' E' X' : List ℕ} (x : Refusal)
    → bounded most st.errors st.tokens t ≡ refused (refusal_number x) → 4 ≤ refusal_number x
    → Turned most t s st c T E X (P.Err x) T' E' X'
stopped x e l = record { is = record { is = e; refusal = l } }

module _ {most : ℕ} {t : Turn} {s : List ℕ} {st : State} {c : Cursor} {T E X : List ℕ} {cs : List Ch}
    {es : List Err} (w : Few most st) where
  -- the turn ends with a token, with errors, with nothing, or with a refusal
  pub end_token : {k : Tok} {f : State} {E' X' T' : List ℕ} {r : Result State Refusal} → On s st c E X cs es k.text f E' X'
      → t ≡ goes cs es (k ∷ []) → TokenPushed most T f (token_words st.text k) T' r
      → Turned most t s st c T E X r T' E' X'
  end_token {k} {f} {E'} {X'} {T'} {r = P.Ok r} o e g =
      let p = g.is in
      let q : f.cursor ≡ r.cursor = sym p.cursor in
      let a : f.errors ≡ r.errors = sym p.errors in
      let b : f.text ≡ r.text = sym p.text in
      let d : f.tokens ≡ st.tokens = o.tokens in
      record {
        is = record {
          es = es;
          ts = k ∷ [];
          is = e ∙ ap (λ (c : List Ch). goes c es (k ∷ [])) (rw q at (sym o.passed.is));
          stands = rw q at o.passed.stands;
          forward = rw q at o.passed.forward;
          shorter = rw q at o.passed.shorter;
          toks = rw words_one (rw d at p.wrote);
          errs = rw a at o.errs;
          text = rw text_one (rw b at o.text);
          tokens = omega (arith, p.tokens, o.tokens);
          errors = omega (arith, p.errors, o.errors);
          room = rw (q, b) at o.room;
          few =
              record {
                tokens = omega (arith, p.tokens, p.few, o.tokens);
                errors = omega (arith, p.errors, o.few);
              };
        };
      }
  end_token {k} {f} {r = P.Err x} o e g =
      let p = g.is in
      let z : leb (st.errors + length es) 255 ≡ true = le-leb (st.errors + length es) 255 (omega (arith, o.errors, o.few)) in
      let y : leb (st.tokens + 1) most ≡ false = lt-leb (st.tokens + 1) most (omega (arith, p.many, o.tokens)) in
      rw p.refusal (stopped Refusal.Tokens (ap (bounded most st.errors st.tokens) e ∙ rw (z, y) refl) (omega arith))

  pub end_errors : {fs : List Err} {f : State} {E' X' E'' : List ℕ} {r : Result State Refusal} → On s st c E X cs es [] f E' X'
      → t ≡ goes cs (es ++ fs) [] → ErrorsPushed E' f fs E'' r → Turned most t s st c T E X r T E'' X'
  unfolding tokens_words tokens_text
  end_errors {fs} {f} {E'} {X'} {E''} {r = P.Ok r} o e g =
      let p = g.is in
      let q : f.cursor ≡ r.cursor = sym p.cursor in
      let b : f.text ≡ r.text = sym p.text in
      let d : r.tokens ≡ st.tokens = p.tokens ∙ o.tokens in
      record {
        is = record {
          es = es ++ fs;
          ts = [];
          is = e ∙ ap (λ (c : List Ch). goes c (es ++ fs) []) (rw q at (sym o.passed.is));
          stands = rw q at o.passed.stands;
          forward = rw q at o.passed.forward;
          shorter = rw q at o.passed.shorter;
          toks = rw d wrote_none;
          errs = rw errors_words_append (wrote_trans o.errs p.wrote);
          text = rw b at o.text;
          tokens = omega (arith, p.tokens, o.tokens);
          errors = omega (arith, p.errors, o.errors, length-append es fs);
          room = rw (q, b) at o.room;
          few =
              record {
                tokens = omega (arith, p.tokens, o.tokens, w.tokens);
                errors = omega (arith, p.errors, p.few);
              };
        };
      }
  end_errors {fs} {f} {r = P.Err x} o e g =
      let p = g.is in
      let y : leb (st.errors + length (es ++ fs)) 255 ≡ false = lt-leb (st.errors + length (es ++ fs)) 255
      (omega (arith, o.errors, p.many, length-append es fs)) in
      rw p.refusal (stopped Refusal.TokenErrors (ap (bounded most st.errors st.tokens) e ∙ rw y refl) (omega arith))

  pub end_nothing : {f : State} {E' X' : List ℕ} → On s st c E X cs es [] f E' X' → t ≡ goes cs es [] → Turned most t s st c T E X (P.Ok f) T E' X'
  unfolding tokens_words tokens_text
  end_nothing {f} o e =
      let d : f.tokens ≡ st.tokens = o.tokens in
      record {
        is = record {
          es = es;
          ts = [];
          is = e ∙ ap (λ (c : List Ch). goes c es []) (sym o.passed.is);
          stands = o.passed.stands;
          forward = o.passed.forward;
          shorter = o.passed.shorter;
          toks = rw d wrote_none;
          errs = o.errs;
          text = o.text;
          tokens = omega (arith, o.tokens);
          errors = o.errors;
          room = o.room;
          few = record { tokens = omega (arith, o.tokens, w.tokens); errors = o.few };
        };
      }

pub end_refused : {most : ℕ} {t : Turn} {s : List ℕ} {st : State} {c : Cursor} {T E X T' E' X' : List ℕ} (x : Refusal)
    → t ≡ refused (refusal_number x) → 4 ≤ refusal_number x → Turned most t s st c T E X (P.Err x) T' E' X'
end_refused {most} {st = st} x e l = stopped x (ap (bounded most st.errors st.tokens) e) l

-- ---- the words of a token

pub with_words : {most : ℕ} {T : List ℕ} {f : State} {T' : List ℕ} {r : Result State Refusal} (k : Tok) {x y z : ℕ}
    → has_text k.kind ≡ true → y ≡ x → z ≡ length k.text
    → TokenPushed most T f (k.kind ∷ k.place.line ∷ k.place.column ∷ y ∷ z ∷ k.base ∷ pick k.lost 1 0 ∷ 0 ∷ []) T' r
    → TokenPushed most T f (token_words x k) T' r
with_words k {x} e f g p = rw (e, sym f, sym g) p

-- a token without text, at a later cursor
pub end_plain : {most : ℕ} {t : Turn} {s : List ℕ} {st : State} {c : Cursor} {T E X : List ℕ} {cs : List Ch} {d : Cursor}
    {k : ℕ} {p : Place} {l : Bool} {T' : List ℕ} {r : Result State Refusal}
    → Few most st → st.text ≤ c.at → Passed s c cs d → t ≡ Z.token_losing cs k p [] l → has_text k ≡ false
    → TokenPushed most T (at_cursor st d) (k ∷ p.line ∷ p.column ∷ 0 ∷ 0 ∷ 0 ∷ pick l 1 0 ∷ 0 ∷ []) T' r
    → Turned most t s st c T E X r T' E X
end_plain w h q e f g = end_token w (on_text w q wrote_none (omega (arith, q.forward))) e (rw f g)

-- ---- a turn that continues another

-- the same for an equal turn
pub turned_same : {most : ℕ} {t t' : Turn} {s : List ℕ} {st : State} {c : Cursor} {T E X : List ℕ} {r : Result State Refusal}
    {T' E' X' : List ℕ}
    → t ≡ t' → Turned most t' s st c T E X r T' E' X' → Turned most t s st c T E X r T' E' X'
turned_same e g = rw e g

-- from a later cursor
pub turned_on : {most : ℕ} {t t' : Turn} {s : List ℕ} {st : State} {c d : Cursor} {T E X : List ℕ} {cs : List Ch}
    {r : Result State Refusal} {T' E' X' : List ℕ}
    → t ≡ t' → Passed s c cs d → Turned most t' s st d T E X r T' E' X' → Turned most t s st c T E X r T' E' X'
turned_on {r = P.Ok r} e p g = let w = g.is in record {
  is = record {
    es = w.es;
    ts = w.ts;
    is = e ∙ w.is;
    stands = w.stands;
    forward = omega (arith, w.forward, p.forward);
    shorter = omega (arith, w.shorter, p.shorter);
    toks = w.toks;
    errs = w.errs;
    text = w.text;
    tokens = w.tokens;
    errors = w.errors;
    room = w.room;
    few = w.few;
  };
}
turned_on {most} {st = st} {r = P.Err x} e p g = stopped x (ap (bounded most st.errors st.tokens) e ∙ g.is.is) g.is.refusal

-- after a text that is taken back
pub turned_back : {most : ℕ} {t : Turn} {s : List ℕ} {st : State} {c : Cursor} {T E X X₁ : List ℕ} {u : List ℕ} {m : ℕ}
    {r : Result State Refusal} {T' E' X' : List ℕ}
    → st.text ≤ length X → Wrote X st.text u X₁ m → Turned most t s st c T E X₁ r T' E' X'
    → Turned most t s st c T E X r T' E' X'
turned_back {r = P.Ok r} h x g = let w = g.is in record {
  is = record {
    es = w.es;
    ts = w.ts;
    is = w.is;
    stands = w.stands;
    forward = w.forward;
    shorter = w.shorter;
    toks = w.toks;
    errs = w.errs;
    text = wrote_trans (wrote_back h x) w.text;
    tokens = w.tokens;
    errors = w.errors;
    room = w.room;
    few = w.few;
  };
}
turned_back {r = P.Err x} h w g = stopped x g.is.is g.is.refusal
