-- The laws of the tokenizer's loop. Assumes nothing.
use mathlib.Core.Path.{◌≡◌, refl, sym, ap, ◌∙◌}
use Rattle.std.specs.Prelude as P
use Rattle.definition.specs.declared.refusal.Refusal.{Refusal}
use mathlib.Core.Bool.{Bool, true, false}
use mathlib.Core.List.{List, [], ◌∷◌, ◌++◌, append_assoc, append-nil}
use Prim.Native.Nat.{ℕ, zero, suc, ◌+◌, ◌*◌, ◌<◌, ◌≤◌}
use native.Mathlib.Omega.{arith}
use borrow.Author.Tests.{ltb-false, le-leb}
use lib.Dec.{leb}
use lib.ListN.{length, length-append}
use Rattle.definition.specs.Source.{Ch, code}
use Rattle.definition.specs.Fallible.{Err}
use Rattle.definition.specs.Token.{Tok}
use Rattle.definition.specs.Choice.{pick}
use Rattle.definition.specs.Records.{token_words, tokens_words, tokens_text, errors_words}
use Rattle.definition.specs.Classes.{is_white}
use Rattle.definition.specs.Tokenizer.{Turn, goes, refused}
use Rattle.definition.specs.Tokenizer as Z
use Rattle.classes.proofs.Choices.{white_begins}
use Rattle.source.specs.Place.{Stands, rest, char, origin}
use Rattle.source.specs.declared.Cursor.{Cursor}
use Rattle.source.proofs.Laws.{rest_head, rest_end}
use Rattle.scan.specs.Scan.{Blanks, none, one, Skipped}
use Rattle.scan.proofs.Runs.{known_white}
use Rattle.token_records.specs.declared.State.{State}
use Rattle.turns.specs.Turn.{Ready, Stopped, at_cursor, bounded}
use Rattle.turns.proofs.Turned.{errors_words_append}
use Rattle.tokenizer.specs.Run.{Onward, turn_of, Holds, Ran}
use Rattle.tokenizer.proofs.Taking.{turn_begins}

-- ---- the records of two lists, one after the other

text_append : (a b : List Tok) → tokens_text (a ++ b) ≡ tokens_text a ++ tokens_text b
unfolding tokens_text
text_append [] b = refl
text_append (t ∷ a) b = ap (λ (l : List ℕ). t.text ++ l) (text_append a b) ∙ sym (append_assoc t.text (tokens_text a) (tokens_text b))

words_append : (x : ℕ) (a b : List Tok) → tokens_words x (a ++ b) ≡ tokens_words x a ++ tokens_words (x + length (tokens_text a)) b
unfolding tokens_words tokens_text
words_append x [] b = ap (λ (n : ℕ). tokens_words n b) (let z : x ≡ x + 0 = omega arith in z)
words_append x (t ∷ a) b =
    let z : x + length t.text + length (tokens_text a) ≡ x + length (t.text ++ tokens_text a) = omega
    (arith, length-append t.text (tokens_text a)) in
    ap (λ (l : List ℕ). token_words x t ++ l) (words_append (x + length t.text) a b
    ∙ ap (λ (n : ℕ). tokens_words (x + length t.text) a ++ tokens_words n b) z)

-- ---- the definition's loop, turn by turn

abbrev next : ℕ → ℕ → List Tok → List Err → Turn → Z.Tokens
next most n ts es (refused k) = Z.refused k
next most n ts es (goes cs fs us) = Z.tokenize_from most n cs (ts ++ us) (es ++ fs)

module _ (most n : ℕ) (ts : List Tok) (es : List Err) where
  from_end : Z.tokenize_from most (suc n) [] ts es ≡ Z.tokens ts es
  unfolding Z.tokenize_from
  from_end = refl

  abbrev tests : List Ch → List Err → List Tok → Bool → Bool → Z.Tokens
  tests cs fs us t u =
      elim t as (λ _. Z.Tokens)
      [ false ↦ Z.refused 7 | true ↦ elim u as (λ _. Z.Tokens) [ false ↦ Z.refused 6 | true ↦ Z.tokenize_from most n cs (ts ++ us) (es ++ fs) ] ]

  tests_next : (cs : List Ch) (fs : List Err) (us : List Tok) (t u : Bool)
      → tests cs fs us t u ≡ next most n ts es (pick t (pick u (goes cs fs us) (refused 6)) (refused 7))
  tests_next cs fs us false u = refl
  tests_next cs fs us true false = refl
  tests_next cs fs us true true = refl

  from_cons : (c : Ch) (cs : List Ch)
      → Z.tokenize_from most (suc n) (c ∷ cs) ts es
      ≡ next most n ts es (bounded most (length es) (length ts) (Z.turn c cs))
  unfolding Z.tokenize_from
  from_cons c cs = go (Z.turn c cs)
    where
      go : (t : Turn)
          → (elim t as (λ _. Z.Tokens)
          [ refused k ↦ Z.refused k | goes cs' fs us ↦ tests cs' fs us (leb (length es + length fs) 255) (leb (length ts + length us) most) ])
          ≡ next most n ts es (bounded most (length es) (length ts) t)
      go (refused k) = refl
      go (goes cs' fs us) = tests_next cs' fs us (leb (length es + length fs) 255) (leb (length ts + length us) most)

within_bounds : (most e k : ℕ) {t : Turn} {cs : List Ch} {fs : List Err} {us : List Tok} → t ≡ goes cs fs us
    → e + length fs ≤ 255 → k + length us ≤ most → bounded most e k t ≡ goes cs fs us
within_bounds most e k {fs = fs} {us = us} q h l =
    ap (bounded most e k) q ∙ rw (le-leb (e + length fs) 255 h, le-leb (k + length us) most l)

-- the definition takes a turn for each character of white space
module _ (most : ℕ) (ts : List Tok) (es : List Err) (h : length es ≤ 255) (l : length ts ≤ most) where
  white_turn : (n : ℕ) (c : Ch) (cs : List Ch) → is_white (code c) ≡ true
      → Z.tokenize_from most (suc n) (c ∷ cs) ts es ≡ Z.tokenize_from most n cs ts es
  white_turn n c cs w =
      let i : code c < 256 = omega (arith, ltb-false 255 (code c) (known_white (code c) w)) in
      let t : Z.turn c cs ≡ goes cs [] [] = turn_begins c cs (white_begins (code c) (Z.look cs) i w) in
      from_cons most n ts es c cs
      ∙ ap (next most n ts es) (within_bounds most (length es) (length ts) t (omega (arith, h)) (omega (arith, l)))
      ∙ rw (append-nil ts, append-nil es)

  after_blanks : (n : ℕ) {cs ds : List Ch} → Blanks cs ds → length cs ≤ n
      → (m : ℕ) × (length ds ≤ m) × (Z.tokenize_from most (suc m) ds ts es ≡ Z.tokenize_from most (suc n) cs ts es)
  after_blanks n none k = (n, k, refl)
  after_blanks zero (one w b) k = absurd (omega (arith, k))
  after_blanks (suc n) (one {c} {cs} w b) k =
      let a = after_blanks n b (omega (arith, k)) in (a.0, a.1, a.2 ∙ sym (white_turn (suc n) c cs w))

-- ---- the code's loop

-- the invariant: the slices hold the tokens and errors so far, and the definition's loop continues at the cursor
pub record Looping (most : ℕ) (s T₀ E₀ X₀ T E X : List ℕ) (f : State) : Type 0 where
  pub ready : Ready most s T X f f.cursor
  pub wide : 1024 ≤ length E
  pub size_tokens : length T ≡ length T₀
  pub size_errors : length E ≡ length E₀
  pub size_text : length X ≡ length X₀
  pub ts : List Tok
  pub es : List Err
  pub holds : Holds ts es T E X f
  pub n : ℕ
  pub enough : length (rest s f.cursor) ≤ n
  pub is : Z.tokenize_from most (suc n) (rest s f.cursor) ts es ≡ Z.tokenize_within most (rest s origin)

pub loop_start : {most : ℕ} {s T E X : List ℕ}
    → Stands s origin × (length s ≤ 16384) × (8 * most ≤ length T) × (1024 ≤ length E) × (16384 ≤ length X)
    → Looping most s T E X T E X (record { cursor = origin; tokens = 0; errors = 0; text = 0 })
unfolding tokens_words tokens_text errors_words Z.tokenize_within
loop_start {s = s} p = record {
  ready =
      record {
        asks = record { stands = p.0; small = p.1; room = omega arith; wide = p.4 };
        few = record { tokens = omega arith; errors = omega arith };
        wide = p.2;
      };
  wide = p.3;
  size_tokens = refl;
  size_errors = refl;
  size_text = refl;
  ts = [];
  es = [];
  holds = record { toks = refl; errs = refl; text = refl; tokens = refl; errors = refl; bytes = refl };
  n = length (rest s origin);
  enough = omega arith;
  is = refl;
}

module _ {most : ℕ} {s T₀ E₀ X₀ T E X : List ℕ} {f : State} (q : Looping most s T₀ E₀ X₀ T E X f) where
  pub loop_end : length s ≤ f.cursor.at → Ran most (rest s origin) T E X (P.Ok f)
  loop_end h =
      record {
        is = record {
          ts = q.ts;
          es = q.es;
          is = sym q.is
              ∙ ap (λ (cs : List Ch). Z.tokenize_from most (suc q.n) cs q.ts q.es) (rest_end s f.cursor h)
              ∙ from_end most q.n q.ts q.es;
          holds = q.holds;
          few = q.ready.few;
          room = omega (arith, q.ready.asks.room, q.ready.asks.stands.inside, q.ready.asks.small);
        };
      }

  -- the cursor goes on after white space
  pub loop_blanks : {c : Cursor} → Skipped s f.cursor c → Looping most s T₀ E₀ X₀ T E X (at_cursor f c)
  loop_blanks {c} z =
      let h = q.holds in
      let few = q.ready.few in
      let p = z.passed in
      let a = after_blanks most q.ts q.es (omega (arith, h.errors, few.errors)) (omega (arith, h.tokens, few.tokens))
      q.n z.blanks q.enough in
      record {
        ready =
            record {
              asks = record {
                stands = p.stands;
                small = q.ready.asks.small;
                room = omega (arith, q.ready.asks.room, p.forward);
                wide = q.ready.asks.wide;
              };
              few = record { tokens = few.tokens; errors = few.errors };
              wide = q.ready.wide;
            };
        wide = q.wide;
        size_tokens = q.size_tokens;
        size_errors = q.size_errors;
        size_text = q.size_text;
        ts = q.ts;
        es = q.es;
        holds = record { toks = h.toks; errs = h.errs; text = h.text; tokens = h.tokens; errors = h.errors; bytes = h.bytes };
        n = a.0;
        enough = a.1;
        is = a.2 ∙ q.is;
      }

  module _ (h : f.cursor.at < length s) where
    -- the definition at this turn
    at_turn : Z.tokenize_within most (rest s origin)
        ≡ next most q.n q.ts q.es
        (bounded most (length q.es) (length q.ts) (turn_of (rest s f.cursor)))
    at_turn = sym q.is ∙ rw (rest_head q.ready.asks.stands h) (from_cons most q.n q.ts q.es (char s f.cursor) _)

    pub loop_stop : {x : Refusal} {T' E' X' : List ℕ} → Stopped most (turn_of (rest s f.cursor)) f x
        → Ran most (rest s origin) T' E' X' (P.Err x)
    loop_stop x =
        record {
          is = record {
            is = at_turn
                ∙ ap (next most q.n q.ts q.es) (rw (q.holds.errors, q.holds.tokens) at x.is);
            refusal = x.refusal;
          };
        }

    loop_next : {r : State} {T' E' X' : List ℕ} → Onward most (turn_of (rest s f.cursor)) s f T E X r T' E' X'
        → (m : ℕ) → m ≡ q.n → Looping most s T₀ E₀ X₀ T' E' X' r
    loop_next x zero e = absurd (omega (arith, x.less, q.enough, e))
    loop_next {r} x (suc m) e =
        let w = x.went in
        let y : 0 + length (tokens_text q.ts) ≡ f.text = omega (arith, q.holds.bytes) in
        let b = within_bounds most (length q.es) (length q.ts) w.is
        (omega (arith, w.errors, q.holds.errors, w.few.errors))
        (omega (arith, w.tokens, q.holds.tokens, w.few.tokens)) in
        record {
          ready =
              record {
                asks = record {
                  stands = w.stands;
                  small = q.ready.asks.small;
                  room = w.room;
                  wide = omega (arith, w.text.size, q.ready.asks.wide);
                };
                few = w.few;
                wide = omega (arith, w.toks.size, q.ready.wide);
              };
          wide = omega (arith, w.errs.size, q.wide);
          size_tokens = w.toks.size ∙ q.size_tokens;
          size_errors = w.errs.size ∙ q.size_errors;
          size_text = w.text.size ∙ q.size_text;
          ts = q.ts ++ w.ts;
          es = q.es ++ w.es;
          holds = record {
            toks =
                w.toks.put ∙ ap (λ (l : List ℕ). l ++ tokens_words f.text w.ts) q.holds.toks
                ∙ ap (λ (i : ℕ). tokens_words 0 q.ts ++ tokens_words i w.ts) (sym y)
                ∙ sym (words_append 0 q.ts w.ts);
            errs =
                w.errs.put ∙ ap (λ (l : List ℕ). l ++ errors_words w.es) q.holds.errs
                ∙ sym (errors_words_append q.es w.es);
            text = w.text.put ∙ ap (λ (l : List ℕ). l ++ tokens_text w.ts) q.holds.text ∙ sym (text_append q.ts w.ts);
            tokens = omega (arith, w.tokens, q.holds.tokens, length-append q.ts w.ts);
            errors = omega (arith, w.errors, q.holds.errors, length-append q.es w.es);
            bytes =
                omega (
                  arith,
                  w.text.count,
                  q.holds.bytes,
                  ap length (text_append q.ts w.ts),
                  length-append (tokens_text q.ts) (tokens_text w.ts),
                );
          };
          n = m;
          enough = omega (arith, x.less, q.enough, e);
          is =
              ap (λ (i : ℕ). Z.tokenize_from most i (rest s r.cursor) (q.ts ++ w.ts) (q.es ++ w.es)) e
              ∙ sym (at_turn ∙ ap (next most q.n q.ts q.es) b);
        }

    pub loop_more : {r : State} {T' E' X' : List ℕ} → Onward most (turn_of (rest s f.cursor)) s f T E X r T' E' X'
        → Looping most s T₀ E₀ X₀ T' E' X' r
    loop_more x = loop_next x q.n refl
