-- The laws of the scans that the definition refuses at a foreign character: white space, and words. Assumes nothing.
use mathlib.Core.Path.{◌≡◌, refl, sym, ap, ◌∙◌}
use mathlib.Core.Bool.{Bool, true, false}
use mathlib.Core.List.{List, [], ◌∷◌, ◌++◌, append_assoc, append-nil}
use Prim.Native.Nat.{ℕ, ◌<◌, ◌≤◌}
use native.Mathlib.Omega.{arith}
use borrow.Author.Tests.{ltb-true, ltb-false, lt-ltb, le-ltb, lt-leb, ne_eqb}
use lib.Dec.{ltb}
use lib.ListN.{length, get_or}
use Rattle.std.specs.Prelude.{Result, MatchResult, Ok, Err}
use Rattle.definition.specs.Source.{Ch, code}
use Rattle.definition.specs.Classes.{is_foreign, is_white, is_word}
use Rattle.definition.specs.Tokenizer.{Span, Run, ends, foreign, run_ahead, white, word}
use Rattle.definition.specs.declared.refusal.Refusal.{Refusal}
use Rattle.definition.proofs.Tests.{All, clash, parts_true, and_false}
use Rattle.definition.proofs.Codes.{Coded, coded_alone}
use Rattle.classes.specs.Bits.{one_byte}
use Rattle.slices.specs.Written.{Wrote}
use Rattle.slices.proofs.Writing.{wrote_none, wrote_trans}
use Rattle.source.specs.declared.Cursor.{Cursor}
use Rattle.source.specs.Place.{Stands, Stepped, CodeAt, rest, char}
use Rattle.source.proofs.Laws.{rest_head, rest_end, stands_coded, ascii_code}
use Rattle.scan.specs.declared.Scan.{Scan}
use Rattle.scan.specs.Scan.{Asks, Spanned, span_while, word_bytes, Blanks, none, one, Skipped, stop_at, SkippedAs, Stopped, Ended}
use Rattle.scan.proofs.Laws.{empty, while_go, while_stop, while_stops, copied_room}

-- ---- where a scan stops

stop_end : stop_at [] ≡ ends (empty [])
unfolding stop_at
stop_end = refl

module _ (c : Ch) (cs : List Ch) where
  stop_known : is_foreign (code c) ≡ false → stop_at (c ∷ cs) ≡ ends (empty (c ∷ cs))
  unfolding stop_at
  stop_known e = rw (e, stop_at)

  stop_foreign : is_foreign (code c) ≡ true → stop_at (c ∷ cs) ≡ foreign
  unfolding stop_at
  stop_foreign e = rw (e, stop_at)

pub known_end : (s : List ℕ) (c : Cursor) → length s ≤ c.at → stop_at (rest s c) ≡ ends (empty (rest s c))
known_end s c h = rw (rest_end s c h) stop_end

module _ {s : List ℕ} {c : Cursor} (z : Stands s c) (h : c.at < length s) where
  pub known_char : is_foreign (code (char s c)) ≡ false → stop_at (rest s c) ≡ ends (empty (rest s c))
  known_char e = rw (rest_head z h) (stop_known (char s c) _ e)

  pub known_foreign : is_foreign (code (char s c)) ≡ true → stop_at (rest s c) ≡ foreign
  known_foreign e = rw (rest_head z h) (stop_foreign (char s c) _ e)

-- ---- a test of the number at a cursor, which no foreign character has

white_known : (n : ℕ) → is_foreign n ≡ true → is_white n ≡ false
white_known n e =
    let h : 255 < n = ltb-true 255 n e in
    simp (lt-leb n 13 (omega arith), and_false, ne_eqb n 32 (λ e. omega arith), ne_eqb n 133 (λ e. omega arith), ne_eqb n 160 (λ e. omega arith))

word_known : (n : ℕ) → is_foreign n ≡ true → is_word n ≡ false
word_known n e =
    let h : 255 < n = ltb-true 255 n e in
    simp (
      lt-leb n 90 (omega arith),
      lt-leb n 122 (omega arith),
      lt-leb n 214 (omega arith),
      lt-leb n 246 (omega arith),
      lt-leb n 255 (omega arith),
      lt-leb n 57 (omega arith),
      lt-leb n 179 (omega arith),
      lt-leb n 190 (omega arith),
      and_false,
      ne_eqb n 170 (λ e. omega arith),
      ne_eqb n 181 (λ e. omega arith),
      ne_eqb n 186 (λ e. omega arith),
      ne_eqb n 95 (λ e. omega arith),
      ne_eqb n 185 (λ e. omega arith),
    )

told : (holds : ℕ → Bool) → ((n : ℕ) → is_foreign n ≡ true → holds n ≡ false) → (s : List ℕ) (c : Cursor) {v : Bool}
    → (r : Result ℕ Refusal) → CodeAt s c r → MatchResult r (λ n. v ≡ holds n) (λ x. v ≡ false) → v ≡ holds (code (char s c))
told holds f s c (Ok n) k e = e ∙ ap holds k.0
told holds f s c (Err x) k e = e ∙ sym (f (code (char s c)) k.1)

module _ (s : List ℕ) (c : Cursor) {v : Bool} (r : Result ℕ Refusal) (k : CodeAt s c r) where
  pub white_told : MatchResult r (λ n. v ≡ is_white n) (λ x. v ≡ false) → v ≡ is_white (code (char s c))
  white_told e = told is_white white_known s c r k e

  pub word_told : MatchResult r (λ n. v ≡ is_word n) (λ x. v ≡ false) → v ≡ is_word (code (char s c))
  word_told e = told is_word word_known s c r k e

known_if : (holds : ℕ → Bool) → ((n : ℕ) → is_foreign n ≡ true → holds n ≡ false) → (n : ℕ) → holds n ≡ true → is_foreign n ≡ false
known_if holds f n e = go (is_foreign n) refl
  where
    go : (t : Bool) → is_foreign n ≡ t → is_foreign n ≡ false
    go true g = clash (sym e ∙ f n g)
    go false g = g

-- white space is not foreign
pub known_white : (n : ℕ) → is_white n ≡ true → is_foreign n ≡ false
known_white = known_if is_white white_known

-- ---- white space, character by character

white_go : (c : Ch) (cs : List Ch) → is_white (code c) ≡ true → white (c ∷ cs) ≡ white cs
unfolding white
white_go c cs w = rw (known_white (code c) w, w, white)

white_stop : (c : Ch) (cs : List Ch) → is_white (code c) ≡ false → white (c ∷ cs) ≡ stop_at (c ∷ cs)
unfolding white
white_stop c cs w = go (is_foreign (code c)) refl
  where
    go : (t : Bool) → is_foreign (code c) ≡ t → white (c ∷ cs) ≡ stop_at (c ∷ cs)
    go true e = rw (stop_foreign c cs e) (rw (e, white))
    go false e = rw (stop_known c cs e) (rw (e, w, white))

white_none : white [] ≡ stop_at []
unfolding white stop_at
white_none = refl

blanks_white : {cs ds : List Ch} → Blanks cs ds → white cs ≡ white ds
blanks_white none = refl
blanks_white (one {c} {cs} w b) = white_go c cs w ∙ blanks_white b

blanks_more : {cs ds es : List Ch} {d : Ch} → Blanks cs ds → ds ≡ d ∷ es → is_white (code d) ≡ true → Blanks cs es
blanks_more none e w = rw e (one w none)
blanks_more (one v b) e w = one v (blanks_more b e w)

pub skipped_none : {s : List ℕ} {c : Cursor} → Stands s c → Skipped s c c
skipped_none z = record {
  blanks = none;
  passed = record { stands = z; is = refl; forward = omega arith; shorter = omega arith };
}

module _ {s : List ℕ} {c₀ c : Cursor} (q : Skipped s c₀ c) where
  pub skipped_more : {d : Cursor} → is_white (code (char s c)) ≡ true → Stepped s c d → Skipped s c₀ d
  skipped_more w st = record {
    blanks = blanks_more q.blanks st.chars w;
    passed = record {
      stands = st.stands;
      is = refl;
      forward = omega (arith, q.passed.forward, st.wide);
      shorter = omega (arith, q.passed.shorter, ap length st.chars);
    };
  }

  skipped_as : white (rest s c) ≡ stop_at (rest s c) → SkippedAs s c₀ (white (rest s c₀)) c
  skipped_as e = record { is = blanks_white q.blanks ∙ e; passed = q.passed }

  pub skipped_end : length s ≤ c.at → SkippedAs s c₀ (white (rest s c₀)) c
  skipped_end h = skipped_as (rw (rest_end s c h) white_none)

  pub skipped_stop : c.at < length s → is_white (code (char s c)) ≡ false → SkippedAs s c₀ (white (rest s c₀)) c
  skipped_stop h w = skipped_as (rw (rest_head q.passed.stands h) (white_stop _ _ w))

-- ---- words, character by character

word_none : word [] ≡ stop_at []
unfolding word stop_at
word_none = refl

word_go : (c : Ch) (cs : List Ch) → is_word (code c) ≡ true → word (c ∷ cs) ≡ run_ahead (c.byte ∷ c.more) (word cs)
unfolding word
word_go c cs w = rw (known_if is_word word_known (code c) w, w, word)

word_stop : (c : Ch) (cs : List Ch) → is_word (code c) ≡ false → word (c ∷ cs) ≡ stop_at (c ∷ cs)
unfolding word
word_stop c cs w = go (is_foreign (code c)) refl
  where
    go : (t : Bool) → is_foreign (code c) ≡ t → word (c ∷ cs) ≡ stop_at (c ∷ cs)
    go true e = rw (stop_foreign c cs e) (rw (e, word))
    go false e = rw (stop_known c cs e) (rw (e, w, word))

ahead_none : (r : Run) → run_ahead [] r ≡ r
ahead_none (ends s) = refl
ahead_none foreign = refl

ahead_append : (x y : List ℕ) (r : Run) → run_ahead (x ++ y) r ≡ run_ahead x (run_ahead y r)
ahead_append x y (ends s) = ap (λ (t : List ℕ). ends (record { text = t; rest = s.rest })) (append_assoc x y s.text)
ahead_append x y foreign = refl

-- a character of one byte is asked by that
ascii_go : (c : Ch) (cs : List Ch) → Coded c → c.byte < 128 → is_word c.byte ≡ true → word (c ∷ cs) ≡ run_ahead (c.byte ∷ []) (word cs)
ascii_go c cs q l e =
    word_go c cs (rw (q.low l) e) ∙ ap (λ (m : List ℕ). run_ahead (c.byte ∷ m) (word cs)) (coded_alone q l)

ascii_first : (cs : List Ch) → All Coded cs → word cs ≡ run_ahead (word_bytes cs).text (word (word_bytes cs).rest)
unfolding span_while
ascii_first [] q = sym (ahead_none (word []))
ascii_first (c ∷ cs) q = go (one_byte is_word c.byte) refl (ascii_first cs q.1)
  where
    on : Span → Run
    on s = run_ahead s.text (word s.rest)

    go : (t : Bool) → one_byte is_word c.byte ≡ t → word cs ≡ on (word_bytes cs) → word (c ∷ cs) ≡ on (word_bytes (c ∷ cs))
    go true e h =
        parts_true (ltb c.byte 128) (is_word c.byte) e
        λ l w. ascii_go c cs q.0 (ltb-true c.byte 128 l) w ∙ ap (run_ahead (c.byte ∷ [])) h
        ∙ sym (ahead_append (c.byte ∷ []) (word_bytes cs).text (word (word_bytes cs).rest))
        ∙ ap on (sym (while_go (one_byte is_word) c cs e))
    go false e h = sym (ahead_none (word (c ∷ cs))) ∙ ap on (sym (while_stop (one_byte is_word) c cs e))

-- ---- the scan of a word

-- the invariant: what is written so far, and the word from the cursor c on, are the word from the start
pub record Wording (s : List ℕ) (c₀ : Cursor) (x₀ : List ℕ) (n₀ : ℕ) (c : Cursor) (x : List ℕ) (n : ℕ) : Type 0 where
  pub asks : Asks s c x n
  pub text : List ℕ
  pub is : word (rest s c₀) ≡ run_ahead text (word (rest s c))
  pub wrote : Wrote x₀ n₀ text x n
  pub forward : c₀.at ≤ c.at
  pub shorter : length (rest s c) ≤ length (rest s c₀)

pub wording_none : {s : List ℕ} {c : Cursor} {x : List ℕ} {n : ℕ} → Asks s c x n → Wording s c x n c x n
wording_none {s} {c} a = record {
  asks = a;
  text = [];
  is = sym (ahead_none (word (rest s c)));
  wrote = wrote_none;
  forward = omega arith;
  shorter = omega arith;
}

module _ {s : List ℕ} {c₀ : Cursor} {x₀ : List ℕ} {n₀ : ℕ} {c : Cursor} {x : List ℕ} {n : ℕ}
    (q : Wording s c₀ x₀ n₀ c x n) where
  wording_more : {d : Cursor} {t x' : List ℕ} {m : ℕ} → Stands s d → c.at ≤ d.at → length (rest s d) ≤ length (rest s c)
      → word (rest s c) ≡ run_ahead t (word (rest s d)) → Wrote x n t x' m → m ≤ d.at → Wording s c₀ x₀ n₀ d x' m
  wording_more {d} {t} z h l e w r = record {
    asks = record { stands = z; small = q.asks.small; room = r; wide = omega (arith, w.size, q.asks.wide) };
    text = q.text ++ t;
    is = q.is ∙ ap (run_ahead q.text) e ∙ sym (ahead_append q.text t (word (rest s d)));
    wrote = wrote_trans q.wrote w;
    forward = omega (arith, q.forward);
    shorter = omega (arith, q.shorter);
  }

  wording_done : word (rest s c) ≡ stop_at (rest s c) → Stopped s c₀ x₀ n₀ (word (rest s c₀)) x (record { cursor = c; n = n })
  wording_done e = record {
    text = q.text;
    is = q.is ∙ ap (run_ahead q.text) e;
    spanned = record {
      passed = record { stands = q.asks.stands; is = refl; forward = q.forward; shorter = q.shorter };
      wrote = q.wrote;
      room = q.asks.room;
    };
  }

  pub wording_end : length s ≤ c.at → Stopped s c₀ x₀ n₀ (word (rest s c₀)) x (record { cursor = c; n = n })
  wording_end h = wording_done (rw (rest_end s c h) word_none)

  module _ (h : c.at < length s) where
    pub wording_stop : is_word (code (char s c)) ≡ false → Stopped s c₀ x₀ n₀ (word (rest s c₀)) x (record { cursor = c; n = n })
    wording_stop w = wording_done (rw (rest_head q.asks.stands h) (word_stop _ _ w))

    pub wording_char : is_word (code (char s c)) ≡ true → {d : Cursor} {x' : List ℕ} {m : ℕ} → Stepped s c d
        → Wrote x n ((char s c).byte ∷ (char s c).more) x' m → Wording s c₀ x₀ n₀ d x' m
    wording_char w {d} st p =
        wording_more st.stands (omega (arith, st.wide)) (omega (arith, ap length st.chars))
        (ap word st.chars ∙ word_go _ _ w) p (copied_room st p q.asks.room)

-- ---- a word whose characters of one byte are scanned first

module _ {s : List ℕ} {c : Cursor} {x x' : List ℕ} {n : ℕ} {r : Scan} (a : Asks s c x n)
    (sp : Spanned s c x n (word_bytes (rest s c)) x' r) where
  first_part : Wording s c x n r.cursor x' r.n
  first_part =
      let p = sp.passed in
      wording_more (wording_none a) p.stands p.forward p.shorter
      (ascii_first (rest s c) (stands_coded a.stands)
      ∙ ap (λ (cs : List Ch). run_ahead (word_bytes (rest s c)).text (word cs)) (sym p.is)) sp.wrote sp.room

  ended : {x'' : List ℕ} {e : Scan} (z : Stopped s c x n (word (rest s c)) x'' e)
      → stop_at (rest s e.cursor) ≡ ends (empty (rest s e.cursor)) → Ended s c x n (word (rest s c)) x'' e
  ended {e = e} z k = record {
    text = z.text;
    is = z.is ∙ ap (run_ahead z.text) k
        ∙ ap (λ (t : List ℕ). ends (record { text = t; rest = rest s e.cursor })) (append-nil z.text);
    spanned = z.spanned;
  }

  -- it has no others
  pub first_ended : get_or s r.cursor.at 0 ≤ 127 → Ended s c x n (word (rest s c)) x' r
  first_ended l = go (ltb r.cursor.at (length s)) refl
    where
      go : (t : Bool) → ltb r.cursor.at (length s) ≡ t → Ended s c x n (word (rest s c)) x' r
      go false e = let h = ltb-false r.cursor.at (length s) e in ended (wording_end first_part h) (known_end s r.cursor h)
      go true e =
          let h : r.cursor.at < length s = ltb-true r.cursor.at (length s) e in
          let b : get_or s r.cursor.at 0 < 128 = omega (arith, l) in
          let f : one_byte is_word (get_or s r.cursor.at 0) ≡ false =
          while_stops (one_byte is_word) (rest s c) (sym sp.passed.is ∙ rest_head sp.passed.stands h) in
          let w : is_word (code (char s r.cursor)) ≡ false =
          rw (ascii_code s r.cursor b) (rw (lt-ltb (get_or s r.cursor.at 0) 128 b) at f) in
          let k : is_foreign (code (char s r.cursor)) ≡ false =
          rw (ascii_code s r.cursor b) (le-ltb 255 (get_or s r.cursor.at 0) (omega (arith, b))) in
          ended (wording_stop first_part h w) (known_char sp.passed.stands h k)

  -- and with others
  module _ {x'' : List ℕ} {e : Scan} (z : Stopped s r.cursor x' r.n (word (rest s r.cursor)) x'' e) where
    whole : Stopped s c x n (word (rest s c)) x'' e
    whole =
        let q = first_part in
        let p = z.spanned.passed in
        record {
          text = q.text ++ z.text;
          is = q.is ∙ ap (run_ahead q.text) z.is ∙ sym (ahead_append q.text z.text (stop_at (rest s e.cursor)));
          spanned = record {
            passed = record {
              stands = p.stands;
              is = refl;
              forward = omega (arith, q.forward, p.forward);
              shorter = omega (arith, q.shorter, p.shorter);
            };
            wrote = wrote_trans q.wrote z.spanned.wrote;
            room = z.spanned.room;
          };
        }

    pub word_ended : stop_at (rest s e.cursor) ≡ ends (empty (rest s e.cursor)) → Ended s c x n (word (rest s c)) x'' e
    word_ended k = ended whole k

    pub word_refused : stop_at (rest s e.cursor) ≡ foreign → word (rest s c) ≡ foreign
    word_refused k = whole.is ∙ ap (run_ahead whole.text) k
