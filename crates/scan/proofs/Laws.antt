-- The laws of the scanning functions: one for each way through their loops. Assumes nothing.
use mathlib.Core.Path.{◌≡◌, refl, sym, ap, ◌∙◌}
use mathlib.Core.Bool.{Bool, true, false, not}
use mathlib.Core.List.{List, [], ◌∷◌, ◌++◌, append_assoc, append-nil}
use Prim.Native.Nat.{ℕ, zero, suc, ◌+◌, ◌-◌, ◌<◌, ◌≤◌}
use native.Mathlib.Numerals.{add-one}
use native.Mathlib.Omega.{arith}
use borrow.Author.Tests.{eq-eqb, ne_eqb, lt-ltb, le-ltb, ltb-true, ltb-false}
use lib.Dec.{ltb}
use lib.ListN.{length, get_or, take, drop, length-append, length-take}
use lib.Seq.{drop-cons, length-take-le}
use Rattle.std.specs.Prelude.{Option, Some, None, Ok, Err}
use Rattle.std.proofs.lemmas.List.{get_or_past}
use Rattle.definition.specs.Choice.{first}
use Rattle.definition.specs.Source.{Ch, lead}
use Rattle.definition.specs.Classes.{is_digit_of}
use Rattle.definition.specs.Tokenizer.{Span, ahead, comment, digits, assembly, closed}
use Rattle.definition.specs.Tokenizer as Z
use Rattle.classes.specs.Found.{nonzero}
use Rattle.classes.proofs.Found.{no_byte}
use Rattle.slices.specs.Written.{Wrote}
use Rattle.slices.proofs.Writing.{wrote_none}
use Rattle.source.specs.declared.Cursor.{Cursor}
use Rattle.source.specs.Place.{Stands, Stepped, rest, char, more, along_line}
use Rattle.source.proofs.Laws.{rest_head, rest_end, along_law}
use Rattle.scan.specs.Scan.{Passes, Passed, Asks, Spanned, EndsAs, span_while, span_of, QuotedAs}

-- ---- looking and skipping

pub looked : {s : List ℕ} {c : Cursor} → Stands s c → get_or s c.at 0 ≡ Z.look (rest s c)
looked {s} {c} z = go (ltb c.at (length s)) refl
  where
    go : (t : Bool) → ltb c.at (length s) ≡ t → get_or s c.at 0 ≡ Z.look (rest s c)
    go true e = ap Z.look (sym (rest_head z (ltb-true _ _ e)))
    go false e = get_or_past s c.at 0 (ltb-false _ _ e) ∙ ap Z.look (sym (rest_end s c (ltb-false _ _ e)))

pub wide_byte : (b : ℕ) → not (ltb b 128) ≡ ltb 127 b
wide_byte b = go (ltb b 128) refl
  where
    go : (t : Bool) → ltb b 128 ≡ t → not t ≡ ltb 127 b
    go true e = sym (le-ltb 127 b (omega (arith, ltb-true b 128 e)))
    go false e = sym (lt-ltb 127 b (omega (arith, ltb-false b 128 e)))

pub skip_end : {s : List ℕ} {c : Cursor} → Passes s c → length s ≤ c.at → Passed s c (Z.drop_one (rest s c)) c
skip_end {s} {c} p h =
    record {
      stands = p.stands;
      is = rest_end s c h ∙ ap Z.drop_one (sym (rest_end s c h));
      forward = omega arith;
      shorter = omega arith;
    }

-- ---- the characters for which a test holds

abbrev pub empty : List Ch → Span
empty cs = record { text = []; rest = cs }

pub while_none : (holds : ℕ → Bool) → span_while holds [] ≡ empty []
unfolding span_while
while_none holds = refl

pub while_go : (holds : ℕ → Bool) (c : Ch) (cs : List Ch) → holds c.byte ≡ true → span_while holds (c ∷ cs) ≡ ahead (c.byte ∷ []) (span_while holds cs)
unfolding span_while
while_go holds c cs h = rw (h, span_while)

pub while_stop : (holds : ℕ → Bool) (c : Ch) (cs : List Ch) → holds c.byte ≡ false → span_while holds (c ∷ cs) ≡ empty (c ∷ cs)
unfolding span_while
while_stop holds c cs h = rw (h, span_while)

-- where a scan stopped before the end, the test fails
pub while_stops : (holds : ℕ → Bool) (cs : List Ch) {d : Ch} {ds : List Ch} → (span_while holds cs).rest ≡ d ∷ ds
    → holds d.byte ≡ false
unfolding span_while
while_stops holds [] e = cc
while_stops holds (c ∷ cs) {d} {ds} e = go (holds c.byte) refl (while_stops holds cs)
  where
    left : Span → List Ch
    left y = y.rest

    go : (t : Bool) → holds c.byte ≡ t → ((span_while holds cs).rest ≡ d ∷ ds → holds d.byte ≡ false) → holds d.byte ≡ false
    go true f more = more (sym (ap left (while_go holds c cs f)) ∙ e)
    go false f more =
        let g : c ∷ cs ≡ d ∷ ds = sym (ap left (while_stop holds c cs f)) ∙ e in
        let h : c ≡ d = cc in
        ap (λ (x : Ch). holds x.byte) (sym h) ∙ f

-- ---- a comment: at a character that it consumes, at the newline that ends it

pub comment_go : (c : Ch) (cs : List Ch) → (c.byte ≡ 10 → ⊥) → comment (c ∷ cs) ≡ comment cs
unfolding comment
comment_go c cs h = rw (ne_eqb _ _ h, comment)

pub comment_stop : (c : Ch) (cs : List Ch) → c.byte ≡ 10 → comment (c ∷ cs) ≡ cs
unfolding comment
comment_stop c cs h = rw (eq-eqb _ _ h, comment)

-- ---- scans that write; F is the definition's scan

-- the invariant: what is written so far and what F scans from the cursor c is what F scans from the start
pub record Spanning (F : List Ch → Span) (s : List ℕ) (c₀ : Cursor) (x₀ : List ℕ) (n₀ : ℕ) (c : Cursor) (x : List ℕ) (n : ℕ) : Type 0 where
  pub asks : Asks s c x n
  pub on : take n x ++ (F (rest s c)).text ≡ take n₀ x₀ ++ (F (rest s c₀)).text
  pub same : (F (rest s c)).rest ≡ (F (rest s c₀)).rest
  pub size : length x ≡ length x₀
  pub forward : c₀.at ≤ c.at
  pub shorter : length (rest s c) ≤ length (rest s c₀)
  pub began : n₀ ≤ c₀.at

pub asks_along : {s : List ℕ} {c d : Cursor} {x x' : List ℕ} {n m : ℕ} → Asks s c x n → c.at < length s
    → (48 ≤ get_or s c.at 0) × (get_or s c.at 0 < 128) → d ≡ along_line c 1 → Wrote x n (get_or s c.at 0 ∷ []) x' m → Asks s d x' m
asks_along a h i e w =
    record {
      stands = (along_law a.stands h (omega arith) (λ z. omega arith) e).stands;
      small = a.small;
      room = omega (arith, ap (λ (y : Cursor). y.at) e, w.count, a.room);
      wide = omega (arith, w.size, a.wide);
    }

-- the length of a prefix with a text after it
pub count_of : (x x₀ : List ℕ) (n n₀ : ℕ) (t : List ℕ) → take n x ≡ take n₀ x₀ ++ t → n ≤ length x → n₀ ≤ length x₀ → n ≡ n₀ + length t
count_of x x₀ n n₀ t e h k =
    sym (length-take-le n x h) ∙ ap length e ∙ length-append (take n₀ x₀) t
    ∙ ap (λ (m : ℕ). m + length t) (length-take-le n₀ x₀ k)

module _ {F : List Ch → Span} {s : List ℕ} {c₀ : Cursor} {x₀ : List ℕ} {n₀ : ℕ} {c : Cursor} {x : List ℕ}
    {n : ℕ} (q : Spanning F s c₀ x₀ n₀ c x n) where
  pub spanning_more : {d : Cursor} {t x' : List ℕ} {m : ℕ} → Stepped s c d → F (char s c ∷ rest s d) ≡ ahead t (F (rest s d))
      → Wrote x n t x' m → m ≤ d.at → Spanning F s c₀ x₀ n₀ d x' m
  spanning_more {d} {t} st e w h =
      let f : F (rest s c) ≡ ahead t (F (rest s d)) = ap F st.chars ∙ e in
      record {
        asks = record { stands = st.stands; small = q.asks.small; room = h; wide = omega (arith, w.size, q.asks.wide) };
        on =
            ap (λ (l : List ℕ). l ++ (F (rest s d)).text) w.put
            ∙ append_assoc (take n x) t (F (rest s d)).text ∙ ap (λ (y : Span). take n x ++ y.text) (sym f)
            ∙ q.on;
        same = ap (λ (y : Span). y.rest) (sym f) ∙ q.same;
        size = w.size ∙ q.size;
        forward = omega (arith, q.forward, st.wide);
        shorter = omega (arith, ap length st.chars, q.shorter);
        began = q.began;
      }

  -- one more character of one byte
  pub spanning_along : {d : Cursor} {x' : List ℕ} {m : ℕ} → c.at < length s → (48 ≤ get_or s c.at 0) × (get_or s c.at 0 < 128)
      → d ≡ along_line c 1 → ((cs : List Ch) → F (char s c ∷ cs) ≡ ahead (get_or s c.at 0 ∷ []) (F cs))
      → Wrote x n (get_or s c.at 0 ∷ []) x' m → Spanning F s c₀ x₀ n₀ d x' m
  spanning_along h i e f w =
      spanning_more (along_law q.asks.stands h (omega arith) (λ z. omega arith) e) (f _) w
      (omega (arith, ap (λ (y : Cursor). y.at) e, w.count, q.asks.room))

  spanning_done : {d : Cursor} → Stands s d → c.at ≤ d.at → length (rest s d) ≤ length (rest s c)
      → F (rest s c) ≡ empty (rest s d) → Spanned s c₀ x₀ n₀ (F (rest s c₀)) x (record { cursor = d; n = n })
  spanning_done {d} z h k e =
      let p : take n x ≡ take n₀ x₀ ++ (F (rest s c₀)).text = sym (append-nil (take n x)) ∙ ap
      (λ (y : Span). take n x ++ y.text) (sym e) ∙ q.on in
      record {
        passed =
            record {
              stands = z;
              is = ap (λ (y : Span). y.rest) (sym e) ∙ q.same;
              forward = omega (arith, q.forward);
              shorter = omega (arith, q.shorter);
            };
        wrote =
            record {
              put = p;
              count = count_of x x₀ n n₀ _ p
                  (omega (arith, q.asks.room, q.asks.wide, q.asks.small, q.asks.stands.inside)) (omega
                  (arith, q.began, q.forward, q.size, q.asks.wide, q.asks.small, q.asks.stands.inside));
              size = q.size;
            };
        room = omega (arith, q.asks.room);
      }

  -- the scan ends after a character, at the end, or before a character
  pub spanning_past : {d : Cursor} → Stepped s c d → F (char s c ∷ rest s d) ≡ empty (rest s d)
      → Spanned s c₀ x₀ n₀ (F (rest s c₀)) x (record { cursor = d; n = n })
  spanning_past st e = spanning_done st.stands (omega (arith, st.wide)) (omega (arith, ap length st.chars)) (ap F st.chars ∙ e)

  pub spanning_out : length s ≤ c.at → F [] ≡ empty [] → Spanned s c₀ x₀ n₀ (F (rest s c₀)) x (record { cursor = c; n = n })
  spanning_out h e =
      spanning_done q.asks.stands (omega arith) (omega arith)
      (ap F (rest_end s c h) ∙ e ∙ ap empty (sym (rest_end s c h)))

  pub spanning_stop : c.at < length s → ((cs : List Ch) → F (char s c ∷ cs) ≡ empty (char s c ∷ cs))
      → Spanned s c₀ x₀ n₀ (F (rest s c₀)) x (record { cursor = c; n = n })
  spanning_stop h e =
      spanning_done q.asks.stands (omega arith) (omega arith)
      (ap F (rest_head q.asks.stands h) ∙ e _ ∙ ap empty (sym (rest_head q.asks.stands h)))

pub digits_while : (b : ℕ) (cs : List Ch) → span_while (is_digit_of b) cs ≡ digits b cs
unfolding span_while digits
digits_while b [] = refl
digits_while b (c ∷ cs) = ap (λ (s : Span). elim (is_digit_of b c.byte) as (λ _. Span) [ true ↦ ahead (c.byte ∷ []) s | false ↦ empty (c ∷ cs) ]) (digits_while b cs)

pub digits_go : (b : ℕ) (c : Ch) (cs : List Ch) → is_digit_of b c.byte ≡ true → digits b (c ∷ cs) ≡ ahead (c.byte ∷ []) (digits b cs)
digits_go b c cs h = rw (← digits_while b (c ∷ cs), ← digits_while b cs) (while_go (is_digit_of b) c cs h)

pub asm_none : assembly [] ≡ empty []
unfolding assembly
asm_none = refl

pub asm_go : (c : Ch) (cs : List Ch) → (c.byte ≡ 125 → ⊥) → assembly (c ∷ cs) ≡ ahead (c.byte ∷ c.more) (assembly cs)
unfolding assembly
asm_go c cs h = rw (ne_eqb _ _ h, assembly)

pub asm_stop : (c : Ch) (cs : List Ch) → c.byte ≡ 125 → assembly (c ∷ cs) ≡ empty cs
unfolding assembly
asm_stop c cs h = rw (eq-eqb _ _ h, assembly)

-- the invariant of assembly: it is closed, as from the start, or not
pub record Assembling (s : List ℕ) (c₀ : Cursor) (x₀ : List ℕ) (n₀ : ℕ) (c : Cursor) (x : List ℕ) (n : ℕ) : Type 0 where
  pub spans : Spanning assembly s c₀ x₀ n₀ c x n
  pub closes : closed (rest s c) ≡ closed (rest s c₀)

closed_none : closed [] ≡ false
unfolding closed
closed_none = refl

closed_go : (c : Ch) (cs : List Ch) → (c.byte ≡ 125 → ⊥) → closed (c ∷ cs) ≡ closed cs
unfolding closed
closed_go c cs h = rw (ne_eqb _ _ h, closed)

closed_stop : (c : Ch) (cs : List Ch) → c.byte ≡ 125 → closed (c ∷ cs) ≡ true
unfolding closed
closed_stop c cs h = rw (eq-eqb _ _ h, closed)

module _ {s : List ℕ} {c₀ : Cursor} {x₀ : List ℕ} {n₀ : ℕ} {c : Cursor} {x : List ℕ} {n : ℕ}
    (q : Assembling s c₀ x₀ n₀ c x n) where
  pub assembling_more : {d : Cursor} {x' : List ℕ} {m : ℕ} → Stepped s c d → (get_or s c.at 0 ≡ 125 → ⊥)
      → Wrote x n ((char s c).byte ∷ (char s c).more) x' m → m ≤ d.at → Assembling s c₀ x₀ n₀ d x' m
  assembling_more st h w r =
      record {
        spans = spanning_more q.spans st (asm_go _ _ h) w r;
        closes = sym (ap closed st.chars ∙ closed_go _ _ h) ∙ q.closes;
      }

  pub assembling_close : {d : Cursor} → Stepped s c d → get_or s c.at 0 ≡ 125
      → EndsAs s c₀ x₀ n₀ (closed (rest s c₀)) (assembly (rest s c₀)) x (Ok (record { cursor = d; n = n }))
  assembling_close st h = (sym q.closes ∙ ap closed st.chars ∙ closed_stop _ _ h, spanning_past q.spans st (asm_stop _ _ h))

  pub assembling_out : length s ≤ c.at
      → EndsAs s c₀ x₀ n₀ (closed (rest s c₀)) (assembly (rest s c₀)) x (Err (record { cursor = c; n = n }))
  assembling_out h = (sym q.closes ∙ ap closed (rest_end s c h) ∙ closed_none, spanning_out q.spans h asm_none)

-- the bytes of a character: one alone, or those from its offset to that of the next
module _ {s : List ℕ} {c d : Cursor} {x : List ℕ} {n : ℕ} {x' : List ℕ} {m : ℕ} (st : Stepped s c d) where
  pub one_copied : get_or s c.at 0 < 128 → Wrote x n (get_or s c.at 0 ∷ []) x' m → Wrote x n ((char s c).byte ∷ (char s c).more) x' m
  unfolding lead first
  one_copied h w =
      let z : more (lead (get_or s c.at 0)) ≡ 0 = rw (lt-ltb (get_or s c.at 0) 128 h) in
      rw z w

  pub char_copied : c.at < length s → Wrote x n (take (d.at - c.at) (drop c.at s)) x' m → Wrote x n ((char s c).byte ∷ (char s c).more) x' m
  char_copied h w =
      let z : d.at - c.at ≡ suc (more (lead (get_or s c.at 0))) = omega (arith, st.wide) in
      let e : take (d.at - c.at) (drop c.at s) ≡ (char s c).byte ∷ (char s c).more = rw (z, drop-cons s c.at 0 h, add-one) in
      rw (sym e) w

  pub copied_room : Wrote x n ((char s c).byte ∷ (char s c).more) x' m → n ≤ c.at → m ≤ d.at
  copied_room w h = omega (arith, st.wide, w.count, length-take (more (lead (get_or s c.at 0))) (drop (c.at + 1) s))

-- ---- the text of a string

record Steps (t : List ℕ) (k : ℕ) (q q' : Z.Quoted) : Type 0 where
  text : q.text ≡ t ++ q'.text
  unknown : q.unknown ≡ k + q'.unknown
  closed : q.closed ≡ q'.closed
  rest : q.rest ≡ q'.rest

abbrev pub Q : List ℕ → Cursor → Z.Quoted
Q s c = Z.quoted false (rest s c)

-- the invariant: what is written so far, u unknown escapes, and the string from the cursor c make up the whole string
pub record Quoting (s : List ℕ) (c₀ : Cursor) (x₀ : List ℕ) (n₀ : ℕ) (c : Cursor) (x : List ℕ) (n u : ℕ) : Type 0 where
  pub asks : Asks s c x n
  pub on : take n x ++ (Q s c).text ≡ take n₀ x₀ ++ (Q s c₀).text
  pub counts : u + (Q s c).unknown ≡ (Q s c₀).unknown
  pub closes : (Q s c).closed ≡ (Q s c₀).closed
  pub same : (Q s c).rest ≡ (Q s c₀).rest
  pub size : length x ≡ length x₀
  pub forward : c₀.at ≤ c.at
  pub shorter : length (rest s c) ≤ length (rest s c₀)
  pub began : n₀ ≤ c₀.at
  pub few : u ≤ c.at

quoted_plain : (c : Ch) (cs : List Ch) → (c.byte ≡ 34 → ⊥) → (c.byte ≡ 92 → ⊥)
    → Z.quoted false (c ∷ cs) ≡ Z.quoted_ahead (c.byte ∷ c.more) (Z.quoted false cs)
unfolding Z.quoted
quoted_plain c cs h k = rw (ne_eqb _ _ h, ne_eqb _ _ k, Z.quoted)

quoted_close : (c : Ch) (cs : List Ch) → c.byte ≡ 34
    → Z.quoted false (c ∷ cs) ≡ record { text = []; unknown = 0; closed = true; rest = cs }
unfolding Z.quoted
quoted_close c cs h = rw (eq-eqb _ _ h, Z.quoted)

quoted_slash : (c : Ch) (cs : List Ch) → c.byte ≡ 92 → Z.quoted false (c ∷ cs) ≡ Z.quoted true cs
unfolding Z.quoted
quoted_slash c cs h = rw (ne_eqb c.byte 34 (λ e. omega arith), eq-eqb _ _ h, Z.quoted)

abbrev escape_turn : List Ch → ℕ → Z.Quoted
escape_turn cs k =
    elim k as (λ _. Z.Quoted)
    [ zero ↦ Z.one_unknown (Z.quoted false cs) | suc e ↦ Z.quoted_ahead (suc e ∷ []) (Z.quoted false cs) ]

quoted_escape : (c : Ch) (cs : List Ch) (k : ℕ) → k ≡ Z.escape c.byte → Z.quoted true (c ∷ cs) ≡ escape_turn cs k
unfolding Z.quoted
quoted_escape c cs k e = ap (escape_turn cs) (sym e)

quoted_known : (c : Ch) (cs : List Ch) (k : ℕ) → Some k ≡ nonzero (Z.escape c.byte)
    → Z.quoted true (c ∷ cs) ≡ Z.quoted_ahead (k ∷ []) (Z.quoted false cs)
quoted_known c cs k e = go (Z.escape c.byte) refl e
  where
    go : (n : ℕ) → n ≡ Z.escape c.byte → Some k ≡ nonzero n → Z.quoted true (c ∷ cs) ≡ Z.quoted_ahead (k ∷ []) (Z.quoted false cs)
    go zero f g = cc
    go (suc n) f g = let h : suc n ≡ k = cc in rw (sym h) (quoted_escape c cs (suc n) f)

quoted_unknown : (c : Ch) (cs : List Ch) → None ≡ nonzero (Z.escape c.byte)
    → Z.quoted true (c ∷ cs) ≡ Z.one_unknown (Z.quoted false cs)
quoted_unknown c cs e = quoted_escape c cs 0 (sym (no_byte _ e refl))

abbrev cut : List Ch → Z.Quoted
cut cs = record { text = []; unknown = 0; closed = false; rest = cs }

abbrev cut_one : List Ch → Z.Quoted
cut_one cs = record { text = []; unknown = 1; closed = false; rest = cs }

quoted_none : Z.quoted false [] ≡ Z.cut_off
unfolding Z.quoted
quoted_none = refl

quoted_slash_none : Z.quoted true [] ≡ Z.one_unknown Z.cut_off
unfolding Z.quoted
quoted_slash_none = refl

module _ {s : List ℕ} {c₀ : Cursor} {x₀ : List ℕ} {n₀ : ℕ} {c : Cursor} {x : List ℕ} {n u : ℕ} (q : Quoting s c₀ x₀ n₀ c x n u) where
  quoting_more : {d : Cursor} {t x' : List ℕ} {m k v : ℕ} → Stands s d → c.at < d.at
      → length (rest s d) ≤ length (rest s c) → Steps t k (Q s c) (Q s d) → Wrote x n t x' m → m ≤ d.at
      → v ≡ u + k → k ≤ 1 → Quoting s c₀ x₀ n₀ d x' m v
  quoting_more {d} {t} z h l st w r e k1 =
      record {
        asks = record { stands = z; small = q.asks.small; room = r; wide = omega (arith, w.size, q.asks.wide) };
        on =
            ap (λ (l : List ℕ). l ++ (Q s d).text) w.put ∙ append_assoc (take n x) t (Q s d).text
            ∙ ap (λ (y : List ℕ). take n x ++ y) (sym st.text) ∙ q.on;
        counts = omega (arith, q.counts, st.unknown);
        closes = sym st.closed ∙ q.closes;
        same = sym st.rest ∙ q.same;
        size = w.size ∙ q.size;
        forward = omega (arith, q.forward);
        shorter = omega (arith, q.shorter);
        began = q.began;
        few = omega (arith, q.few);
      }

  ahead_steps : (t : List ℕ) (y : Z.Quoted) {z : Z.Quoted} → z ≡ Z.quoted_ahead t y → Steps t 0 z y
  ahead_steps t y e =
      record {
        text = ap (λ (v : Z.Quoted). v.text) e;
        unknown = ap (λ (v : Z.Quoted). v.unknown) e ∙ omega arith;
        closed = ap (λ (v : Z.Quoted). v.closed) e;
        rest = ap (λ (v : Z.Quoted). v.rest) e;
      }

  -- one more character, a known and an unknown escape
  pub quoting_plain : {d : Cursor} {x' : List ℕ} {m : ℕ} → Stepped s c d → (get_or s c.at 0 ≡ 34 → ⊥)
      → (get_or s c.at 0 ≡ 92 → ⊥) → Wrote x n ((char s c).byte ∷ (char s c).more) x' m → m ≤ d.at
      → Quoting s c₀ x₀ n₀ d x' m u
  quoting_plain {d} st h k w r = quoting_more st.stands (omega (arith, st.wide)) (omega (arith, ap length st.chars))
      (ahead_steps _ _ (ap (Z.quoted false) st.chars ∙ quoted_plain _ _ h k)) w r (omega arith) (omega arith)

  module _ {d : Cursor} (st : Stepped s c d) (b : get_or s c.at 0 ≡ 92) where
    slash : Q s c ≡ Z.quoted true (rest s d)
    slash = ap (Z.quoted false) st.chars ∙ quoted_slash _ _ b

    pub quoting_known : {e : Cursor} {x' : List ℕ} {m k : ℕ} {o : Option ℕ} → Stepped s d e
        → o ≡ nonzero (Z.escape (get_or s d.at 0)) → o ≡ Some k → Wrote x n (k ∷ []) x' m
        → Quoting s c₀ x₀ n₀ e x' m u
    quoting_known {e} {k = k} tt' h z w =
        quoting_more tt'.stands (omega (arith, st.wide, tt'.wide))
        (omega (arith, ap length st.chars, ap length tt'.chars))
        (ahead_steps (k ∷ []) _ (slash ∙ ap (Z.quoted true) tt'.chars ∙ quoted_known _ _ k (sym z ∙ h))) w
        (omega (arith, w.count, st.wide, tt'.wide, q.asks.room)) (omega arith) (omega arith)

    pub quoting_unknown : {e : Cursor} {o : Option ℕ} → Stepped s d e → o ≡ nonzero (Z.escape (get_or s d.at 0)) → o ≡ None
        → Quoting s c₀ x₀ n₀ e x n (u + 1)
    quoting_unknown {e} tt' h z =
        let f : Q s c ≡ Z.one_unknown (Q s e) = slash ∙ ap (Z.quoted true) tt'.chars ∙ quoted_unknown _ _ (sym z ∙ h) in
        quoting_more tt'.stands (omega (arith, st.wide, tt'.wide)) (omega (arith, ap length st.chars, ap length tt'.chars))
        (record {
          text = ap (λ (v : Z.Quoted). v.text) f;
          unknown = ap (λ (v : Z.Quoted). v.unknown) f ∙ omega arith;
          closed = ap (λ (v : Z.Quoted). v.closed) f;
          rest = ap (λ (v : Z.Quoted). v.rest) f;
        })
        wrote_none (omega (arith, st.wide, tt'.wide, q.asks.room)) refl (omega arith)

  quoting_done : {d : Cursor} {k : ℕ} {o : Bool} → Stands s d → c.at ≤ d.at → length (rest s d) ≤ length (rest s c)
      → Q s c ≡ record { text = []; unknown = k; closed = o; rest = rest s d }
      → ((Q s c₀).closed ≡ o) × Spanned s c₀ x₀ n₀ (span_of (Q s c₀)) x (record { cursor = d; n = n })
  quoting_done {d} z h l e =
      let p : take n x ≡ take n₀ x₀ ++ (Q s c₀).text = sym (append-nil (take n x)) ∙ ap
      (λ (y : Z.Quoted). take n x ++ y.text) (sym e) ∙ q.on in (
        sym q.closes ∙ ap (λ (y : Z.Quoted). y.closed) e,
        record {
          passed =
              record {
                stands = z;
                is = ap (λ (y : Z.Quoted). y.rest) (sym e) ∙ q.same;
                forward = omega (arith, q.forward);
                shorter = omega (arith, q.shorter);
              };
          wrote =
              record {
                put = p;
                count = count_of x x₀ n n₀ _ p
                    (omega (arith, q.asks.room, q.asks.wide, q.asks.small, q.asks.stands.inside)) (omega
                    (arith, q.began, q.forward, q.size, q.asks.wide, q.asks.small, q.asks.stands.inside));
                size = q.size;
              };
          room = omega (arith, q.asks.room);
        },
      )

  -- the string ends at its quote, at the end, or at the end after a backslash
  pub quoting_close : {d : Cursor} → Stepped s c d → get_or s c.at 0 ≡ 34
      → QuotedAs s c₀ x₀ n₀ (Q s c₀) x (record { end = Ok (record { cursor = d; n = n }); unknown = u })
  quoting_close {d} st b =
      let e = ap (Z.quoted false) st.chars ∙ quoted_close _ _ b in
      record {
        end = quoting_done st.stands (omega (arith, st.wide)) (omega (arith, ap length st.chars)) e;
        unknown = omega (arith, q.counts, ap (λ (y : Z.Quoted). y.unknown) e);
        few = omega (arith, q.few, st.wide);
        small = omega (arith, q.few, q.asks.stands.inside, q.asks.small);
      }

  pub quoting_out : length s ≤ c.at → QuotedAs s c₀ x₀ n₀ (Q s c₀) x (record { end = Err (record { cursor = c; n = n }); unknown = u })
  quoting_out h =
      let e = ap (Z.quoted false) (rest_end s c h) ∙ quoted_none ∙ ap cut (sym (rest_end s c h)) in
      record {
        end = quoting_done q.asks.stands (omega arith) (omega arith) e;
        unknown = omega (arith, q.counts, ap (λ (y : Z.Quoted). y.unknown) e);
        few = q.few;
        small = omega (arith, q.few, q.asks.stands.inside, q.asks.small);
      }

  pub quoting_slash_out : {d : Cursor} → Stepped s c d → get_or s c.at 0 ≡ 92 → length s ≤ d.at
      → QuotedAs s c₀ x₀ n₀ (Q s c₀) x (record { end = Err (record { cursor = d; n = n }); unknown = u + 1 })
  quoting_slash_out {d} st b h =
      let e = slash st b ∙ ap (Z.quoted true) (rest_end s d h) ∙ quoted_slash_none ∙ ap cut_one (sym (rest_end s d h)) in
      record {
        end = quoting_done st.stands (omega (arith, st.wide)) (omega (arith, ap length st.chars)) e;
        unknown = omega (arith, q.counts, ap (λ (y : Z.Quoted). y.unknown) e);
        few = omega (arith, q.few, st.wide);
        small = omega (arith, q.few, st.wide, st.stands.inside, q.asks.small);
      }
