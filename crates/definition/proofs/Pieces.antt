-- A script that lost nothing is shared out: each of its characters lies in a token, white space, a comment, or
-- something with a token error (specs/Pieces.antt). Assumes nothing.
use mathlib.Core.Path.{◌≡◌, refl, sym, ap, ◌∙◌, subst}
use mathlib.Core.Bool.{Bool, true, false, ◌&&◌, not}
use mathlib.Core.Option.{some}
use mathlib.Core.List.{List, [], ◌∷◌, ◌++◌, append-nil, append_assoc}
use Prim.Native.Nat.{ℕ, zero, suc, ◌≤◌, ◌<◌}
use native.Mathlib.Omega.{arith}
use borrow.Author.Tests.{eqb-true, ltb-true}
use lib.Dec.{eqb, ltb}
use lib.ListN.{length}
use Rattle.std.specs.List as L
use Rattle.std.proofs.Math.Nat.{suc-pred-eq_of_pos}
use Rattle.std.proofs.lemmas.Bool.{not-false}
use Rattle.std.proofs.lemmas.List.Elements.{All-nil, All-cons}
use Rattle.definition.specs.Ascii.{ascii}
use Rattle.definition.specs.Choice.{pick, first}
use Rattle.definition.specs.Classes as C
use Rattle.definition.specs.Kind as K
use Rattle.definition.specs.Source.{Ch, code, start, characters}
use Rattle.definition.specs.Fallible.{Err}
use Rattle.definition.specs.Token.{Tok, tok, tok_losing}
use Rattle.definition.specs.Losses.{losses}
use Rattle.definition.specs.Tokenizer as Z
use Rattle.definition.specs.Tokenizer.{Turn, goes, refused, Span, Quoted, Run, ends, foreign, Class, Tokens, tokens, turn, tokenize, tokenize_from, comment, digits, assembly, closed, quoted, word, white, look, drop_one}
use Rattle.definition.specs.Pieces as P
use Rattle.definition.specs.Pieces.{Is, Not, Escaped, Spells, Faulty, Shared, bytes_of}
use Rattle.definition.proofs.Tests.{clash, and_false, parts_true, between_bounds, chosen, picked, counted, All}
use Rattle.definition.proofs.Characters.{spelling, decode_coded}
use Rattle.definition.proofs.Codes.{Coded, coded_below, coded_alone}
use Rattle.definition.proofs.Formed.{digit_bounds, same_is}
use Rattle.definition.proofs.Tokens.{stepped}

-- ---- what a scan takes

-- characters are a part of which P holds, and a rest
record Cut (cs rest : List Ch) (P : List Ch → Type 0) : Type 0 where
  part : List Ch
  is : part ++ rest ≡ cs
  holds : P part

cut_none : {P : List Ch → Type 0} (cs : List Ch) → P [] → Cut cs cs P
cut_none cs h = record { part = []; is = refl; holds = h }

cut_more : {P Q : List Ch → Type 0} (c : Ch) {cs rest : List Ch} → Cut cs rest P → ((xs : List Ch) → P xs → Q (c ∷ xs))
    → Cut (c ∷ cs) rest Q
cut_more c p f = record { part = c ∷ p.part; is = ap (λ (xs : List Ch). c ∷ xs) p.is; holds = f p.part p.holds }

cut_map : {P Q : List Ch → Type 0} {cs rest : List Ch} → Cut cs rest P → ((xs : List Ch) → P xs → Q xs)
    → Cut cs rest Q
cut_map p f = record { part = p.part; is = p.is; holds = f p.part p.holds }

cut_one : {P : List Ch → Type 0} (c : Ch) (cs : List Ch) → P (c ∷ []) → Cut (c ∷ cs) cs P
cut_one c cs h = record { part = c ∷ []; is = refl; holds = h }

-- one character that is not `{`, or none at the end
cut_other : (cs : List Ch) → eqb (look cs) 123 ≡ false → Cut cs (drop_one cs) (λ xs. (length xs ≤ 1) × L.All (Not 123) xs)
cut_other [] n = cut_none [] (omega arith, All-nil (Not 123))
cut_other (c ∷ cs) n = cut_one c cs (omega arith, All-cons (Not 123) c [] n (All-nil (Not 123)))

-- characters are some of which P holds, and one with the byte b
record Ended (b : ℕ) (P : List Ch → Type 0) (xs : List Ch) : Type 0 where
  inner : List Ch
  last : Ch
  is : inner ++ (last ∷ []) ≡ xs
  holds : P inner
  ends : Is b last

ended_none : {b : ℕ} {P : List Ch → Type 0} (c : Ch) → P [] → Is b c → Ended b P (c ∷ [])
ended_none c h e = record { inner = []; last = c; is = refl; holds = h; ends = e }

ended_more : {b : ℕ} {P Q : List Ch → Type 0} (c : Ch) {xs : List Ch} → Ended b P xs
    → ((ys : List Ch) → P ys → Q (c ∷ ys)) → Ended b Q (c ∷ xs)
ended_more c p f = record {
  inner = c ∷ p.inner;
  last = p.last;
  is = ap (λ (xs : List Ch). c ∷ xs) p.is;
  holds = f p.inner p.holds;
  ends = p.ends;
}

-- the bytes of characters are a text
abbrev Spelling : List ℕ → List Ch → Type 0
Spelling x xs = bytes_of xs ≡ x

spelling_byte : {b : ℕ} (c : Ch) (xs : List Ch) {x : List ℕ} → Coded c → c.byte ≡ b → b < 128 → Spelling x xs
    → Spelling (b ∷ x) (c ∷ xs)
unfolding bytes_of
spelling_byte c xs w i l e = rw (coded_alone w (omega (arith, i, l)), i, e)

spelling_char : (c : Ch) (xs : List Ch) {x : List ℕ} → Spelling x xs → Spelling (spelling c ++ x) (c ∷ xs)
unfolding bytes_of
spelling_char c xs e = ap (λ (x : List ℕ). spelling c ++ x) e

digits_cut : (base : ℕ) (cs : List Ch) → All Coded cs → Cut cs (digits base cs).rest (Spelling (digits base cs).text)
unfolding digits bytes_of
digits_cut base [] w = cut_none [] refl
digits_cut base (c ∷ cs) w =
    chosen (λ (s : Span). Cut (c ∷ cs) s.rest (Spelling s.text)) (C.is_digit_of base c.byte) _ _
    (λ e. cut_more c (digits_cut base cs w.1) (λ xs h. spelling_byte c xs w.0 refl (digit_bounds base c.byte e).1 h))
    (λ _. cut_none (c ∷ cs) refl)

-- digits after one byte
prefix_cut : (base b : ℕ) → 0 < b → b < 128 → (cs : List Ch) → All Coded cs → eqb (look cs) b ≡ true
    → Cut cs (digits base (drop_one cs)).rest (Spelling (b ∷ (digits base (drop_one cs)).text))
prefix_cut base b h l [] w e = absurd (omega (arith, eqb-true 0 b e))
prefix_cut base b h l (c ∷ cs) w e =
    cut_more c (digits_cut base cs w.1) (λ xs i. spelling_byte c xs w.0 (eqb-true c.byte b e) l i)

-- what a scan that may refuse takes, by its text
abbrev Runs : (List ℕ → List Ch → Type 0) → List Ch → Run → Type 0
Runs P cs (ends s) = Cut cs s.rest (P s.text)
Runs P cs foreign = Unit {0}

word_cut : (cs : List Ch) → Runs Spelling cs (word cs)
unfolding word bytes_of
word_cut [] = cut_none [] refl
word_cut (c ∷ cs) =
    chosen (Runs Spelling (c ∷ cs)) (C.is_foreign (code c)) _ _ (λ _. tt)
    (λ _. chosen (Runs Spelling (c ∷ cs)) (C.is_word (code c)) _ _ (λ _. more (word cs) (word_cut cs))
    (λ _. cut_none (c ∷ cs) refl))
  where
    more : (r : Run) → Runs Spelling cs r → Runs Spelling (c ∷ cs) (Z.run_ahead (spelling c) r)
    more (ends s) p = cut_more c p (λ xs e. spelling_char c xs e)
    more foreign p = tt

-- white space, whatever the text
abbrev Whites : List ℕ → List Ch → Type 0
Whites x xs = L.All P.White xs

white_cut : (cs : List Ch) → Runs Whites cs (white cs)
unfolding white
white_cut [] = cut_none [] (All-nil P.White)
white_cut (c ∷ cs) =
    chosen (Runs Whites (c ∷ cs)) (C.is_foreign (code c)) _ _ (λ _. tt)
    (λ _. chosen (Runs Whites (c ∷ cs)) (C.is_white (code c)) _ _ (λ e. more (white cs) e (white_cut cs))
    (λ _. cut_none (c ∷ cs) (All-nil P.White)))
  where
    more : (r : Run) → P.White c → Runs Whites cs r → Runs Whites (c ∷ cs) r
    more (ends s) e p = cut_more c p (λ xs a. All-cons P.White c xs e a)
    more foreign e p = tt

-- inline assembly after its `{`
abbrev Inside : List ℕ → List Ch → Type 0
Inside x xs = Spelling x xs × L.All (Not 125) xs

abbrev InsideOf : Bool → List Ch → Span → Type 0
InsideOf b cs s = Cut cs s.rest (λ xs. b ≡ true → Ended 125 (Inside s.text) xs)

assembly_cut : (cs : List Ch) → InsideOf (closed cs) cs (assembly cs)
unfolding assembly closed bytes_of
assembly_cut [] = cut_none [] (λ e. clash (sym e))
assembly_cut (c ∷ cs) =
    chosen (InsideOf (closed (c ∷ cs)) (c ∷ cs)) (eqb c.byte 125) _ _
    (λ e. cut_one c cs (λ _. ended_none c (refl, All-nil (Not 125)) (eqb-true c.byte 125 e)))
    (λ n. cut_more c (assembly_cut cs) (λ _ f h. ended_more c (f (rw n at h))
    (λ ys p. (spelling_char c ys p.0, All-cons (Not 125) c ys n p.1))))

-- a string after its opening quote, or after a backslash in it: by whether it is closed, its text and its unknown escapes
abbrev Texted : Bool → Bool → List ℕ → ℕ → List Ch → Type 0
Texted false b x n xs = Escaped b xs x n
Texted true b x n xs = (c : Ch) → Is 92 c → Escaped b (c ∷ xs) x n

abbrev QuotedBy : Bool → Bool → List Ch → List Ch → List ℕ → ℕ → Type 0
QuotedBy true f cs rest x n = Cut cs rest (Ended 34 (Texted f true x n))
QuotedBy false f cs rest x n = (rest ≡ []) × Texted f false x n cs

abbrev QuotedOf : Bool → List Ch → Quoted → Type 0
QuotedOf f cs q = QuotedBy q.closed f cs q.rest q.text q.unknown

-- one more character before it
quoted_more : (f g : Bool) (q : Quoted) (x : List ℕ) (n : ℕ) (c : Ch) (cs : List Ch)
    → ((b : Bool) (xs : List Ch) → Texted f b q.text q.unknown xs → Texted g b x n (c ∷ xs))
    → QuotedOf f cs q → QuotedBy q.closed g (c ∷ cs) q.rest x n
quoted_more f g q x n c cs h p = go q.closed p
  where
    go : (b : Bool) → QuotedBy b f cs q.rest q.text q.unknown → QuotedBy b g (c ∷ cs) q.rest x n
    go true p = cut_more c p (λ _ e. ended_more c e (h true))
    go false p = (p.0, h false cs p.1)

quoted_cut : (f : Bool) (cs : List Ch) → QuotedOf f cs (quoted f cs)
unfolding quoted
quoted_cut false [] = (refl, P.end)
quoted_cut true [] = (refl, λ _ i. P.last i)
quoted_cut false (c ∷ cs) =
    chosen (QuotedOf false (c ∷ cs)) (eqb c.byte 34) _ _
    (λ e. cut_one c cs (ended_none c P.end (eqb-true c.byte 34 e)))
    (λ n. chosen (QuotedOf false (c ∷ cs)) (eqb c.byte 92) _ _
    (λ e. quoted_more true false (quoted true cs) _ _ c cs (λ _ _ p. p c (eqb-true c.byte 92 e)) (quoted_cut true cs))
    (λ m. quoted_more false false (quoted false cs) _ _ c cs (λ _ _ p. P.itself n m p) (quoted_cut false cs)))
quoted_cut true (c ∷ cs) = go (Z.escape c.byte) refl (quoted_cut false cs)
  where
    go : (k : ℕ) → Z.escape c.byte ≡ k → QuotedOf false cs (quoted false cs)
        → QuotedOf true (c ∷ cs) (elim k as (λ _. Quoted) [
          | zero ↦ Z.one_unknown (quoted false cs)
          | suc e ↦ Z.quoted_ahead (suc e ∷ []) (quoted false cs)
        ])
    go zero e p = quoted_more false true (quoted false cs) _ _ c cs (λ _ _ t b i. P.unknown i e t) p
    go (suc k) e p = quoted_more false true (quoted false cs) _ _ c cs (λ _ _ t b i. P.escape i e t) p

-- a comment after its slashes, where what follows it is shared out: its newline, if any, is white space of the rest
record Remarked (cs : List Ch) (ts : List Tok) (es : List Err) : Type 0 where
  rest : List Ch
  cut : Cut cs rest (L.All (Not 10))
  shared : Shared rest ts es

abbrev RemarkOf : List Ch → List Ch → Type 0
RemarkOf cs rest = All Coded rest × ((ts : List Tok) (es : List Err) → Shared rest ts es → Remarked cs ts es)

comment_cut : (cs : List Ch) → All Coded cs → RemarkOf cs (comment cs)
unfolding comment
comment_cut [] w = (tt, λ ts es s. record { rest = []; cut = cut_none [] (All-nil (Not 10)); shared = s })
comment_cut (c ∷ cs) w =
    chosen (RemarkOf (c ∷ cs)) (eqb c.byte 10) _ _
    (λ e. (
      w.1,
      λ ts es s. record {
        rest = c ∷ cs;
        cut = cut_none (c ∷ cs) (All-nil (Not 10));
        shared = P.white (newline (eqb-true c.byte 10 e)) s;
      },
    ))
    (λ n. let p = comment_cut cs w.1 in (
      p.0,
      λ ts es s. let r = p.1 ts es s in
          record { rest = r.rest; cut = cut_more c r.cut (λ xs a. All-cons (Not 10) c xs n a); shared = r.shared },
    ))
  where
    newline : c.byte ≡ 10 → P.White c
    newline e = rw (w.0.low (omega (arith, e)), e)

-- ---- a turn

abbrev Kept : Tok → Type 0
Kept t = t.lost ≡ false

losses_none : (ts : List Tok) → losses ts ≡ [] → All Kept ts
unfolding losses
losses_none [] h = tt
losses_none (t ∷ ts) h =
    chosen (λ (es : List Err). es ≡ [] → All Kept (t ∷ ts)) t.lost _ _ (λ _ e. clash cc)
    (λ e i. (e, losses_none ts i)) h

all_parts : {A : Type 0} (P : A → Type 0) (xs ys : List A) → All P (xs ++ ys) → (All P xs) × (All P ys)
all_parts P [] ys a = (tt, a)
all_parts P (x ∷ xs) ys a = let p = all_parts P xs ys a.1 in ((a.0, p.0), p.1)

-- if nothing was lost, what is before the rest is shared out among the tokens and errors
record Shares (cs rest : List Ch) (ts : List Tok) (es : List Err) : Type 0 where
  coded : All Coded rest
  shared : All Kept ts → (us : List Tok) (fs : List Err) → Shared rest us fs → Shared cs (ts ++ us) (es ++ fs)

shares_trans : {cs ds rest : List Ch} {ts us : List Tok} {es fs : List Err} → Shares cs ds ts es → Shares ds rest us fs
    → Shares cs rest (ts ++ us) (es ++ fs)
shares_trans {ts = ts} {us = us} {es = es} {fs = fs} p q = record {
  coded = q.coded;
  shared = λ k vs gs s. let l = all_parts Kept ts us k in
      rw (append_assoc ts us vs, append_assoc es fs gs) (p.shared l.0 (us ++ vs) (fs ++ gs) (q.shared l.1 vs gs s));
}

abbrev TurnOf : List Ch → Turn → Type 0
TurnOf cs (goes rest es ts) = Shares cs rest ts es
TurnOf cs (refused n) = Unit {0}

module _ (c : Ch) (cs : List Ch) (w : All Coded (c ∷ cs)) where
  cut_coded : {rest : List Ch} {P : List Ch → Type 0} → Cut cs rest P → All Coded rest
  cut_coded {rest} p = (all_parts Coded p.part rest (subst (All Coded) (sym p.is) w.1)).1

  -- a turn that makes a token
  gives : {rest : List Ch} (t : Tok) → Cut cs rest (λ xs. Kept t → Spells (c ∷ xs) t) → Shares (c ∷ cs) rest (t ∷ []) []
  gives t p = record {
    coded = cut_coded p;
    shared = λ k us fs s. subst (λ (xs : List Ch). Shared (c ∷ xs) (t ∷ us) fs) p.is (P.token (p.holds k.0) s);
  }

  -- one that makes errors, and perhaps a token
  faulty : {rest : List Ch} (ts : List Tok) (es : List Err) → Cut cs rest (λ xs. Faulty (c ∷ xs) ts es)
      → Shares (c ∷ cs) rest ts es
  faulty ts es p = record {
    coded = cut_coded p;
    shared = λ _ us fs s. subst (λ (xs : List Ch). Shared (c ∷ xs) (ts ++ us) (es ++ fs)) p.is (P.fault p.holds s);
  }

  string_turned : c.byte ≡ 34 → (q : Quoted) → QuotedOf false cs q → TurnOf (c ∷ cs) (Z.string_turn c.place q)
  unfolding Z.string_turn
  string_turned i q p = go q.closed p
    where
      t : Tok
      t = tok K.String c.place q.text 0

      whole : (n : ℕ) → Cut cs q.rest (Ended 34 (Texted false true q.text n)) → Shares (c ∷ cs) q.rest (t ∷ []) (P.escapes n c.place)
      whole zero p =
          gives t (cut_map p λ xs e _. subst (λ (ys : List Ch). Spells (c ∷ ys) t) e.is (P.string e.last i e.holds e.ends))
      whole (suc n) p =
          faulty (t ∷ []) (P.escapes (suc n) c.place) (cut_map p λ xs e. subst (λ (ys : List Ch). Faulty (c ∷ ys) (t ∷ [])
          (P.escapes (suc n) c.place)) e.is (Faulty.string e.last i e.holds e.ends))

      go : (b : Bool) → QuotedBy b false cs q.rest q.text q.unknown → TurnOf (c ∷ cs) (elim b as (λ _. Turn) [
        | true ↦ goes q.rest (P.escapes q.unknown c.place) (t ∷ [])
        | false ↦ goes q.rest (P.escapes q.unknown c.place ++ (Z.token_error 2 c.place ∷ [])) []
      ])
      go true p = whole q.unknown p
      go false p = rw p.0 (record { coded = tt; shared = λ _ us fs s. P.unclosed i p.1 s })

  -- inline assembly, by what follows its `{`
  abbrev fragment : List Ch → Tok
  fragment cs = tok_losing K.InlineAssemblyFragment c.place (assembly cs).text (not (closed cs))

  assembly_turned : {before : List Ch} → Cut cs before (λ xs. Spelling (ascii "asm") (c ∷ xs)) → (r : Run)
      → Runs Whites before r → TurnOf (c ∷ cs) (Z.assembly_turn c.place r)
  unfolding Z.assembly_turn
  assembly_turned p foreign q = tt
  assembly_turned {before} p (ends s) q =
      chosen (TurnOf (c ∷ cs)) (eqb (look s.rest) 123) _ _ (λ e. opened s.rest e q)
      (λ n. let d = cut_other s.rest n in faulty [] (Z.token_error 3 c.place ∷ []) (record {
        part = p.part ++ (q.part ++ d.part);
        is = simp (append_assoc, d.is, q.is, p.is);
        holds = simp append_assoc at (Faulty.assembly p.part q.part d.part p.holds q.holds d.holds.0 d.holds.1);
      }))
    where
      opened : (ds : List Ch) → eqb (look ds) 123 ≡ true → Cut before ds (L.All P.White)
          → Shares (c ∷ cs) (assembly (drop_one ds)).rest (fragment (drop_one ds) ∷ []) []
      opened [] e q = clash (sym e)
      opened (o ∷ ds) e q =
          let b : InsideOf (closed ds) ds (assembly ds) = assembly_cut ds in
          gives (fragment ds) (record {
            part = p.part ++ (q.part ++ (o ∷ b.part));
            is = simp (append_assoc, b.is, q.is, p.is);
            holds = λ k. let h = b.holds (not-false (closed ds) k) in
                rw (k, sym h.is, sym h.holds.0) (simp append_assoc at
                (Spells.assembly p.part q.part o h.inner h.last p.holds q.holds (eqb-true o.byte 123 e) h.holds.1 h.ends));
          })

  word_turned : (r : Run) → Runs Spelling cs r → TurnOf (c ∷ cs) (Z.word_turn c.place (Z.run_ahead (spelling c) r))
  unfolding Z.word_turn
  word_turned foreign p = tt
  word_turned (ends s) p =
      chosen (TurnOf (c ∷ cs)) (Z.same x (ascii "asm")) _ _
      (λ e. assembly_turned (cut_map p (λ xs h. spelling_char c xs h ∙ same_is x (ascii "asm") e)) (white s.rest)
      (white_cut s.rest))
      (λ _. counted (TurnOf (c ∷ cs)) (Z.keyword x) _ _
      (gives (tok K.Identifier c.place x 0) (cut_map p (λ xs h _.
      subst (λ (y : List ℕ). Spells (c ∷ xs) (tok K.Identifier c.place y 0)) (spelling_char c xs h) P.identifier)))
      (λ _ e. gives _ (cut_map p (λ xs h _. P.keyword (ap Z.keyword (spelling_char c xs h) ∙ e)))))
    where
      x : List ℕ
      x = spelling c ++ s.text

  -- a number after what is before its digits
  integer_turned : (base : ℕ) {p : List ℕ} {rest : List Ch} {Q : List Ch → Type 0} (ds : List ℕ) → P.Prefix base p
      → Cut cs rest Q → ((xs : List Ch) → Q xs → Spelling (p ++ ds) (c ∷ xs))
      → TurnOf (c ∷ cs) (Z.token_text rest K.Integer c.place (Z.or_zero ds) base)
  integer_turned base ds p q f = gives _ (cut_map q (λ xs h _. P.integer ds p (f xs h)))

  zero_turned : c.byte ≡ 48 → TurnOf (c ∷ cs) (Z.zero_turn c.place cs)
  unfolding Z.zero_turn ascii
  zero_turned i =
      chosen (TurnOf (c ∷ cs)) (eqb (look cs) 120) _ _
      (λ e. integer_turned 16 _ P.hexadecimal (prefix_cut 16 120 (omega arith) (omega arith) cs w.1 e) zero)
      (λ _. chosen (TurnOf (c ∷ cs)) (eqb (look cs) 98) _ _
      (λ e. integer_turned 2 _ P.binary (prefix_cut 2 98 (omega arith) (omega arith) cs w.1 e) zero)
      (λ _. integer_turned 10 _ P.zero (digits_cut 10 cs w.1) zero))
    where
      zero : {x : List ℕ} (xs : List Ch) → Spelling x xs → Spelling (48 ∷ x) (c ∷ xs)
      zero xs h = spelling_byte c xs w.0 i (omega arith) h

dash_turned : (c : Ch) (cs : List Ch) → All Coded (c ∷ cs) → c.byte ≡ 45 → TurnOf (c ∷ cs) (Z.dash_turn c.place cs)
unfolding Z.dash_turn
dash_turned c [] w i = tt
dash_turned c (d ∷ cs) w i =
    chosen (TurnOf (c ∷ d ∷ cs)) (eqb d.byte 62) _ _
    (λ e. gives c (d ∷ cs) w _ (cut_one d cs (λ _. P.arrow i (eqb-true d.byte 62 e))))
    (λ _. chosen (TurnOf (c ∷ d ∷ cs)) (C.is_digit d.byte) _ _
    (λ _. integer_turned c (d ∷ cs) w 10 (45 ∷ (digits 10 (d ∷ cs)).text) P.bare (digits_cut 10 (d ∷ cs) w.1)
    (λ xs h. spelling_byte c xs w.0 i (omega arith) h))
    (λ _. record {
      coded = w.1.1;
      shared = λ k us fs s. P.token {xs = c ∷ []} (rw k.0 (P.minus i))
          (P.white (not-false (C.is_white (code d)) k.0) s);
    }))

comment_turned : (c : Ch) (cs : List Ch) → All Coded (c ∷ cs) → c.byte ≡ 47 → eqb (look cs) 47 ≡ true
    → Shares (c ∷ cs) (comment (drop_one cs)) [] []
comment_turned c [] w i e = clash (sym e)
comment_turned c (d ∷ cs) w i e = let p = comment_cut cs w.1.1 in record {
  coded = p.0;
  shared = λ _ us fs s. let r = p.1 us fs s in
      subst (λ (xs : List Ch). Shared (c ∷ d ∷ xs) us fs) r.cut.is
      (P.remark (P.comment i (eqb-true d.byte 47 e) r.cut.holds) r.shared);
}

-- no symbol of two characters ends before its second
pair_none : (c : ℕ) → Z.pair c 0 ≡ 0
unfolding Z.pair first
pair_none c = search (by) depth 30
  where
    by : (x : Bool) (k r : ℕ) → r ≡ 0 → pick (x && false) k r ≡ 0
    by x k r e = rw (and_false x false refl) e

pair_turned : (c : Ch) (cs : List Ch) → All Coded (c ∷ cs) → 0 < Z.pair (code c) (look cs)
    → Shares (c ∷ cs) (drop_one cs) (tok (Z.pair (code c) (look cs)) c.place [] 0 ∷ []) []
pair_turned c [] w h = absurd (omega (arith, h, pair_none (code c)))
pair_turned c (d ∷ cs) w h =
    let e = suc-pred-eq_of_pos h in
    gives c (d ∷ cs) w _
    (cut_one d cs (λ _. subst (λ (k : ℕ). Spells (c ∷ d ∷ []) (tok k c.place [] 0)) e (P.pair (sym e))))

symbol_turned : (c : Ch) (cs : List Ch) → All Coded (c ∷ cs) → 0 < Z.symbol (code c)
    → Shares (c ∷ cs) cs (tok (Z.symbol (code c)) c.place [] 0 ∷ []) []
symbol_turned c cs w h =
    let e = suc-pred-eq_of_pos h in
    gives c cs w _ (cut_none cs (λ _. subst (λ (k : ℕ). Spells (c ∷ []) (tok k c.place [] 0)) e (P.symbol (sym e))))

turned : (c : Ch) (cs : List Ch) → All Coded (c ∷ cs) → TurnOf (c ∷ cs) (turn c cs)
unfolding turn Z.class first
turned c cs w =
    picked T (C.is_foreign (code c)) _ _ (λ _. tt)
    (picked T (C.is_white (code c)) _ _ (λ e. record { coded = w.1; shared = λ _ us fs s. P.white e s })
    (picked T (eqb (code c) 47 && eqb (look cs) 47) _ _
    (λ e. parts_true (eqb (code c) 47) (eqb (look cs) 47) e λ p q. comment_turned c cs w (is 47 (omega arith) p) q)
    (picked T (ltb 0 (Z.pair (code c) (look cs))) _ _ (λ e. pair_turned c cs w (ltb-true 0 _ e))
    (picked T (ltb 0 (Z.symbol (code c))) _ _ (λ e. symbol_turned c cs w (ltb-true 0 _ e))
    (picked T (eqb (code c) 34) _ _
    (λ e. string_turned c cs w (is 34 (omega arith) e) (quoted false cs) (quoted_cut false cs))
    (picked T (C.is_letter (code c)) _ _ (λ _. word_turned c cs w (word cs) (word_cut cs))
    (picked T (eqb (code c) 45) _ _ (λ e. dash_turned c cs w (is 45 (omega arith) e))
    (picked T (eqb (code c) 48) _ _ (λ e. zero_turned c cs w (is 48 (omega arith) e))
    (picked T (C.is_digit (code c)) _ _
    (λ e. integer_turned c cs w 10 (c.byte ∷ (digits 10 cs).text) P.bare (digits_cut 10 cs w.1)
    (λ xs h. spelling_byte c xs w.0 refl (low 57 (omega arith) (between_bounds 48 57 (code c) e).1) h))
    (faulty c cs w [] (Z.token_error 4 c.place ∷ []) (cut_none cs Faulty.character)))))))))))
  where
    low : (b : ℕ) → b < 128 → code c ≤ b → c.byte < 128
    low b l h = coded_below w.0 (omega (arith, l, h))

    is : (b : ℕ) → b < 128 → eqb (code c) b ≡ true → c.byte ≡ b
    is b l e = let i = eqb-true (code c) b e in omega (arith, w.0.low (low b l (omega (arith, i))), i)

    T : Class → Type 0
    T x = TurnOf (c ∷ cs) (Z.turn_by x c cs)

-- ---- the loop

-- all characters from the first on are shared out
abbrev SharesAll : List Ch → Tokens → Type 0
SharesAll cs (tokens ts es) = losses ts ≡ [] → Shared cs ts es
SharesAll cs (refused n) = Unit {0}

module _ (most : ℕ) (bs : List Ch) where
  shared_from : (n : ℕ) (cs : List Ch) (ts : List Tok) (es : List Err) → Shares bs cs ts es
      → SharesAll bs (tokenize_from most n cs ts es)
  unfolding tokenize_from
  shared_from zero cs ts es p = tt
  shared_from (suc n) [] ts es p =
      λ h. rw (sym (append-nil ts), sym (append-nil es)) (p.shared (losses_none ts h) [] [] P.end)
  shared_from (suc n) (c ∷ cs) ts es p =
      stepped most (SharesAll bs) tt tt (TurnOf (c ∷ cs)) (λ j q. tt) n ts es (turn c cs) (turned c cs p.coded)
      (λ cs' ts' es' q _ _. shared_from n cs' (ts ++ ts') (es ++ es') (shares_trans p q))

-- a script that lost nothing is shared out
pub shared : (bs : List ℕ) (cs : List Ch) (ts : List Tok) (es : List Err) → characters bs ≡ some cs
    → tokenize cs ≡ tokens ts es → losses ts ≡ [] → Shared cs ts es
unfolding characters tokenize
shared bs cs ts es w e =
    subst (SharesAll cs) e (shared_from 2048 cs (suc (length cs)) cs [] []
    (record { coded = decode_coded start bs cs w; shared = λ _ us fs s. s }))
