-- The characters of a script in the order of their places, and what each part of the tokenizer leaves of them.
-- Assumes nothing.
use mathlib.Core.Path.{◌≡◌, refl, sym, ap, subst}
use mathlib.Core.Bool.{Bool, true, false, ◌||◌}
use mathlib.Core.Option.{some}
use mathlib.Core.List.{List, [], ◌∷◌, ◌++◌}
use Prim.Native.Nat.{ℕ, suc, ◌+◌, ◌*◌, ◌≤◌, ◌<◌}
use native.Mathlib.Omega.{arith}
use borrow.Author.Tests.{ltb-true, ltb-false, lt-ltb, le-ltb, eqb-true}
use lib.Dec.{eqb, ltb, lit<}
use lib.ListN.{length, length-append}
use Rattle.definition.specs.Choice.{pick}
use Rattle.definition.specs.Classes as C
use Rattle.definition.specs.Source.{Place, At, Ch, code, after, start, characters}
use Rattle.definition.specs.Tokenizer as Z
use Rattle.definition.specs.Tokenizer.{Span, Quoted, Run, ends, foreign, comment, digits, assembly, quoted, word, white, look, drop_one}
use Rattle.definition.proofs.Tests.{clash, both_true, parts_true, chosen, picked, counted, ◌∈◌, there, each}
use Rattle.definition.proofs.Characters.{spelling, beyond, Sound, Spelt, spelt, Utf8, utf8_none, utf8_char, utf8_byte}
use Rattle.definition.proofs.Codes.{Coded, coded_high}

-- ---- a script's characters

-- places as numbers, in their order
abbrev pub key : Place → ℕ
key p = p.line * 65536 + p.column

-- the place is at least 1:1, and n lines and n columns from it on are within 16,384
pub record Placed (n : ℕ) (p : Place) : Type 0 where
  pub line_low : 1 ≤ p.line
  pub line_high : p.line + n ≤ 16385
  pub column_low : 1 ≤ p.column
  pub column_high : p.column + n ≤ 16385

placed_less : (m n : ℕ) (p : Place) → m ≤ n → Placed n p → Placed m p
placed_less m n p h r = omega arith

-- characters in the order of their places, the first after the key k, within the limits, and each whole
abbrev pub Chars : ℕ → List Ch → Type 0
Chars k [] = Unit {0}
Chars k (c ∷ cs) = (k < key c.place) × Placed 1 c.place × Sound c × Chars (key c.place) cs

abbrev pub bytes : List Ch → ℕ
bytes [] = 0
bytes (c ∷ cs) = 1 + length c.more + bytes cs

chars_weaken : (k j : ℕ) (cs : List Ch) → j ≤ k → Chars k cs → Chars j cs
chars_weaken k j [] h p = tt
chars_weaken k j (c ∷ cs) h p = (omega (arith, p.0), p.1, p.2, p.3)

chars_tail : (k : ℕ) (c : Ch) (cs : List Ch) → Chars k (c ∷ cs) → Chars k cs
chars_tail k c cs p = chars_weaken (key c.place) k cs (omega (arith, p.0)) p.3

further : (b : ℕ) (p : Place) → Placed 1 p → key p < key (after b p)
further b p h = picked (λ (q : Place). key p < key q) (eqb b 10) _ _ (λ _. omega arith) (omega arith)

placed_after : (b n : ℕ) (p : Place) → Placed (suc n) p → Placed n (after b p)
placed_after b n p h = picked (Placed n) (eqb b 10) _ _ (λ _. omega arith) (omega arith)

spelt_bytes : (cs : List Ch) (p : At) (bs : List ℕ) → Spelt p bs cs → bytes cs ≡ length bs
spelt_bytes [] p bs s = omega (arith, ap length s)
spelt_bytes (c ∷ cs) p bs s = omega (arith, simp length-append at (ap length s.2), spelt_bytes cs (beyond p c) s.0 s.4)

spelt_chars : (cs : List Ch) (p : At) (bs : List ℕ) (k : ℕ) → k < key p.place → Placed (length bs) p.place → Spelt p bs cs → Chars k cs
spelt_chars [] p bs k h r s = tt
spelt_chars (c ∷ cs) p bs k h r s =
    let n : length bs ≡ 1 + length c.more + length s.0 = omega (arith, simp length-append at (ap length s.2)) in
    let r' : Placed (suc (length s.0)) p.place = placed_less (suc (length s.0)) (length bs) p.place (omega arith) r in
    let o : Placed 1 p.place = placed_less 1 (length bs) p.place (omega arith) r in
    subst (λ (q : Place). (k < key q) × Placed 1 q × Sound c × Chars (key q) cs) (sym (ap (λ (x : Ch). x.place) s.1)) (
      h,
      o,
      s.3,
      spelt_chars cs (beyond p c) s.0 (key p.place) (further c.byte p.place o)
          (placed_after c.byte (length s.0) p.place r') s.4,
    )

pub record Script (cs : List Ch) : Type 0 where
  pub chars : Chars 0 cs
  pub size : bytes cs ≤ 16384

pub script : (bs : List ℕ) (cs : List Ch) → length bs ≤ 16384 → characters bs ≡ some cs → Script cs
script bs cs h e =
    record {
      chars = spelt_chars cs start bs 0 (omega arith) (omega arith) (spelt bs cs e);
      size = omega (arith, spelt_bytes cs start bs (spelt bs cs e));
    }

-- ---- what each part of the tokenizer leaves

-- a scan that leaves rest, with n bytes of text
pub record Ran (cs rest : List Ch) (n : ℕ) : Type 0 where
  pub keeps : (k : ℕ) → Chars k cs → Chars k rest
  pub within : (d : Ch) → d ∈ rest → d ∈ cs
  pub size : n + bytes rest ≤ bytes cs
  pub fewer : length rest ≤ length cs

pub ran_none : (cs : List Ch) → Ran cs cs 0
ran_none cs = record { keeps = λ k p. p; within = λ d m. m; size = omega arith; fewer = omega arith }

pub ran_one : (c : Ch) (cs : List Ch) → Ran (c ∷ cs) cs 0
ran_one c cs =
    record { keeps = λ k p. chars_tail k c cs p; within = λ d m. there m; size = omega arith; fewer = omega arith }

pub ran_drop : (cs : List Ch) → Ran cs (drop_one cs) 0
ran_drop [] = ran_none []
ran_drop (c ∷ cs) = ran_one c cs

pub ran_more : {xs ys : List Ch} {m n : ℕ} → Ran xs ys m → n + bytes ys ≤ bytes xs → Ran xs ys n
ran_more p h = record { keeps = p.keeps; within = p.within; size = h; fewer = p.fewer }

pub ran_less : {xs ys : List Ch} {n : ℕ} → Ran xs ys n → Ran xs ys 0
ran_less p = ran_more p (omega (arith, p.size))

-- characters that are skipped first add no text
pub ran_trans : {xs ys zs : List Ch} {m n : ℕ} → Ran xs ys m → Ran ys zs n → Ran xs zs n
ran_trans p q =
    record {
      keeps = λ k h. q.keeps k (p.keeps k h);
      within = λ d m. p.within d (q.within d m);
      size = omega (arith, p.size, q.size);
      fewer = omega (arith, p.fewer, q.fewer);
    }

-- one byte, if there is one
pub ran_look : (cs : List Ch) (b : ℕ) → 0 < b → eqb (look cs) b ≡ true → Ran cs (drop_one cs) 1
ran_look [] b h e = absurd (omega (arith, eqb-true 0 b e, h))
ran_look (c ∷ cs) b h e = ran_more (ran_one c cs) (omega arith)

-- m bytes of the first character, and n after it
ran_char : (c : Ch) (cs rest : List Ch) (n m l : ℕ) → m ≤ 1 + length c.more → l ≤ m + n → Ran cs rest n → Ran (c ∷ cs) rest l
ran_char c cs rest n m l h k p =
    record {
      keeps = λ j q. p.keeps j (chars_tail j c cs q);
      within = λ d i. there (p.within d i);
      size = omega (arith, p.size);
      fewer = omega (arith, p.fewer);
    }

pub comment_ran : (cs : List Ch) → Ran cs (comment cs) 0
unfolding comment
comment_ran [] = ran_none []
comment_ran (c ∷ cs) =
    chosen (λ (rest : List Ch). Ran (c ∷ cs) rest 0) (eqb c.byte 10) _ _ (λ _. ran_one c cs)
    (λ _. ran_char c cs (comment cs) 0 0 0 (omega arith) (omega arith) (comment_ran cs))

-- a scan whose text is UTF-8, if the characters are whole
pub record Spans (cs : List Ch) (text : List ℕ) (rest : List Ch) : Type 0 where
  pub ran : Ran cs rest (length text)
  pub utf8 : (k : ℕ) → Chars k cs → Utf8 text

abbrev pub SpanOf : List Ch → Span → Type 0
SpanOf cs s = Spans cs s.text s.rest

spans_none : (cs rest : List Ch) → Ran cs rest 0 → Spans cs [] rest
spans_none cs rest r = record { ran = r; utf8 = λ _ _. utf8_none }

-- a character that is skipped, one whose bytes are all text, and one that is one byte of text
spans_skip : (c : Ch) (cs : List Ch) (text : List ℕ) (rest : List Ch) → Spans cs text rest → Spans (c ∷ cs) text rest
spans_skip c cs text rest s =
    record {
      ran = ran_char c cs rest (length text) 0 (length text) (omega arith) (omega arith) s.ran;
      utf8 = λ k h. s.utf8 (key c.place) h.3;
    }

spans_char : (c : Ch) (cs : List Ch) (text : List ℕ) (rest : List Ch) → Spans cs text rest → Spans (c ∷ cs) (spelling c ++ text) rest
spans_char c cs text rest s = record {
  ran =
      ran_char c cs rest (length text) (1 + length c.more) (length (spelling c ++ text)) (omega arith)
      (omega (arith, length-append c.more text)) s.ran;
  utf8 = λ k h. utf8_char c text h.2.0 (s.utf8 (key c.place) h.3);
}

spans_byte : (b : ℕ) (c : Ch) (cs : List Ch) (text : List ℕ) (rest : List Ch) → (Coded c → b < 128) → Spans cs text rest
    → Spans (c ∷ cs) (b ∷ text) rest
spans_byte b c cs text rest l s =
    record {
      ran = ran_char c cs rest (length text) 1 (length (b ∷ text)) (omega arith) (omega arith) s.ran;
      utf8 = λ k h. utf8_byte b text (l h.2.1) (s.utf8 (key c.place) h.3);
    }

pub digits_ran : (base : ℕ) (cs : List Ch) → Ran cs (digits base cs).rest (length (digits base cs).text)
unfolding digits
digits_ran base [] = ran_none []
digits_ran base (c ∷ cs) =
    chosen (λ (s : Span). Ran (c ∷ cs) s.rest (length s.text)) (C.is_digit_of base c.byte) _ _
    (λ _. ran_char c cs _ _ 1 _ (omega arith) (omega arith) (digits_ran base cs)) (λ _. ran_none (c ∷ cs))

pub digits_some : (c : Ch) (cs : List Ch) → C.is_digit c.byte ≡ true → 0 < length (digits 10 (c ∷ cs)).text
unfolding digits
digits_some c cs e = rw (digits, e) (omega arith)

pub assembly_spans : (cs : List Ch) → SpanOf cs (assembly cs)
unfolding assembly
assembly_spans [] = spans_none [] [] (ran_none [])
assembly_spans (c ∷ cs) =
    chosen (SpanOf (c ∷ cs)) (eqb c.byte 125) _ _ (λ _. spans_none (c ∷ cs) cs (ran_one c cs))
    (λ _. spans_char c cs _ _ (assembly_spans cs))

abbrev pub QuotedOf : List Ch → Quoted → Type 0
QuotedOf cs q = Spans cs q.text q.rest

pick_low : (b : Bool) (m n : ℕ) → m < 128 → n < 128 → pick b m n < 128
pick_low b m n h k = picked (λ (x : ℕ). x < 128) b m n (λ _. h) k

escape_low : (c : ℕ) → Z.escape c < 128
escape_low c = search (pick_low, lit<) depth 10

pub quoted_spans : (f : Bool) (cs : List Ch) → QuotedOf cs (quoted f cs)
unfolding quoted
quoted_spans false [] = spans_none [] [] (ran_none [])
quoted_spans true [] = spans_none [] [] (ran_none [])
quoted_spans false (c ∷ cs) =
    chosen (QuotedOf (c ∷ cs)) (eqb c.byte 34) _ _ (λ _. spans_none (c ∷ cs) cs (ran_one c cs))
    (λ _. chosen (QuotedOf (c ∷ cs)) (eqb c.byte 92) _ _ (λ _. spans_skip c cs _ _ (quoted_spans true cs))
    (λ _. spans_char c cs _ _ (quoted_spans false cs)))
quoted_spans true (c ∷ cs) =
    counted (QuotedOf (c ∷ cs)) (Z.escape c.byte) _ _ (spans_skip c cs _ _ (quoted_spans false cs))
    (λ e z. spans_byte (suc e) c cs _ _ (λ _. omega (arith, escape_low c.byte)) (quoted_spans false cs))

-- a string that is closed has one byte more than its text
abbrev pub ClosedOf : List Ch → Quoted → Type 0
ClosedOf cs q = q.closed ≡ true → suc (length q.text) + bytes q.rest ≤ bytes cs

pub quoted_closed : (f : Bool) (cs : List Ch) → ClosedOf cs (quoted f cs)
unfolding quoted
quoted_closed false [] = λ e. clash (sym e)
quoted_closed true [] = λ e. clash (sym e)
quoted_closed false (c ∷ cs) =
    chosen (ClosedOf (c ∷ cs)) (eqb c.byte 34) _ _ (λ _ _. omega arith)
    (λ _. chosen (ClosedOf (c ∷ cs)) (eqb c.byte 92) _ _ (λ _ e. omega (arith, quoted_closed true cs e))
    (λ _ e. omega (arith, length-append c.more (quoted false cs).text, quoted_closed false cs e)))
quoted_closed true (c ∷ cs) =
    counted (ClosedOf (c ∷ cs)) (Z.escape c.byte) _ _ (λ e. omega (arith, quoted_closed false cs e))
    (λ _ _ e. omega (arith, quoted_closed false cs e))

abbrev pub RunOf : List Ch → Run → Type 0
RunOf cs (ends s) = SpanOf cs s
RunOf cs foreign = Unit {0}

run_char : (c : Ch) (cs : List Ch) (r : Run) → RunOf cs r → RunOf (c ∷ cs) (Z.run_ahead (spelling c) r)
run_char c cs (ends s) p = spans_char c cs s.text s.rest p
run_char c cs foreign p = tt

run_skip : (c : Ch) (cs : List Ch) (r : Run) → RunOf cs r → RunOf (c ∷ cs) r
run_skip c cs (ends s) p = spans_skip c cs s.text s.rest p
run_skip c cs foreign p = tt

pub word_spans : (cs : List Ch) → RunOf cs (word cs)
unfolding word
word_spans [] = spans_none [] [] (ran_none [])
word_spans (c ∷ cs) =
    chosen (RunOf (c ∷ cs)) (C.is_foreign (code c)) _ _ (λ _. tt)
    (λ _. chosen (RunOf (c ∷ cs)) (C.is_word (code c)) _ _ (λ _. run_char c cs (word cs) (word_spans cs))
    (λ _. spans_none (c ∷ cs) (c ∷ cs) (ran_none (c ∷ cs))))

-- a byte of a word: of a character above 127, or itself one of a word
abbrev pub lettered : ℕ → Bool
lettered b = ltb 127 b || C.is_word b

lettered_all : (x : List ℕ) → each (ltb 127) x ≡ true → each lettered x ≡ true
lettered_all [] e = refl
lettered_all (b ∷ x) e = parts_true (ltb 127 b) (each (ltb 127) x) e λ p q. rw (p, lettered_all x q)

pub lettered_append : (x y : List ℕ) → each lettered x ≡ true → each lettered y ≡ true → each lettered (x ++ y) ≡ true
lettered_append [] y p q = q
lettered_append (b ∷ x) y p q =
    parts_true (lettered b) (each lettered x) p λ h k. both_true h (lettered_append x y k q)

pub char_lettered : (c : Ch) → Coded c → C.is_word (code c) ≡ true → each lettered (spelling c) ≡ true
char_lettered c q e = go (ltb (code c) 128) refl
  where
    go : (t : Bool) → ltb (code c) 128 ≡ t → each lettered (spelling c) ≡ true
    go true f =
        let l : code c < 128 = ltb-true (code c) 128 f in
        let b : code c ∷ [] ≡ spelling c = rw (lt-ltb (code c) 128 l) at q.bytes in
        subst (λ (x : List ℕ). each lettered x ≡ true) b (rw (le-ltb 127 (code c) (omega arith), e))
    go false f = lettered_all (spelling c) (coded_high q (ltb-false (code c) 128 f))

-- the text of a word
abbrev pub WordOf : Run → Type 0
WordOf (ends s) = each lettered s.text ≡ true
WordOf foreign = Unit {0}

pub word_letters : (k : ℕ) (cs : List Ch) → Chars k cs → WordOf (word cs)
unfolding word
word_letters k [] h = refl
word_letters k (c ∷ cs) h =
    chosen WordOf (C.is_foreign (code c)) _ _ (λ _. tt)
    (λ _. chosen WordOf (C.is_word (code c)) _ _
    (λ e. more (word cs) (char_lettered c h.2.1 e) (word_letters (key c.place) cs h.3)) (λ _. refl))
  where
    more : (r : Run) → each lettered (spelling c) ≡ true → WordOf r → WordOf (Z.run_ahead (spelling c) r)
    more (ends s) e p = lettered_append (spelling c) s.text e p
    more foreign e p = tt

pub white_spans : (cs : List Ch) → RunOf cs (white cs)
unfolding white
white_spans [] = spans_none [] [] (ran_none [])
white_spans (c ∷ cs) =
    chosen (RunOf (c ∷ cs)) (C.is_foreign (code c)) _ _ (λ _. tt)
    (λ _. chosen (RunOf (c ∷ cs)) (C.is_white (code c)) _ _ (λ _. run_skip c cs (white cs) (white_spans cs))
    (λ _. spans_none (c ∷ cs) (c ∷ cs) (ran_none (c ∷ cs))))
