-- The tokens and token errors of a script: each is well formed, the tokens are in the order of their places, and all
-- fit their records. Assumes nothing.
use mathlib.Core.Path.{◌≡◌, refl, sym, ap, subst}
use mathlib.Core.Bool.{Bool, true, false, ◌&&◌, ◌||◌, not}
use mathlib.Core.Option.{some}
use mathlib.Core.List.{List, [], ◌∷◌, ◌++◌}
use Prim.Native.Nat.{ℕ, zero, suc, ◌+◌, ◌-◌, ◌≤◌, ◌<◌}
use native.Mathlib.Omega.{arith}
use borrow.Author.Tests.{ltb-false, leb-true, eqb-true, eq-eqb, ne_eqb, lt-ltb}
use lib.Dec.{eqb, ltb, leb, T}
use lib.ListN.{length, length-append, replicate}
use Rattle.definition.specs.Ascii.{ascii}
use Rattle.definition.specs.Choice.{pick}
use Rattle.definition.specs.Classes as C
use Rattle.definition.specs.Kind as K
use Rattle.definition.specs.Source.{Place, same_place, Ch, code, nowhere, characters}
use Rattle.definition.specs.Fallible.{Err}
use Rattle.definition.specs.Token.{Tok, ◌is◌}
use Rattle.definition.specs.Records.{base_fits, can_lose, comes_after}
use Rattle.definition.specs.Tokenizer as Z
use Rattle.definition.specs.Tokenizer.{Turn, goes, refused, Span, Quoted, Run, ends, foreign, Class, Tokens, tokens, turn, tokenize, tokenize_from, comment, digits, assembly, closed, quoted, word, white, look, drop_one}
use Rattle.definition.specs.Sentence.{character_at}
use Rattle.definition.proofs.Shown.{Apart, Distinct, same_self}
use Rattle.definition.proofs.Tests.{clash, both_true, chosen, picked, counted, All, all_append, all_replicate, all_map, ◌∈◌, here, there, each}
use Rattle.definition.proofs.Characters.{spelling, Sound, utf8_char}
use Rattle.definition.proofs.Codes.{coded_digit}
pub use Rattle.definition.proofs.Scans.{Placed}
use Rattle.definition.proofs.Scans.{key, Placed, Chars, bytes, Script, script, Ran, ran_none, ran_one, ran_drop, ran_more, ran_less, ran_trans, ran_look, comment_ran, SpanOf, digits_ran, digits_some, assembly_spans, QuotedOf, quoted_spans, ClosedOf, quoted_closed, RunOf, word_spans, lettered, lettered_append, char_lettered, WordOf, word_letters, white_spans}
use Rattle.definition.proofs.Formed.{Formed, same_is, Plain, plain_bounds, plain_formed, pair_plain, symbol_plain, keyword_plain, Classed, is_foreign, is_white, is_comment, is_pair, is_symbol, is_quote, is_word, is_dash, is_zero, is_digit, is_unknown, classed, text_formed, Numeral, dash_numeral, numeral, or_zero_numeral, integer_formed, digits_all, digit_first}

-- ---- one turn: at most one token, and errors, placed at its first character

-- the least number of a script's bytes that a token takes: one, its text, with its quotes, or with `asm{`
abbrev pub width : Tok → ℕ
width t =
    pick (t is K.String) (2 + length t.text)
    (pick (t is K.InlineAssemblyFragment) (4 + length t.text) (suc (length t.text - 1)))

pub width_text : (t : Tok) → length t.text ≤ width t
width_text t =
    picked (λ (n : ℕ). length t.text ≤ n) (t is K.String) _ _ (λ _. omega arith)
    (picked (λ (n : ℕ). length t.text ≤ n) (t is K.InlineAssemblyFragment) _ _ (λ _. omega arith) (omega arith))

pub width_one : (t : Tok) → 1 ≤ width t
width_one t =
    picked (λ (n : ℕ). 1 ≤ n) (t is K.String) _ _ (λ _. omega arith)
    (picked (λ (n : ℕ). 1 ≤ n) (t is K.InlineAssemblyFragment) _ _ (λ _. omega arith) (omega arith))

-- the text of an identifier is a word
abbrev pub Lettered : Tok → Type 0
Lettered t = pick (t is K.Identifier) (each lettered t.text) true ≡ true

-- a token at the place p; n bytes were left before it, at most r are left after it
record New (p : Place) (r n : ℕ) (t : Tok) : Type 0 where
  place : t.place ≡ p
  size : width t + r ≤ n
  formed : Formed t
  lettered : Lettered t

abbrev OneToken : Place → ℕ → ℕ → List Tok → Type 0
OneToken p r n [] = Unit {0}
OneToken p r n (t ∷ []) = New p r n t
OneToken p r n (t ∷ u ∷ us) = ⊥

-- a token error at the place p
record ErrorAt (p : Place) (e : Err) : Type 0 where
  place : e.place ≡ p
  low : 1 ≤ e.number
  high : e.number ≤ 4
  expected : e.expected ≡ 0
  got : e.got ≡ 0

error_at : (n : ℕ) (p : Place) → 1 ≤ n → n ≤ 4 → ErrorAt p (Z.token_error n p)
error_at n p l h = record { place = refl; low = l; high = h; expected = refl; got = refl }

or_zero_length : (xs : List ℕ) → length (Z.or_zero xs) ≤ 1 + length xs
or_zero_length [] = omega arith
or_zero_length (x ∷ xs) = omega arith

record Turned (c : Ch) (cs rest : List Ch) (es : List Err) (ts : List Tok) : Type 0 where
  ran : Ran cs rest 0
  token : OneToken c.place (bytes rest) (bytes (c ∷ cs)) ts
  errors : All (ErrorAt c.place) es

abbrev TurnOf : Ch → List Ch → Turn → Type 0
TurnOf c cs (goes rest es ts) = Turned c cs rest es ts
TurnOf c cs (refused n) = T (C.between 4 7 n)

module _ (c : Ch) (cs : List Ch) where
  -- a turn that makes a token, of at most the first character and what was scanned; a turn that makes none
  gives_token : (rest : List Ch) (n : ℕ) (es : List Err) (t : Tok) → Ran cs rest n → t.place ≡ c.place
      → width t ≤ 1 + length c.more + n → Formed t → Lettered t → All (ErrorAt c.place) es → Turned c cs rest es (t ∷ [])
  gives_token rest n es t r e l f w a =
      record {
        ran = ran_less r;
        token = record { place = e; size = omega (arith, r.size, l); formed = f; lettered = w };
        errors = a;
      }

  gives_none : (rest : List Ch) (n : ℕ) (es : List Err) → Ran cs rest n → All (ErrorAt c.place) es → Turned c cs rest es []
  gives_none rest n es r a = record { ran = ran_less r; token = tt; errors = a }

  plain_losing : (rest : List Ch) (n k : ℕ) (l : Bool) → Ran cs rest n → Plain k → 0 < k → (can_lose k ≡ false → l ≡ false)
      → TurnOf c cs (Z.token_losing rest k c.place [] l)
  plain_losing rest n k l r p h q =
      let b = plain_bounds k p h in
      gives_token rest n [] _ r refl
      (rw (ne_eqb k K.String (λ z. omega (arith, b)), ne_eqb k K.InlineAssemblyFragment (λ z. omega (arith, b)))
      (omega arith))
      (plain_formed k c.place l p h q) (rw (ne_eqb k K.Identifier (λ z. omega (arith, b)))) tt

  plain_turned : (rest : List Ch) (n k : ℕ) → Ran cs rest n → Plain k → 0 < k → TurnOf c cs (Z.token rest k c.place)
  plain_turned rest n k r p h = plain_losing rest n k false r p h (λ _. refl)

  string_turned : (k : ℕ) → Chars k cs → (q : Quoted) → QuotedOf cs q → ClosedOf cs q
      → TurnOf c cs (Z.string_turn c.place q)
  unfolding Z.string_turn
  string_turned k h q p l =
      chosen (TurnOf c cs) q.closed _ _
      (λ e. gives_token q.rest (suc (length q.text)) _ _ (ran_more p.ran (l e)) refl (omega arith)
      (text_formed K.String c.place q.text false refl refl (omega arith) (omega arith) (λ _. refl) (p.utf8 k h)) refl unknown)
      (λ _. gives_none q.rest (length q.text) _ p.ran
      (all_append (ErrorAt c.place) (replicate q.unknown (Z.token_error 1 c.place))
      (Z.token_error 2 c.place ∷ []) unknown (error_at 2 c.place (omega arith) (omega arith), tt)))
    where
      unknown : All (ErrorAt c.place) (replicate q.unknown (Z.token_error 1 c.place))
      unknown =
          all_replicate (ErrorAt c.place) q.unknown (Z.token_error 1 c.place)
          (error_at 1 c.place (omega arith) (omega arith))

  -- after `asm` and white space: `a`, and n bytes more
  assembly_turned : (k : ℕ) → Chars k cs → (before : List Ch) (n : ℕ) → Ran cs before n → 2 ≤ length c.more + n
      → (r : Run) → RunOf before r → TurnOf c cs (Z.assembly_turn c.place r)
  unfolding Z.assembly_turn
  assembly_turned k h before n o l foreign p = tt
  assembly_turned k h before n o l (ends s) p =
      chosen (TurnOf c cs) (eqb (look s.rest) 123) _ _
      (λ e. gives_token a.rest (1 + n + length a.text) [] _ (opened e) refl (omega (arith, l))
      (text_formed K.InlineAssemblyFragment c.place a.text (not (closed (drop_one s.rest))) refl refl (omega arith)
      (omega arith) clash (b.utf8 k (ran_on.keeps k h))) refl tt)
      (λ _. gives_none (drop_one s.rest) 0 _ ran_on (error_at 3 c.place (omega arith) (omega arith), tt))
    where
      a : Span
      a = assembly (drop_one s.rest)

      b : SpanOf (drop_one s.rest) a
      b = assembly_spans (drop_one s.rest)

      ran_on : Ran cs (drop_one s.rest) 0
      ran_on = ran_trans o (ran_trans p.ran (ran_drop s.rest))

      opened : eqb (look s.rest) 123 ≡ true → Ran cs a.rest (1 + n + length a.text)
      opened e =
          let i = ran_look s.rest 123 (omega arith) e in
          ran_more (ran_trans ran_on b.ran) (omega (arith, p.ran.size, o.size, i.size, b.ran.size))

  word_turned : (k : ℕ) → Chars k cs → Sound c → C.is_letter (code c) ≡ true → (r : Run) → RunOf cs r → WordOf r
      → TurnOf c cs (Z.word_turn c.place (Z.run_ahead (spelling c) r))
  unfolding Z.word_turn
  word_turned k h w l foreign p q = tt
  word_turned k h w l (ends s) p q =
      chosen (TurnOf c cs) (Z.same x (ascii "asm")) _ _
      (λ e. assembly_turned k h s.rest (length s.text) p.ran
      (omega (arith, size, ap length (same_is x (ascii "asm") e))) (white s.rest) (white_spans s.rest))
      (λ _. counted (TurnOf c cs) (Z.keyword x) _ _
      (gives_token s.rest (length s.text) [] _ p.ran refl (omega (arith, size))
      (text_formed K.Identifier c.place x false refl refl (omega arith) (omega arith) (λ _. refl) (utf8_char c s.text w.0 (p.utf8 k h)))
      (lettered_append (spelling c) s.text (char_lettered c w.1 (rw l)) q) tt)
      (λ j e. plain_turned s.rest (length s.text) (suc j) p.ran (subst Plain e (keyword_plain x)) (omega arith)))
    where
      x : List ℕ
      x = spelling c ++ s.text

      size : length x ≡ 1 + length c.more + length s.text
      size = omega (arith, length-append (spelling c) s.text)

  integer_turned : (base : ℕ) (text : List ℕ) (rest : List Ch) (n : ℕ) → base_fits 2 base ≡ true → Ran cs rest n
      → length text ≤ 1 + n → Numeral base text → TurnOf c cs (Z.token_text rest K.Integer c.place text base)
  integer_turned base text rest n b r l t =
      gives_token rest n [] _ r refl (omega (arith, l)) (integer_formed base c.place text b t) refl tt

  -- digits after a prefix that is not text
  based_turned : (base : ℕ) (rest : List Ch) → base_fits 2 base ≡ true → C.is_digit_of base 48 ≡ true → Ran cs rest 0
      → TurnOf c cs (Z.integer c.place base [] (digits base rest))
  based_turned base rest b z r =
      integer_turned base _ (digits base rest).rest _ b (ran_trans r (digits_ran base rest))
      (omega (arith, or_zero_length (digits base rest).text))
      (or_zero_numeral base (digits base rest).text z (digits_all base rest))

  zero_turned : TurnOf c cs (Z.zero_turn c.place cs)
  unfolding Z.zero_turn
  zero_turned =
      chosen (TurnOf c cs) (eqb (look cs) 120) _ _ (λ _. based_turned 16 (drop_one cs) refl refl (ran_drop cs))
      (λ _. chosen (TurnOf c cs) (eqb (look cs) 98) _ _
      (λ _. based_turned 2 (drop_one cs) refl refl (ran_drop cs))
      (λ _. based_turned 10 cs refl refl (ran_none cs)))

dash_turned : (c : Ch) (cs : List Ch) → TurnOf c cs (Z.dash_turn c.place cs)
unfolding Z.dash_turn
dash_turned c [] = tt
dash_turned c (d ∷ cs) =
    chosen (TurnOf c (d ∷ cs)) (eqb d.byte 62) _ _
    (λ _. plain_turned c (d ∷ cs) cs 0 K.RArrow (ran_one d cs) (record { plain = refl }) (omega arith))
    (λ _. chosen (TurnOf c (d ∷ cs)) (C.is_digit d.byte) _ _
    (λ e. integer_turned c (d ∷ cs) 10 (45 ∷ (digits 10 (d ∷ cs)).text) (digits 10 (d ∷ cs)).rest _ refl
    (digits_ran 10 (d ∷ cs)) (omega arith)
    (dash_numeral (digits 10 (d ∷ cs)).text (digits_all 10 (d ∷ cs)) (digits_some d cs e)))
    (λ _. plain_losing c (d ∷ cs) cs 0 K.Minus (not (C.is_white (code d))) (ran_one d cs) (record { plain = refl })
    (omega arith) clash))

turned : (c : Ch) (cs : List Ch) (k : ℕ) → Sound c → Chars k cs → TurnOf c cs (turn c cs)
unfolding turn
turned c cs k w h = go (Z.class (code c) (look cs)) (classed (code c) (look cs))
  where
    go : (x : Class) → Classed (code c) (look cs) x → TurnOf c cs (Z.turn_by x c cs)
    go x is_foreign = tt
    go x is_white = gives_none c cs cs 0 [] (ran_none cs) tt
    go x is_comment = gives_none c cs (comment (drop_one cs)) 0 [] (ran_trans (ran_drop cs) (comment_ran (drop_one cs))) tt
    go x (is_pair l) =
        plain_turned c cs (drop_one cs) 0 (Z.pair (code c) (look cs)) (ran_drop cs)
        (pair_plain (code c) (look cs)) l
    go x (is_symbol l) =
        plain_turned c cs cs 0 (Z.symbol (code c)) (ran_none cs) (symbol_plain (code c)) l
    go x is_quote = string_turned c cs k h (quoted false cs) (quoted_spans false cs) (quoted_closed false cs)
    go x (is_word l) = word_turned c cs k h w l (word cs) (word_spans cs) (word_letters k cs h)
    go x is_dash = dash_turned c cs
    go x is_zero = zero_turned c cs
    go x (is_digit e) =
        integer_turned c cs 10 (c.byte ∷ (digits 10 cs).text) (digits 10 cs).rest (length (digits 10 cs).text)
        refl (digits_ran 10 cs) (omega arith) (numeral 10 (c.byte ∷ (digits 10 cs).text)
        (digit_first c.byte (digits 10 cs).text (rw (coded_digit w.1 e) at e) (digits_all 10 cs)) (omega arith))
    go x is_unknown = gives_none c cs cs 0 _ (ran_none cs) (error_at 4 c.place (omega arith) (omega arith), tt)

-- ---- all the tokens

-- tokens in the order of their places, from the key j to the key k
abbrev Rising : ℕ → List Tok → ℕ → Type 0
Rising j [] k = j ≤ k
Rising j (t ∷ ts) k = (j < key t.place) × Rising (key t.place) ts k

rising_append : (j k l : ℕ) (ts us : List Tok) → Rising j ts k → Rising k us l → Rising j (ts ++ us) l
rising_append j k l [] [] r q = omega arith
rising_append j k l [] (u ∷ us) r q = (omega (arith, q.0), q.1)
rising_append j k l (t ∷ ts) us r q = (r.0, rising_append (key t.place) k l ts us r.1 q)

-- a token that its record can hold
pub record Good (t : Tok) : Type 0 where
  pub formed : Formed t
  pub placed : Placed 1 t.place
  pub short : length t.text ≤ 16384
  pub lettered : Lettered t

-- a token error that its record can hold
pub record Fault (e : Err) : Type 0 where
  pub low : 1 ≤ e.number
  pub high : e.number ≤ 4
  pub placed : Placed 1 e.place
  pub expected : e.expected ≡ 0
  pub got : e.got ≡ 0

-- no token is the end
abbrev pub Kinds : List Tok → Type 0
Kinds ts = All (λ t. 0 < t.kind) ts

-- each token comes after the one before, the first after the place p
abbrev pub InOrder : Place → List Tok → Type 0
InOrder p [] = Unit {0}
InOrder p (t ∷ ts) = (comes_after p t.place.line t.place.column ≡ true) × InOrder t.place ts

-- the length of all texts
abbrev pub texts : List Tok → ℕ
texts [] = 0
texts (t ∷ ts) = length t.text + texts ts

-- and of all widths
abbrev pub widths : List Tok → ℕ
widths [] = 0
widths (t ∷ ts) = width t + widths ts

widths_append : (xs ys : List Tok) → widths (xs ++ ys) ≡ widths xs + widths ys
widths_append [] ys = omega arith
widths_append (x ∷ xs) ys = omega (arith, widths_append xs ys)

widths_texts : (ts : List Tok) → texts ts ≤ widths ts
widths_texts [] = omega arith
widths_texts (t ∷ ts) = omega (arith, width_text t, widths_texts ts)

-- ---- what follows for a list of tokens

later_place : (p q : Place) → p.column < 65536 → q.column < 65536 → key p < key q → comes_after p q.line q.column ≡ true
later_place p q a b h = go (ltb p.line q.line) refl
  where
    go : (x : Bool) → ltb p.line q.line ≡ x → x || (eqb p.line q.line && ltb p.column q.column) ≡ true
    go true e = refl
    go false e =
        let l : q.line ≤ p.line = ltb-false _ _ e in
        both_true (eq-eqb p.line q.line (omega arith)) (lt-ltb p.column q.column (omega arith))

in_order : (p : Place) (ts : List Tok) (k : ℕ) → p.column < 65536 → Rising (key p) ts k → All Good ts → InOrder p ts
in_order p [] k h r g = tt
in_order p (t ∷ ts) k h r g = (
  later_place p t.place h (omega (arith, g.0.placed)) r.0,
  in_order t.place ts k (omega (arith, g.0.placed)) r.1 g.1,
)

differ : (p q : Place) → (key p ≡ key q → ⊥) → same_place p q ≡ false
differ p q h = go (eqb p.line q.line) (eqb p.column q.column) (eqb-true p.line q.line) (eqb-true p.column q.column)
  where
    go : (a b : Bool) → (a ≡ true → p.line ≡ q.line) → (b ≡ true → p.column ≡ q.column) → a && b ≡ false
    go true true f g = absurd (h (omega (arith, f refl, g refl)))
    go true false f g = refl
    go false b f g = refl

apart : (p : Place) (ts : List Tok) (j k : ℕ) → key p ≤ j → Rising j ts k → Apart p ts
apart p [] j k h r = tt
apart p (t ∷ ts) j k h r = (differ p t.place (λ z. omega (arith, r.0)), apart p ts (key t.place) k (omega (arith, r.0)) r.1)

distinct : (ts : List Tok) (j k : ℕ) → Rising j ts k → Distinct ts
distinct [] j k r = tt
distinct (t ∷ ts) j k r = (apart t.place ts (key t.place) k (omega arith) r.1, distinct ts (key t.place) k r.1)

-- what is known of the tokens and errors of a script
pub record Made (ts : List Tok) (es : List Err) : Type 0 where
  pub good : All Good ts
  pub order : InOrder nowhere ts
  pub faults : All Fault es
  pub distinct : Distinct ts
  pub kinds : Kinds ts
  pub text : texts ts ≤ 16384
  pub width : widths ts ≤ 16384
  pub tokens : length ts ≤ 2048
  pub errors : length es ≤ 255

-- a script has such tokens, or is refused with 4 to 7
abbrev pub TokensOf : Tokens → Type 0
TokensOf (tokens ts es) = Made ts es
TokensOf (refused n) = T (C.between 4 7 n)

-- ---- the loop

-- what the turns up to the key k have made
record Have (k : ℕ) (ts : List Tok) (es : List Err) : Type 0 where
  rising : Rising 0 ts k
  good : All Good ts
  faults : All Fault es

module _ (p : Place) (r n : ℕ) where
  one_rising : (k : ℕ) (us : List Tok) → k < key p → OneToken p r n us → Rising k us (key p)
  one_rising k [] h o = omega arith
  one_rising k (t ∷ []) h o = let e : key t.place ≡ key p = ap key o.place in (omega arith, omega arith)
  one_rising k (t ∷ u ∷ us) h o = absurd o

  one_good : (us : List Tok) → Placed 1 p → n ≤ 16384 → OneToken p r n us → All Good us
  one_good [] h m o = tt
  one_good (t ∷ []) h m o = (
    record {
      formed = o.formed;
      placed = subst (Placed 1) (sym o.place) h;
      short = omega (arith, o.size, width_text t);
      lettered = o.lettered;
    },
    tt,
  )
  one_good (t ∷ u ∷ us) h m o = absurd o

  one_width : (us : List Tok) → r ≤ n → OneToken p r n us → widths us + r ≤ n
  one_width [] h o = omega arith
  one_width (t ∷ []) h o = omega (arith, o.size)
  one_width (t ∷ u ∷ us) h o = absurd o

  fault : Placed 1 p → (e : Err) → ErrorAt p e → Fault e
  fault h e a = record { low = a.low; high = a.high; placed = subst (Placed 1) (sym a.place) h; expected = a.expected; got = a.got }

  have_more : (k : ℕ) (ts us : List Tok) (es fs : List Err) → Have k ts es → k < key p → Placed 1 p → n ≤ 16384
      → OneToken p r n us → All (ErrorAt p) fs → Have (key p) (ts ++ us) (es ++ fs)
  have_more k ts us es fs h a b m o e = record {
    rising = rising_append 0 k (key p) ts us h.rising (one_rising k us a o);
    good = all_append Good ts us h.good (one_good us b m o);
    faults = all_append Fault es fs h.faults (all_map (ErrorAt p) Fault (fault b) fs e);
  }

-- one turn of the loop, with at most `most` tokens and 255 errors: it is refused, or the loop goes on
module _ (most : ℕ) (P : Tokens → Type 0) (six : P (Tokens.refused 6)) (seven : P (Tokens.refused 7)) (Q : Turn → Type 0)
    (refuses : (j : ℕ) → Q (refused j) → P (Tokens.refused j)) where
  pub stepped : (n : ℕ) (ts : List Tok) (es : List Err) (t : Turn) → Q t
      → ((cs' : List Ch) (ts' : List Tok) (es' : List Err) → Q (goes cs' es' ts')
      → length ts + length ts' ≤ most → length es + length es' ≤ 255
      → P (tokenize_from most n cs' (ts ++ ts') (es ++ es')))
      → P (elim t as (λ _. Tokens) [
        | refused j ↦ Tokens.refused j
        | goes cs' es' ts' ↦ elim (leb (length es + length es') 255) as (λ _. Tokens) [
          | false ↦ Tokens.refused 7
          | true ↦ elim (leb (length ts + length ts') most) as (λ _. Tokens)
              [ false ↦ Tokens.refused 6 | true ↦ tokenize_from most n cs' (ts ++ ts') (es ++ es') ]
        ]
      ])
  stepped n ts es (refused j) q f = refuses j q
  stepped n ts es (goes cs' es' ts') q f =
      chosen P (leb (length es + length es') 255) _ _
      (λ y. chosen P (leb (length ts + length ts') most) _ _
      (λ z. f cs' ts' es' q (leb-true _ _ z) (leb-true _ _ y)) (λ _. six)) (λ _. seven)

tokens_from : (n : ℕ) (cs : List Ch) (ts : List Tok) (es : List Err) (k : ℕ) → length cs < n → Chars k cs
    → widths ts + bytes cs ≤ 16384 → Have k ts es → length ts ≤ 2048 → length es ≤ 255
    → TokensOf (tokenize_from 2048 n cs ts es)
unfolding tokenize_from
tokens_from zero cs ts es k f c b h m w = absurd (omega arith)
tokens_from (suc n) [] ts es k f c b h m w = record {
  good = h.good;
  order = in_order nowhere ts k (omega arith) h.rising h.good;
  faults = h.faults;
  distinct = distinct ts 0 k h.rising;
  kinds = all_map Good (λ t. 0 < t.kind) (λ t g. g.formed.low) ts h.good;
  text = omega (arith, widths_texts ts, b);
  width = omega (arith, b);
  tokens = m;
  errors = w;
}
tokens_from (suc n) (x ∷ cs) ts es k f c b h m w =
    stepped 2048 TokensOf tt tt (TurnOf x cs) (λ j p. p) n ts es (turn x cs) (turned x cs (key x.place) c.2 c.3)
    (λ cs' ts' es' t z y. tokens_from n cs' (ts ++ ts') (es ++ es') (key x.place)
    (omega (arith, t.ran.fewer)) (t.ran.keeps (key x.place) c.3) (fits cs' ts' es' t)
    (more cs' ts' es' t) (rw length-append z) (rw length-append y))
  where
    fits : (cs' : List Ch) (ts' : List Tok) (es' : List Err) → Turned x cs cs' es' ts' → widths (ts ++ ts') + bytes cs' ≤ 16384
    fits cs' ts' es' t =
        omega (
          arith,
          widths_append ts ts',
          one_width x.place (bytes cs') (bytes (x ∷ cs)) ts' (omega (arith, t.ran.size)) t.token,
        )

    more : (cs' : List Ch) (ts' : List Tok) (es' : List Err) → Turned x cs cs' es' ts' → Have (key x.place) (ts ++ ts') (es ++ es')
    more cs' ts' es' t =
        have_more x.place (bytes cs') (bytes (x ∷ cs)) k ts ts' es es' h c.0 c.1 (omega arith)
        t.token t.errors

-- the tokenizer gives tokens and errors that fit their records, or refuses with 4 to 7
pub script_tokens : (bs : List ℕ) (cs : List Ch) → length bs ≤ 16384 → characters bs ≡ some cs → TokensOf (tokenize cs)
unfolding tokenize
script_tokens bs cs h e =
    let d : Script cs = script bs cs h e in
    tokens_from (suc (length cs)) cs [] [] 0 (omega arith) d.chars (omega (arith, d.size))
    (record { rising = omega arith; good = tt; faults = tt }) (omega arith) (omega arith)

-- ---- where the token errors stand

-- no two characters share a place, so the one found at a character's place is that character
chars_in : (c : Ch) (k : ℕ) (cs : List Ch) → Chars k cs → c ∈ cs → k < key c.place
chars_in c k cs h here = h.0
chars_in c k cs h (there {y = d} m) = omega (arith, h.0, chars_in c (key d.place) _ h.3 m)

character_in : (c : Ch) (k : ℕ) (cs : List Ch) → Chars k cs → c ∈ cs → character_at c.place cs ≡ spelling c
unfolding character_at
character_in c k cs h here = rw (character_at, same_self c.place)
character_in c k cs h (there {y = d} {xs = ds} m) =
    rw (character_at, differ c.place d.place (λ z. omega (arith, chars_in c (key d.place) ds h.3 m)))
    (character_in c (key d.place) ds h.3 m)

pub character_there : (bs : List ℕ) (cs : List Ch) → length bs ≤ 16384 → characters bs ≡ some cs → (c : Ch) → c ∈ cs
    → character_at c.place cs ≡ spelling c
character_there bs cs h e c m = character_in c 0 cs (script bs cs h e).chars m

-- a token error stands at a character
pub record AtCharacter (cs : List Ch) (e : Err) : Type 0 where
  pub char : Ch
  pub among : char ∈ cs
  pub place : char.place ≡ e.place

module _ (us : List Ch) where
  abbrev pub Stand : Tokens → Type 0
  Stand (tokens ts es) = All (AtCharacter us) es
  Stand (refused n) = Unit {0}

  stand_from : (n : ℕ) (cs : List Ch) (ts : List Tok) (es : List Err) (k : ℕ) → Chars k cs
      → ((d : Ch) → d ∈ cs → d ∈ us) → All (AtCharacter us) es → Stand (tokenize_from 2048 n cs ts es)
  unfolding tokenize_from
  stand_from zero cs ts es k c i a = tt
  stand_from (suc n) [] ts es k c i a = a
  stand_from (suc n) (x ∷ cs) ts es k c i a =
      stepped 2048 Stand tt tt (TurnOf x cs) (λ j p. tt) n ts es (turn x cs) (turned x cs (key x.place) c.2 c.3)
      (λ cs' ts' es' t _ _. stand_from n cs' (ts ++ ts') (es ++ es') (key x.place)
      (t.ran.keeps (key x.place) c.3)
      (λ d m. i d (there (t.ran.within d m))) (more es' t.errors))
    where
      more : (es' : List Err) → All (ErrorAt x.place) es' → All (AtCharacter us) (es ++ es')
      more es' h =
          all_append (AtCharacter us) es es' a
          (all_map (ErrorAt x.place) (AtCharacter us)
          (λ e q. record { char = x; among = i x here; place = sym q.place }) es' h)

pub errors_stand : (bs : List ℕ) (cs : List Ch) → length bs ≤ 16384 → characters bs ≡ some cs → Stand cs (tokenize cs)
unfolding tokenize
errors_stand bs cs h e = stand_from cs (suc (length cs)) cs [] [] 0 (script bs cs h e).chars (λ d m. m) tt
