-- The length of a sentence: at most 98,333 bytes. A script that is one string of 16,382 control characters has one as
-- long. Assumes nothing.
use mathlib.Core.Path.{◌≡◌, refl, sym, ap, subst}
use mathlib.Core.Bool.{Bool, true, false, ◌&&◌, ◌||◌, not}
use mathlib.Core.Option.{Option, none, some}
use mathlib.Core.List.{List, [], ◌∷◌, ◌++◌}
use Prim.Native.Nat.{ℕ, zero, suc, ◌+◌, ◌*◌, ◌-◌, ◌/◌, ◌^◌, ◌≤◌, ◌<◌}
use native.Mathlib.Omega.{arith}
use borrow.Author.Tests.{ltb-true, ltb-false, lt-ltb, le-ltb, leb-true, eqb-true}
use lib.Dec.{eqb, ltb, leb}
use lib.ListN.{length, length-append, drop, get_or, get_elem?}
use Rattle.definition.specs.Ascii.{ascii}
use Rattle.definition.specs.Choice.{pick}
use Rattle.definition.specs.Classes as C
use Rattle.definition.specs.Classes.{between}
use Rattle.definition.specs.Tag as Tag
use Rattle.definition.specs.Kind as K
use Rattle.definition.specs.ParseError as E
use Rattle.definition.specs.TokenError as TokenError
use Rattle.definition.specs.Source.{Place, same_place, At, Ch, code, start, characters}
use Rattle.definition.specs.Fallible.{Err}
use Rattle.definition.specs.Token.{Tok, end_token, ◌is◌}
use Rattle.definition.specs.Records.{has_text, base_fits, all_digits, some_digits, integer_text}
use Rattle.definition.specs.Parser.{error}
use Rattle.definition.specs.Operations.{Written, kept}
use Rattle.definition.specs.Sentence.{kind_name, digits_in, in_base, escaped, escaped_all, in_quotes, base_part, in_parentheses, spelled, Meaning, Part, words, expected, got, character, compose, token_messages, parser_messages, token_sentence, parser_sentence, sentence_of, character_at, character_of, token_meaning, token_got, parser_meaning}
use Rattle.definition.specs.Sentence.{Found, Examined, found, refused, examine, entries, meaning, sentence_at, said, sentence}
use Rattle.definition.specs.Understood.{encode, message}
use Rattle.definition.proofs.Tests.{clash, both_true, left_true, right_true, parts_true, either_true, chosen, picked, All, all_in, ◌∈◌, here, there, in_drop, each, each_getD, is_in, is_in_each, every, every_below}
use Rattle.definition.proofs.Codes.{Coded}
use Rattle.definition.proofs.Characters.{spelling, beyond, Spelt, spelt, encode_all, encoded, decode_coded}
use Rattle.definition.proofs.Formed.{digit_bounds}
use Rattle.definition.proofs.Scans.{lettered}
use Rattle.definition.proofs.Shown.{Distinct}
use Rattle.definition.proofs.Tokens.{Good, width, width_one, widths}
use Rattle.definition.proofs.Examined.{FoundIn, examined, found_made}
use Rattle.definition.proofs.Recover.{without_text, says}
use Rattle.definition.proofs.Named.{naming_none, naming_got, expected_kinds, Right, alone, expecting, both, getting, top_level, compound}
use Rattle.definition.proofs.Complaints.{got_there, meant_in, said_in, right_at}

-- ---- quoted text

-- below 16 to the power k + 1 at most k + 1 digits
digits_short : (f n k : ℕ) → n < f → n < 16 ^ suc k → length (digits_in 16 f n) ≤ suc k
unfolding digits_in
digits_short zero n k h l = absurd (omega arith)
digits_short (suc f) n zero h l =
    chosen (λ (ds : List ℕ). length ds ≤ 1) (ltb n 16) _ _ (λ _. omega arith)
    (λ e. absurd (omega (arith, ltb-false n 16 e)))
digits_short (suc f) n (suc k) h l =
    chosen (λ (ds : List ℕ). length ds ≤ suc (suc k)) (ltb n 16) _ _ (λ _. omega arith)
    (λ e. let g : 16 ≤ n = ltb-false n 16 e in
    rw length-append (omega (arith, digits_short f (n / 16) k (omega arith) (omega arith))))

-- a character: at most two bytes, or four and its digits
escaped_short : (n k : ℕ) → n < 16 ^ suc k → length (escaped n) ≤ 5 + k
unfolding escaped in_base
escaped_short n k h =
    short (eqb n 34) _ _ (omega arith) (short (eqb n 92) _ _ (omega arith) (short (eqb n 10) _ _ (omega arith)
    (short (eqb n 13) _ _ (omega arith) (short (eqb n 9) _ _ (omega arith) (short (between 32 126 n) _ _ (omega arith)
    (omega (arith, length-append (digits_in 16 (suc n) n) (125 ∷ []), digits_short (suc n) n k (omega arith) h)))))))
  where
    short : (b : Bool) (xs ys : List ℕ) → length xs ≤ 5 + k → length ys ≤ 5 + k → length (pick b xs ys) ≤ 5 + k
    short b xs ys p q = picked (λ (zs : List ℕ). length zs ≤ 5 + k) b xs ys (λ _. p) q

-- above 127 at most four times as long as its bytes, else at most six times
escaped_four : (n : ℕ) → 128 ≤ n → n < 0x110000 → length (escaped n) ≤ 4 * length (encode n)
escaped_four n l h =
    rw (le-ltb n 0x80 l)
    (by (ltb n 0x800) _ _ (λ e. omega (arith, escaped_short n 2 (omega (arith, ltb-true n 0x800 e))))
    (by (ltb n 0x10000) _ _ (λ e. omega (arith, escaped_short n 3 (omega (arith, ltb-true n 0x10000 e))))
    (omega (arith, escaped_short n 5 (omega arith)))))
  where
    by : (b : Bool) (xs ys : List ℕ) → (b ≡ true → length (escaped n) ≤ 4 * length xs)
        → length (escaped n) ≤ 4 * length ys → length (escaped n) ≤ 4 * length (pick b xs ys)
    by b xs ys p q = picked (λ (zs : List ℕ). length (escaped n) ≤ 4 * length zs) b xs ys p q

escaped_six : (n : ℕ) → n < 0x110000 → length (escaped n) ≤ 6 * length (encode n)
escaped_six n h = go (ltb n 0x80) refl
  where
    go : (t : Bool) → ltb n 0x80 ≡ t → length (escaped n) ≤ 6 * length (encode n)
    go true e =
        let l : n < 0x80 = ltb-true n 0x80 e in
        rw (lt-ltb n 0x80 l) (omega (arith, escaped_short n 1 (omega (arith, l))))
    go false e = omega (arith, escaped_four n (ltb-false n 0x80 e) h)

all_six : (cs : List Ch) → All Coded cs → length (escaped_all cs) ≤ 6 * length (encode_all cs)
unfolding escaped_all
all_six [] a = omega arith
all_six (c ∷ cs) a =
    rw (length-append (escaped (code c)), length-append (encode (code c)))
    (omega (arith, escaped_six (code c) a.0.small, all_six cs a.1))

quotes_short : (x : List ℕ) → length (in_quotes x) ≤ 6 * length x + 2
unfolding in_quotes characters
quotes_short x = go (characters x) refl
  where
    go : (o : Option (List Ch)) → characters x ≡ o
        → length {A = ℕ} (elim o as (λ _. List ℕ) [ none ↦ [] | some cs ↦ ascii "\"" ++ escaped_all cs ++ ascii "\"" ]) ≤ 6 * length x + 2
    go none e = omega arith
    go (some cs) e =
        omega (
          arith,
          length-append (escaped_all cs) (34 ∷ []),
          all_six cs (decode_coded start x cs e),
          ap length (encoded x cs e),
        )

-- ---- text in which no character below 128 is escaped

abbrev unescaped : ℕ → Bool
unescaped b = ltb 127 b || leb (length (escaped b)) 1

char_unescaped : (c : Ch) → Coded c → unescaped c.byte ≡ true → length (escaped (code c)) ≤ 4 * length (spelling c)
char_unescaped c q e = go (ltb c.byte 128) refl
  where
    go : (t : Bool) → ltb c.byte 128 ≡ t → length (escaped (code c)) ≤ 4 * length (spelling c)
    go true f =
        let l : c.byte < 128 = ltb-true c.byte 128 f in
        let o : leb (length (escaped c.byte)) 1 ≡ true = rw (le-ltb 127 c.byte (omega arith)) at e in
        omega (arith, ap (λ (n : ℕ). length (escaped n)) (q.low l), leb-true (length (escaped c.byte)) 1 o)
    go false f = omega (arith, escaped_four (code c) (q.high (ltb-false c.byte 128 f)) q.small, ap length q.bytes)

each_after : (f : ℕ → Bool) (xs ys : List ℕ) → each f (xs ++ ys) ≡ true → each f ys ≡ true
each_after f [] ys e = e
each_after f (x ∷ xs) ys e = each_after f xs ys (right_true (f x) (each f (xs ++ ys)) e)

spelt_unescaped : (cs : List Ch) (p : At) (x : List ℕ) → Spelt p x cs → each unescaped x ≡ true
    → length (escaped_all cs) ≤ 4 * length x
unfolding escaped_all
spelt_unescaped [] p x s e = omega arith
spelt_unescaped (c ∷ cs) p x s e =
    let f : each unescaped (spelling c ++ s.0) ≡ true = subst (λ (y : List ℕ). each unescaped y ≡ true) s.2 e in
    let r = spelt_unescaped cs (beyond p c) s.0 s.4 (each_after unescaped (spelling c) s.0 f) in
    let h = left_true (unescaped c.byte) (each unescaped (c.more ++ s.0)) f in
    omega (
      arith,
      length-append (escaped (code c)) (escaped_all cs),
      char_unescaped c s.3.1 h,
      ap length s.2,
      length-append (spelling c) s.0,
      r,
    )

quotes_unescaped : (x : List ℕ) → each unescaped x ≡ true → length (in_quotes x) ≤ 4 * length x + 2
unfolding in_quotes characters
quotes_unescaped x u = go (characters x) refl
  where
    go : (o : Option (List Ch)) → characters x ≡ o
        → length {A = ℕ} (elim o as (λ _. List ℕ) [ none ↦ [] | some cs ↦ ascii "\"" ++ escaped_all cs ++ ascii "\"" ]) ≤ 4 * length x + 2
    go none e = omega arith
    go (some cs) e =
        omega (arith, length-append (escaped_all cs) (34 ∷ []), spelt_unescaped cs start x (spelt x cs e) u)

-- ---- the characters of words and numbers stand for themselves, each computed

class_unescaped : (f : ℕ → Bool) → every (λ b. not (f b) || unescaped b) 128 ≡ true → (b : ℕ) → b < 128 → f b ≡ true
    → unescaped b ≡ true
class_unescaped f t b l e = rw e at (every_below (λ b. not (f b) || unescaped b) 128 b t l)

lettered_unescaped : (b : ℕ) → lettered b ≡ true → unescaped b ≡ true
unfolding escaped
lettered_unescaped b e = go (ltb 127 b) refl
  where
    go : (t : Bool) → ltb 127 b ≡ t → unescaped b ≡ true
    go true f = rw f
    go false f = class_unescaped C.is_word refl b (omega (arith, ltb-false 127 b f)) (rw f at e)

word_unescaped : (x : List ℕ) → each lettered x ≡ true → each unescaped x ≡ true
word_unescaped [] e = refl
word_unescaped (b ∷ x) e =
    parts_true (lettered b) (each lettered x) e
    λ p q. both_true {a = unescaped b} (lettered_unescaped b p) (word_unescaped x q)

digit_unescaped : (base d : ℕ) → C.is_digit_of base d ≡ true → unescaped d ≡ true
unfolding escaped
digit_unescaped base d e = go (eqb base 2) (eqb base 10) (digit_bounds base d e).1 e
  where
    go : (x y : Bool) → d < 128 → pick x (C.is_binary d) (pick y (C.is_digit d) (C.is_hexadecimal d)) ≡ true
        → unescaped d ≡ true
    go true y l e = class_unescaped C.is_binary refl d l e
    go false true l e = class_unescaped C.is_digit refl d l e
    go false false l e = class_unescaped C.is_hexadecimal refl d l e

digits_unescaped : (base : ℕ) (x : List ℕ) → all_digits base x ≡ true → each unescaped x ≡ true
unfolding all_digits
digits_unescaped base [] e = refl
digits_unescaped base (d ∷ x) e =
    parts_true (C.is_digit_of base d) (all_digits base x) e
    λ p q. both_true {a = unescaped d} (digit_unescaped base d p) (digits_unescaped base x q)

dash_unescaped : unescaped 45 ≡ true
unfolding escaped
dash_unescaped = refl

integer_unescaped : (base : ℕ) (x : List ℕ) → integer_text base x ≡ true → each unescaped x ≡ true
integer_unescaped base [] e = refl
integer_unescaped base (c ∷ x) e = go (eqb base 10 && eqb c 45) refl e
  where
    go : (b : Bool) → eqb base 10 && eqb c 45 ≡ b → pick b (some_digits base x) (some_digits base (c ∷ x)) ≡ true
        → each unescaped (c ∷ x) ≡ true
    go true h e =
        both_true {a = unescaped c}
        (subst (λ (n : ℕ). unescaped n ≡ true) (sym (eqb-true c 45 (right_true (eqb base 10) _ h))) dash_unescaped)
        (digits_unescaped base x (right_true (ltb 0 (length x)) (all_digits base x) e))
    go false h e = digits_unescaped base (c ∷ x) (right_true (ltb 0 (length (c ∷ x))) (all_digits base (c ∷ x)) e)

-- ---- a token

-- the names, each computed
record NameLengths : Type 0 where
  identifier : length (kind_name K.Identifier) ≡ 10
  integer : length (kind_name K.Integer) ≡ 7
  string : length (kind_name K.String) ≡ 6
  assembly : length (kind_name K.InlineAssemblyFragment) ≡ 22

name_lengths : NameLengths
unfolding kind_name
name_lengths = record { identifier = refl; integer = refl; string = refl; assembly = refl }

names_tested : every (λ k. leb (length (kind_name k)) 22) 55 ≡ true
unfolding kind_name
names_tested = refl

name_short : (k : ℕ) → k ≤ K.InlineAssemblyFragment → length (kind_name k) ≤ 22
name_short k h = leb-true _ _ (every_below (λ k. leb (length (kind_name k)) 22) 55 k names_tested (omega (arith, h)))

expected_short : (k : ℕ) → is_in k expected_kinds ≡ true → length (kind_name k) ≤ 9
unfolding kind_name
expected_short k e = leb-true _ _ (is_in_each (λ k. leb (length (kind_name k)) 9) k expected_kinds e refl)

-- the base of an Integer, each computed
base_short : (b : ℕ) → base_fits K.Integer b ≡ true → length (base_part K.Integer b) ≤ 4
unfolding in_base base_part
base_short b f = either_true _ _ (either_true _ _ (at 2 (omega arith)) (at 10 (omega arith))) (at 16 (omega arith)) f
  where
    at : (n : ℕ) → length (base_part K.Integer n) ≤ 4 → eqb b n ≡ true → length (base_part K.Integer b) ≤ 4
    at n h e = subst (λ (m : ℕ). length (base_part K.Integer m) ≤ 4) (sym (eqb-true b n e)) h

spelled_length : (k : ℕ) (x : List ℕ) (b q : ℕ) → length (in_quotes x) ≤ q
    → length (spelled k x b) ≤ length (kind_name k) + (2 + (q + length (base_part k b)))
unfolding in_parentheses
spelled_length k x b q h = omega (arith, length-append (kind_name k) (in_parentheses k x b), parentheses)
  where
    parentheses : length (in_parentheses k x b) ≤ 2 + (q + length (base_part k b))
    parentheses =
        chosen (λ (bs : List ℕ). length bs ≤ 2 + (q + length (base_part k b))) (has_text k) _ _
        (λ _. omega (
          arith,
          length-append (in_quotes x ++ base_part k b) (41 ∷ []),
          length-append (in_quotes x) (base_part k b),
          h,
        ))
        (λ _. omega arith)

-- of a token of at most n bytes: inline assembly is the longest
record Spelled (n k : ℕ) (x : List ℕ) (b : ℕ) : Type 0 where
  any : length (spelled k x b) ≤ 6 * n + 2
  other : eqb k K.InlineAssemblyFragment ≡ false → length (spelled k x b) + 2 ≤ 6 * n

short_spelled : (n k : ℕ) (x : List ℕ) (b : ℕ) → length (spelled k x b) + 2 ≤ 6 * n → Spelled n k x b
short_spelled n k x b h = record { any = omega (arith, h); other = λ _. h }

token_spelled : (t : Tok) → Good t → (n : ℕ) → 9 ≤ n → width t ≤ n → Spelled n t.kind t.text t.base
unfolding base_part
token_spelled t g n l w =
    go (t is K.String) refl (t is K.InlineAssemblyFragment) refl (t is K.Identifier) refl (t is K.Integer) refl w
  where
    x : List ℕ
    x = t.text

    b : ℕ
    b = t.base

    at : (k : ℕ) → t is k ≡ true → Spelled n k x b → Spelled n t.kind x b
    at k e h = subst (λ (j : ℕ). Spelled n j x b) (sym (eqb-true t.kind k e)) h

    go : (s : Bool) → t is K.String ≡ s → (a : Bool) → t is K.InlineAssemblyFragment ≡ a
        → (i : Bool) → t is K.Identifier ≡ i → (m : Bool) → t is K.Integer ≡ m
        → pick s (2 + length x) (pick a (4 + length x) (suc (length x - 1))) ≤ n → Spelled n t.kind x b
    go true e a _ i _ m _ w =
        at K.String e
        (short_spelled n K.String x b
        (omega (arith, w, name_lengths.string, spelled_length K.String x b (6 * length x + 2) (quotes_short x))))
    go false _ true e i _ m _ w =
        at K.InlineAssemblyFragment e (record {
          any =
              omega (
                arith,
                w,
                name_lengths.assembly,
                spelled_length K.InlineAssemblyFragment x b (6 * length x + 2) (quotes_short x),
              );
          other = λ h. clash h;
        })
    go false _ false _ true e m _ w =
        at K.Identifier e
        (short_spelled n K.Identifier x b
        (omega (
          arith,
          w,
          l,
          name_lengths.identifier,
          spelled_length K.Identifier x b (4 * length x + 2)
              (quotes_unescaped x (word_unescaped x (rw e at g.lettered))),
        )))
    go false _ false _ false _ true e w =
        at K.Integer e
        (short_spelled n K.Integer x b
        (omega (
          arith,
          w,
          l,
          name_lengths.integer,
          base_short b (rw e at g.formed.base),
          spelled_length K.Integer x b (4 * length x + 2)
              (quotes_unescaped x (integer_unescaped b x (rw e at g.formed.integer))),
        )))
    go false s false a false i false m w =
        short_spelled n t.kind x b
        (rw (without_text t.kind x b (rw (i, m, s, a)))
        (omega (arith, l, length-append (kind_name t.kind) [], name_short t.kind g.formed.high)))

-- ---- a message

-- bounds of a meaning: the kind expected has at most 9 bytes, the token got g, the text c
record Within (m : Meaning) (g c : ℕ) : Type 0 where
  expected : length (kind_name m.expected) ≤ 9
  got : length (spelled m.got m.text m.base) ≤ g
  text : length m.text ≤ c

-- and so of a part, and of a message
abbrev most : ℕ → ℕ → Part → ℕ
most g c (words w) = length (ascii w)
most g c expected = 9
most g c got = g
most g c character = c

abbrev most_all : ℕ → ℕ → List Part → ℕ
most_all g c [] = 0
most_all g c (p ∷ ps) = most g c p + most_all g c ps

compose_short : (m : Meaning) (g c : ℕ) → Within m g c → (ps : List Part) → length (compose m ps) ≤ most_all g c ps
unfolding compose
compose_short m g c w [] = omega arith
compose_short m g c w (words x ∷ ps) = rw length-append (omega (arith, compose_short m g c w ps))
compose_short m g c w (expected ∷ ps) = rw length-append (omega (arith, w.expected, compose_short m g c w ps))
compose_short m g c w (got ∷ ps) =
    omega (arith, length-append (spelled m.got m.text m.base) (compose m ps), w.got, compose_short m g c w ps)
compose_short m g c w (character ∷ ps) = rw length-append (omega (arith, w.text, compose_short m g c w ps))

-- computed of each message
fits : ℕ → ℕ → List Part → Bool
unfolding ascii
fits g c ps = leb (most_all g c ps) 98333

message_short : (m : Meaning) (g c : ℕ) → Within m g c → (ps : List Part) → fits g c ps ≡ true
    → length (compose m ps) ≤ 98333
unfolding fits
message_short m g c w ps e = omega (arith, compose_short m g c w ps, leb-true (most_all g c ps) 98333 e)

-- ---- an error of the parser

in_widths : (t : Tok) (n : ℕ) (ts : List Tok) → t ∈ drop n ts → width t + n ≤ widths ts
in_widths t zero (u ∷ us) here = omega arith
in_widths t zero (u ∷ us) (there m) = omega (arith, in_widths t zero us m)
in_widths t (suc n) (u ∷ us) m = omega (arith, width_one u, in_widths t n us m)
in_widths t zero [] m = elim m [ ]
in_widths t (suc n) [] m = elim m [ ]

module _ (ts : List Tok) (g : All Good ts) (d : Distinct ts) (w : widths ts ≤ 16384) where
  -- a token with n others before it
  in_spelled : (t : Tok) (n : ℕ) → n ≤ 2 → t ∈ drop n ts → Spelled (16384 - n) t.kind t.text t.base
  in_spelled t n h m =
      token_spelled t (all_in Good t ts g (in_drop n ts m)) (16384 - n) (omega (arith, h))
      (omega (arith, w, in_widths t n ts m))

  got_short : (n k b : ℕ) (t : Tok) → length (kind_name k) ≤ 9 → t ∈ ts
      → length (spelled t.kind t.text t.base) ≤ b → fits b 16384 (message n) ≡ true
      → length (parser_sentence (parser_meaning ts (error n t.place k t.kind))) ≤ 98333
  unfolding parser_sentence
  got_short n k b t h m l f =
      subst (λ (x : Meaning). length (parser_sentence x) ≤ 98333) (got_there ts g d n k t m)
      (message_short (says n k t) b 16384 (record { expected = h; got = l; text = (all_in Good t ts g m).short })
      (message n) f)

  -- no token got
  none_short : (n k : ℕ) → length (kind_name k) ≤ 9 → fits 0 0 (message n) ≡ true
      → length (parser_sentence (says n k end_token)) ≤ 98333
  unfolding parser_sentence kind_name in_parentheses
  none_short n k h f =
      message_short (says n k end_token) 0 0 (record { expected = h; got = omega arith; text = omega arith })
      (message n) f

  -- of 16,384 bytes inline assembly is spelled with 98,306 and any other token with 98,302; after two tokens, with 98,294
  right_short : (e : Err) → Right ts e → length (parser_sentence (parser_meaning ts e)) ≤ 98333
  unfolding parser_meaning token_got parser_messages fits kind_name
  right_short e (alone n p h) =
      none_short n K.End (omega arith) (is_in_each (λ n. fits 0 0 (message n)) n naming_none h refl)
  right_short e (expecting k h) = none_short E.ExpectedAtEnd k (expected_short k h) refl
  right_short e (both k t h m) =
      got_short E.Expected k 98306 t (expected_short k h) m (in_spelled t 0 (omega arith) m).any refl
  right_short e (getting n t h m) =
      got_short n K.End 98306 t (omega arith) m (in_spelled t 0 (omega arith) m).any
      (is_in_each (λ n. fits 98306 16384 (message n)) n naming_got h refl)
  right_short e (top_level t a m) =
      got_short E.TopLevel K.End 98302 t (omega arith) m (omega (arith, (in_spelled t 0 (omega arith) m).other a)) refl
  right_short e (compound t m) =
      got_short E.Compound K.End 98294 t (omega arith) (in_drop 2 ts m) (in_spelled t 2 (omega arith) m).any refl

-- ---- a token error

encode_short : (n : ℕ) → length (encode n) ≤ 4
encode_short n =
    four (ltb n 0x80) _ _ (omega arith)
    (four (ltb n 0x800) _ _ (omega arith) (four (ltb n 0x10000) _ _ (omega arith) (omega arith)))
  where
    four : (b : Bool) (xs ys : List ℕ) → length xs ≤ 4 → length ys ≤ 4 → length (pick b xs ys) ≤ 4
    four b xs ys p q = picked (λ (zs : List ℕ). length zs ≤ 4) b xs ys (λ _. p) q

character_short : (p : Place) (cs : List Ch) → All Coded cs → length (character_at p cs) ≤ 4
unfolding character_at
character_short p [] a = omega arith
character_short p (c ∷ cs) a =
    chosen (λ (bs : List ℕ). length bs ≤ 4) (same_place p c.place) (spelling c) (character_at p cs)
    (λ _. omega (arith, encode_short (code c), ap length a.0.bytes)) (λ _. character_short p cs a.1)

token_short : (cs : List Ch) (e : Err) → All Coded cs → length (token_sentence (token_meaning cs e)) ≤ 98333
unfolding token_sentence token_meaning character_of fits kind_name in_parentheses
token_short cs e a =
    message_short (token_meaning cs e) 0 4 (record { expected = omega arith; got = omega arith; text = text })
    (get_or token_messages e.number []) (each_getD (fits 0 4) token_messages e.number [] refl refl)
  where
    text : length (character_of cs e) ≤ 4
    text =
        chosen (λ (bs : List ℕ). length bs ≤ 4) (eqb e.number TokenError.UnknownCharacter)
        (character_at e.place cs) []
        (λ _. character_short e.place cs a) (λ _. omega arith)

-- ---- a script's sentences

entry_short : (s : List ℕ) (f : Found) → examine s ≡ found f → (list j : ℕ) (e : Err)
    → get_elem? (entries f list) j ≡ some e → length (sentence_of list (meaning f list e)) ≤ 98333
unfolding characters
entry_short s f x list j e h = go (eqb list Tag.TokenError) refl
  where
    i : FoundIn s f
    i = examined s f x

    go : (b : Bool) → eqb list Tag.TokenError ≡ b → length (said_in b (meant_in b f e)) ≤ 98333
    go true c = token_short f.chars e (decode_coded start s f.chars i.chars)
    go false c =
        right_short f.toks (found_made i).good (found_made i).distinct (found_made i).width e
        (right_at i list j e c h)

-- A sentence has at most 98,333 bytes: at any position of any list, the empty one included
pub sentence_at_short : (s : List ℕ) (f : Found) → examine s ≡ found f → (list i : ℕ)
    → length (sentence_at f list i) ≤ 98333
unfolding sentence_at
sentence_at_short s f x list i = go (get_elem? (entries f list) i) refl
  where
    go : (o : Option Err) → get_elem? (entries f list) i ≡ o
        → length {A = ℕ} (elim o as (λ _. List ℕ) [ none ↦ [] | some e ↦ sentence_of list (meaning f list e) ]) ≤ 98333
    go none h = omega arith
    go (some e) h = entry_short s f x list i e h

-- so for all arguments of the operation
pub sentence_bounded : (s : List ℕ) (list i : ℕ) (o : List ℕ) → (sentence s list i o).bytes ≤ 98333
unfolding sentence
sentence_bounded s list i o = go (examine s) refl
  where
    Short : Written → Type 0
    Short w = w.bytes ≤ 98333

    go : (x : Examined) → examine s ≡ x
        → Short (elim x as (λ _. Written) [ found f ↦ said o (sentence_at f list i) | refused n ↦ kept n o ])
    go (found f) e =
        chosen Short (ltb (length o) (length (sentence_at f list i))) _ _ (λ _. omega arith)
        (λ _. sentence_at_short s f e list i)
    go (refused n) e = omega arith
