-- A sentence read back: the reader of specs/Understood.antt gives the meaning that it was composed of. Assumes nothing.
use mathlib.Core.Path.{◌≡◌, refl, sym, ap, ◌∙◌, subst}
use mathlib.Core.Bool.{Bool, true, false, ◌&&◌, ◌||◌, not}
use mathlib.Core.Option.{Option, none, some}
use mathlib.Core.List.{List, [], ◌∷◌, ◌++◌, map, append-nil, append_assoc}
use Prim.Native.Nat.{ℕ, zero, suc, ◌+◌, ◌*◌, ◌/◌, ◌%◌, ◌≤◌, ◌<◌}
use native.Mathlib.Omega.{arith}
use borrow.Author.Tests.{ltb-true, ltb-false, eqb-true, lt-ltb, not-true}
use lib.Dec.{eqb, ltb}
use lib.Seq.{append_snoc}
use Rattle.definition.specs.Ascii.{ascii, char}
use Rattle.definition.specs.Choice.{pick}
use Rattle.definition.specs.Classes.{between}
use Rattle.definition.specs.Kind as K
use Rattle.definition.specs.TokenError as TokenError
use Rattle.definition.specs.Source as Source
use Rattle.definition.specs.Source.{nowhere, Ch, characters, is_some, utf8}
use Rattle.definition.specs.Token.{Tok, tok, end_token, digit}
use Rattle.definition.specs.Records.{has_text, base_fits}
use Rattle.definition.specs.Sentence.{kind_name, digit_char, digits_in, in_base, escaped, escaped_all, in_quotes, base_part, in_parentheses, spelled, Meaning, Part, words, expected, got, character, compose, token_sentence, parser_sentence}
use Rattle.definition.specs.Understood.{encode, is_capital, is_alphabetic, kind_of, Piece, word, named, plain, code, in_words, in_name, before_text, in_text, after_text, read, words_alone, wording, number_of, names, completed, telling, message, numbered, understood, understood_token}
use Rattle.definition.proofs.Tests.{clash, parts_true, either_true, between_bounds, chosen, every, every_below}
use Rattle.definition.proofs.Characters.{encode_all, encoded}
use Rattle.definition.proofs.Formed.{Formed}

-- ---- facts of the tables, each computed

-- a digit is read as its value, and is not the brace that ends a number
abbrev digit_test : ℕ → Bool
digit_test d = eqb (digit (digit_char d)) d && not (eqb (digit_char d) (char "}"))

digit_facts : (d : ℕ) → d < 16 → (digit (digit_char d) ≡ d) × (eqb (digit_char d) 125 ≡ false)
digit_facts d h =
    parts_true (eqb (digit (digit_char d)) d) (not (eqb (digit_char d) 125)) (every_below digit_test 16 d refl h)
    λ p q. (eqb-true _ _ p, not-true _ q)

-- the name of a kind: a capital, then letters
abbrev all_alphabetic : List ℕ → Bool
all_alphabetic [] = true
all_alphabetic (c ∷ cs) = is_alphabetic c && all_alphabetic cs

abbrev is_name : List ℕ → Bool
is_name [] = false
is_name (c ∷ cs) = is_capital c && all_alphabetic cs

kind_test : ℕ → Bool
unfolding kind_name kind_of
kind_test k = is_name (kind_name (suc k)) && eqb (kind_of (kind_name (suc k))) (suc k)

kinds_tested : every kind_test K.InlineAssemblyFragment ≡ true
unfolding kind_test
kinds_tested = refl

record KindName (k : ℕ) : Type 0 where
  name : is_name (kind_name k) ≡ true
  kind : kind_of (kind_name k) ≡ k

-- a kind of a token
pub record IsKind (k : ℕ) : Type 0 where
  pub low : K.Identifier ≤ k
  pub high : k ≤ K.InlineAssemblyFragment

kind_facts : (k : ℕ) → IsKind k → KindName k
unfolding kind_test
kind_facts zero h = absurd (omega (arith, h.low))
kind_facts (suc k) h =
    parts_true (is_name (kind_name (suc k))) (eqb (kind_of (kind_name (suc k))) (suc k))
    (every_below kind_test K.InlineAssemblyFragment k kinds_tested (omega (arith, h.high)))
    λ p q. record { name = p; kind = eqb-true _ _ q }

-- ---- names

read_letters : (w xs rest : List ℕ) → all_alphabetic xs ≡ true
    → read (in_name w) (xs ++ rest) ≡ read (in_name (w ++ xs)) rest
unfolding read
read_letters w [] rest e = rw append-nil
read_letters w (x ∷ xs) rest e =
    parts_true (is_alphabetic x) (all_alphabetic xs) e
    λ p q. rw (read, p)
    (read_letters (w ++ (x ∷ [])) xs rest q ∙ ap (λ (v : List ℕ). read (in_name v) rest) (append_snoc w x xs))

read_name : (xs rest : List ℕ) → is_name xs ≡ true → read in_words (xs ++ rest) ≡ read (in_name xs) rest
unfolding read
read_name [] rest e = clash (sym e)
read_name (x ∷ xs) rest e =
    parts_true (is_capital x) (all_alphabetic xs) e λ p q. rw (read, p) (read_letters (x ∷ []) xs rest q)

-- what may follow a kind without text: the end, or neither a letter nor a parenthesis
abbrev Stops : List ℕ → Type 0
Stops [] = Unit {0}
Stops (b ∷ bs) = (is_alphabetic b ≡ false) × (eqb b 40 ≡ false)

no_capital : (b : ℕ) → is_alphabetic b ≡ false → is_capital b ≡ false
no_capital b e = go (is_capital b) e
  where
    go : (x : Bool) → x || between 97 122 b ≡ false → x ≡ false
    go true e = e
    go false e = refl

read_stop : (w rest : List ℕ) → Stops rest → read (in_name w) rest ≡ named (kind_of w) [] 0 ∷ read in_words rest
unfolding read
read_stop w [] s = refl
read_stop w (b ∷ bs) s = rw (read, s.0, s.1, no_capital b s.0)

read_kind : (k : ℕ) (rest : List ℕ) → IsKind k → Stops rest
    → read in_words (kind_name k ++ rest) ≡ named k [] 0 ∷ read in_words rest
read_kind k rest h s =
    let f = kind_facts k h in
    read_name (kind_name k) rest f.name ∙ read_stop (kind_name k) rest s
    ∙ ap (λ (n : ℕ). named n [] 0 ∷ read in_words rest) f.kind

-- ---- texts

module _ (k : ℕ) (x : List ℕ) (rest : List ℕ) where
  read_digit : (n d : ℕ) → d < 16
      → read (in_text k x (code n)) (digit_char d ∷ rest) ≡ read (in_text k x (code (n * 16 + d))) rest
  unfolding read
  read_digit n d h = rw (read, (digit_facts d h).1, (digit_facts d h).0)

read_digits : (k : ℕ) (x : List ℕ) (f n : ℕ) (rest : List ℕ) → n < f
    → read (in_text k x (code 0)) (digits_in 16 f n ++ rest) ≡ read (in_text k x (code n)) rest
unfolding digits_in
read_digits k x zero n rest h = absurd (omega arith)
read_digits k x (suc f) n rest h =
    chosen (λ (ds : List ℕ). read (in_text k x (code 0)) (ds ++ rest) ≡ read (in_text k x (code n)) rest) (ltb n 16) _ _
    (λ e. read_digit k x rest 0 n (ltb-true n 16 e) ∙ ap (λ (m : ℕ). read (in_text k x (code m)) rest) (omega arith))
    (λ e. let g : 16 ≤ n = ltb-false n 16 e in
    ap (read (in_text k x (code 0))) (append_snoc (digits_in 16 f (n / 16)) (digit_char (n % 16)) rest)
    ∙ read_digits k x f (n / 16) (digit_char (n % 16) ∷ rest) (omega arith)
    ∙ read_digit k x rest (n / 16) (n % 16) (omega arith)
    ∙ ap (λ (m : ℕ). read (in_text k x (code m)) rest) (omega arith))

-- one character
module _ (k : ℕ) (x : List ℕ) (n : ℕ) (rest : List ℕ) where
  -- the bytes are read as the character with the number m
  abbrev Reads : ℕ → List ℕ → Type 0
  Reads m bs = read (in_text k x plain) (bs ++ rest) ≡ read (in_text k (x ++ encode m) plain) rest

  tested : (b : Bool) (ys zs : List ℕ) → (b ≡ true → Reads n ys) → (b ≡ false → Reads n zs) → Reads n (pick b ys zs)
  tested true ys zs f g = f refl
  tested false ys zs f g = g refl

  reads_hexadecimal : Reads n (92 ∷ 117 ∷ 123 ∷ in_base 16 n ++ (125 ∷ []))
  unfolding read in_base
  reads_hexadecimal =
      ap (read (in_text k x (code 0))) (append_snoc (in_base 16 n) 125 rest)
      ∙ read_digits k x (suc n) n (125 ∷ rest) (omega arith)

  reads_escaped : Reads n (escaped n)
  unfolding escaped read
  reads_escaped =
      tested (eqb n 34) _ _ (λ e. at 34 e (92 ∷ 34 ∷ []) refl)
      λ q. tested (eqb n 92) _ _ (λ e. at 92 e (92 ∷ 92 ∷ []) refl)
      λ s. tested (eqb n 10) _ _ (λ e. at 10 e (92 ∷ 110 ∷ []) refl)
      λ _. tested (eqb n 13) _ _ (λ e. at 13 e (92 ∷ 114 ∷ []) refl)
      λ _. tested (eqb n 9) _ _ (λ e. at 9 e (92 ∷ 116 ∷ []) refl)
      λ _. tested (between 32 126 n) _ _
      (λ e. let b = between_bounds 32 126 n e in rw (read, q, s, lt-ltb n 128 (omega arith)))
      λ _. reads_hexadecimal
    where
      at : (m : ℕ) → eqb n m ≡ true → (bs : List ℕ) → Reads m bs → Reads n bs
      at m e bs h = subst (λ (j : ℕ). Reads j bs) (sym (eqb-true n m e)) h

-- all characters
read_text : (k : ℕ) (x : List ℕ) (cs : List Ch) (rest : List ℕ)
    → read (in_text k x plain) (escaped_all cs ++ rest) ≡ read (in_text k (x ++ encode_all cs) plain) rest
unfolding escaped_all
read_text k x [] rest = rw append-nil
read_text k x (c ∷ cs) rest =
    let n = Source.code c in
    ap (read (in_text k x plain)) (append_assoc (escaped n) (escaped_all cs) rest)
    ∙ reads_escaped k x n (escaped_all cs ++ rest) ∙ read_text k (x ++ encode n) cs rest
    ∙ ap (λ (y : List ℕ). read (in_text k y plain) rest) (append_assoc x (encode n) (encode_all cs))

read_base : (k : ℕ) (x : List ℕ) (b : ℕ) (rest : List ℕ) → base_fits k b ≡ true
    → read (after_text k x 0) (base_part k b ++ (41 ∷ rest)) ≡ named k x b ∷ read in_words rest
unfolding read in_base base_part
read_base k x b rest f = go (eqb k K.Integer) f
  where
    P : Bool → ℕ → Type 0
    P i n =
        read (after_text k x 0) (elim i as (λ _. List ℕ) [ true ↦ ascii ", " ++ in_base 10 n | false ↦ [] ] ++ (41 ∷ rest))
        ≡ named k x n ∷ read in_words rest

    at : (i : Bool) (n : ℕ) → P i n → eqb b n ≡ true → P i b
    at i n h e = subst (P i) (sym (eqb-true b n e)) h

    go : (i : Bool) → pick i (eqb b 2 || eqb b 10 || eqb b 16) (eqb b 0) ≡ true → P i b
    go true f = either_true _ _ (either_true _ _ (at true 2 refl) (at true 10 refl)) (at true 16 refl) f
    go false f = at false 0 refl f

-- ---- a token

-- read with all that it has
abbrev ReadAs : Tok → List ℕ → Type 0
ReadAs t rest =
    read in_words (spelled t.kind t.text t.base ++ rest)
    ≡ named t.kind t.text t.base ∷ read in_words rest

regroup : (xs ys zs : List ℕ) → ((xs ++ (34 ∷ [])) ++ ys) ++ zs ≡ xs ++ (34 ∷ ys ++ zs)
regroup xs ys zs = simp append_assoc

with_text : (k : ℕ) (x : List ℕ) (b : ℕ) (cs : List Ch) → has_text k ≡ true → characters x ≡ some cs
    → in_parentheses k x b ≡ 40 ∷ 34 ∷ escaped_all cs ++ (34 ∷ base_part k b ++ (41 ∷ []))
unfolding in_parentheses in_quotes
with_text k x b cs h c =
    rw (in_parentheses, h, in_quotes, c)
    (ap (λ (r : List ℕ). 40 ∷ 34 ∷ r) (regroup (escaped_all cs) (base_part k b) (41 ∷ [])))

is_kind : {t : Tok} → Formed t → IsKind t.kind
is_kind f = record { low = f.low; high = f.high }

read_with_text : (t : Tok) (cs : List Ch) (rest : List ℕ) → Formed t → has_text t.kind ≡ true
    → characters t.text ≡ some cs → ReadAs t rest
unfolding read
read_with_text t cs rest f h c =
    let n = kind_facts t.kind (is_kind f) in
    let after = 34 ∷ base_part t.kind t.base ++ (41 ∷ rest) in
    let e : spelled t.kind t.text t.base ++ rest ≡ kind_name t.kind ++ (40 ∷ 34 ∷ escaped_all cs ++ after) =
    rw (with_text t.kind t.text t.base cs h c) (simp append_assoc) in
    ap (read in_words) e ∙ read_name (kind_name t.kind) (40 ∷ 34 ∷ escaped_all cs ++ after) n.name
    ∙ ap (λ (k : ℕ). read (before_text k) (34 ∷ escaped_all cs ++ after)) n.kind
    ∙ read_text t.kind [] cs after
    ∙ ap (λ (x : List ℕ). read (in_text t.kind x plain) after) (encoded t.text cs c)
    ∙ read_base t.kind t.text t.base rest f.base

pub without_text : (k : ℕ) (x : List ℕ) (b : ℕ) → has_text k ≡ false → in_parentheses k x b ≡ []
unfolding in_parentheses
without_text k x b h = rw (in_parentheses, h)

no_base : (k b : ℕ) → has_text k ≡ false → base_fits k b ≡ true → b ≡ 0
no_base k b h f =
    eqb-true b 0
    (rw (second (eqb k K.Identifier) (eqb k K.Integer) (eqb k K.String) (eqb k K.InlineAssemblyFragment) h) at f)
  where
    second : (w x y z : Bool) → w || x || y || z ≡ false → x ≡ false
    second true x y z e = clash e
    second false true y z e = e
    second false false y z e = refl

read_without_text : (t : Tok) (rest : List ℕ) → Formed t → Stops rest → has_text t.kind ≡ false → ReadAs t rest
read_without_text t rest f s h =
    rw (
      without_text t.kind t.text t.base h,
      f.textless h,
      no_base t.kind t.base h f.base,
      append-nil,
    )
    (read_kind t.kind rest (is_kind f) s)

read_spelled : (t : Tok) (rest : List ℕ) → Formed t → Stops rest → ReadAs t rest
unfolding utf8
read_spelled t rest f s = go (has_text t.kind) refl (characters t.text) refl f.utf8
  where
    go : (h : Bool) → has_text t.kind ≡ h → (o : Option (List Ch)) → characters t.text ≡ o → is_some o ≡ true
        → ReadAs t rest
    go true h none c u = clash (sym u)
    go true h (some cs) c u = read_with_text t cs rest f h c
    go false h o c u = read_without_text t rest f s h

-- ---- a message

-- its pieces
abbrev pieces : Meaning → List Part → List Piece
pieces m [] = []
pieces m (words w ∷ ps) = map word (ascii w) ++ pieces m ps
pieces m (expected ∷ ps) = named m.expected [] 0 ∷ pieces m ps
pieces m (got ∷ ps) = named m.got m.text m.base ∷ pieces m ps
pieces m (character ∷ ps) = pieces m ps

-- no capital in its words, and after a kind nothing that could belong to it
abbrev pub no_capitals : List ℕ → Bool
no_capitals [] = true
no_capitals (b ∷ bs) = not (is_capital b) && no_capitals bs

abbrev pub begins_apart : List ℕ → Bool
begins_apart [] = false
begins_apart (b ∷ bs) = not (is_alphabetic b) && not (eqb b 40)

abbrev pub apart : List Part → Bool
apart [] = true
apart (words w ∷ ps) = begins_apart (ascii w)
apart (expected ∷ ps) = false
apart (got ∷ ps) = false
apart (character ∷ ps) = false

abbrev pub readable : List Part → Bool
readable [] = true
readable (words w ∷ ps) = no_capitals (ascii w) && readable ps
readable (expected ∷ ps) = apart ps && readable ps
readable (got ∷ ps) = apart ps && readable ps
readable (character ∷ ps) = false

-- the token got, at no place
abbrev token_of : Meaning → Tok
token_of m = tok m.got nowhere m.text m.base

unplaced : {t : Tok} → Formed t → Formed (tok t.kind nowhere t.text t.base)
unplaced f =
    record { low = f.low; high = f.high; base = f.base; textless = f.textless; losing = λ _. refl; utf8 = f.utf8; integer = f.integer }

-- the kinds that a message names are kinds of tokens
abbrev Fits : Meaning → List Part → Type 0
Fits m [] = Unit {0}
Fits m (words w ∷ ps) = Fits m ps
Fits m (expected ∷ ps) = IsKind m.expected × Fits m ps
Fits m (got ∷ ps) = Formed (token_of m) × Fits m ps
Fits m (character ∷ ps) = Unit {0}

apart_stops : (m : Meaning) (ps : List Part) → apart ps ≡ true → Stops (compose m ps)
unfolding compose
apart_stops m [] e = tt
apart_stops m (words w ∷ ps) e = go (ascii w) e
  where
    go : (bs : List ℕ) → begins_apart bs ≡ true → Stops (bs ++ compose m ps)
    go [] e = clash (sym e)
    go (b ∷ bs) e = parts_true (not (is_alphabetic b)) (not (eqb b 40)) e λ p q. (not-true _ p, not-true _ q)
apart_stops m (expected ∷ ps) e = clash (sym e)
apart_stops m (got ∷ ps) e = clash (sym e)
apart_stops m (character ∷ ps) e = clash (sym e)

read_words : (bs rest : List ℕ) → no_capitals bs ≡ true → read in_words (bs ++ rest) ≡ map word bs ++ read in_words rest
unfolding read
read_words [] rest e = refl
read_words (b ∷ bs) rest e =
    parts_true (not (is_capital b)) (no_capitals bs) e
    λ p q. rw (read, not-true (is_capital b) p) (ap (λ (ps : List Piece). word b ∷ ps) (read_words bs rest q))

read_message : (m : Meaning) (ps : List Part) → readable ps ≡ true → Fits m (names ps)
    → read in_words (compose m ps) ≡ pieces m ps
unfolding compose names read
read_message m [] e f = refl
read_message m (words w ∷ ps) e f =
    parts_true (no_capitals (ascii w)) (readable ps) e
    λ p q. read_words (ascii w) (compose m ps) p
    ∙ ap (λ (xs : List Piece). map word (ascii w) ++ xs) (read_message m ps q f)
read_message m (expected ∷ ps) e f =
    parts_true (apart ps) (readable ps) e
    λ p q. read_kind m.expected (compose m ps) f.0 (apart_stops m ps p)
    ∙ ap (λ (xs : List Piece). named m.expected [] 0 ∷ xs) (read_message m ps q f.1)
read_message m (got ∷ ps) e f =
    parts_true (apart ps) (readable ps) e
    λ p q. read_spelled (token_of m) (compose m ps) f.0 (apart_stops m ps p)
    ∙ ap (λ (xs : List Piece). named m.got m.text m.base ∷ xs) (read_message m ps q f.1)
read_message m (character ∷ ps) e f = clash (sym e)

-- the words give the number
words_of_words : (bs : List ℕ) (ps : List Piece) → words_alone (map word bs ++ ps) ≡ bs ++ words_alone ps
words_of_words [] ps = refl
words_of_words (b ∷ bs) ps = ap (λ (xs : List ℕ). b ∷ xs) (words_of_words bs ps)

words_of_message : (m : Meaning) (ps : List Part) → words_alone (pieces m ps) ≡ wording ps
unfolding wording
words_of_message m [] = refl
words_of_message m (words w ∷ ps) =
    words_of_words (ascii w) (pieces m ps) ∙ ap (λ (xs : List ℕ). ascii w ++ xs) (words_of_message m ps)
words_of_message m (expected ∷ ps) = ap (λ (xs : List ℕ). 0 ∷ xs) (words_of_message m ps)
words_of_message m (got ∷ ps) = ap (λ (xs : List ℕ). 0 ∷ xs) (words_of_message m ps)
words_of_message m (character ∷ ps) = words_of_message m ps

-- the kinds give the rest
abbrev with_expected : Meaning → ℕ → Meaning
with_expected m k = record { number = m.number; expected = k; got = m.got; text = m.text; base = m.base }

abbrev with_got : Meaning → Meaning → Meaning
with_got m n = record { number = m.number; expected = m.expected; got = n.got; text = n.text; base = n.base }

-- the meaning m, with what a message names of the meaning n
abbrev taken : Meaning → Meaning → List Part → Meaning
taken m n [] = m
taken m n (words w ∷ ps) = taken m n ps
taken m n (expected ∷ ps) = taken (with_expected m n.expected) n ps
taken m n (got ∷ ps) = taken (with_got m n) n ps
taken m n (character ∷ ps) = taken m n ps

completed_words : (m : Meaning) (ns : List Part) (bs : List ℕ) (ps : List Piece)
    → completed m ns (map word bs ++ ps) ≡ completed m ns ps
unfolding completed
completed_words m [] bs ps = refl
completed_words m (n ∷ ns) [] ps = refl
completed_words m (n ∷ ns) (b ∷ bs) ps = completed_words m (n ∷ ns) bs ps

completed_message : (m n : Meaning) (ps : List Part) → completed m (names ps) (pieces n ps) ≡ taken m n (names ps)
unfolding completed names
completed_message m n [] = refl
completed_message m n (words w ∷ ps) = completed_words m (names ps) (ascii w) (pieces n ps) ∙ completed_message m n ps
completed_message m n (expected ∷ ps) = completed_message (with_expected m n.expected) n ps
completed_message m n (got ∷ ps) = completed_message (with_got m n) n ps
completed_message m n (character ∷ ps) = completed_message m n ps

-- ---- errors of the parser

-- what is computed of the message with a number: it can be read, by its words alone it is this one, and it names ps
pub record Worded (n : ℕ) (ps : List Part) : Type 0 where
  pub readable : readable (message n) ≡ true
  pub number : number_of (wording (message n)) ≡ n
  pub names : names (message n) ≡ ps

as_taken : (m : Meaning) (ps : List Part) → Worded m.number ps → Fits m ps
    → understood (parser_sentence m) ≡ taken (telling m.number []) m ps
unfolding understood parser_sentence
as_taken m ns w f =
    let ps = message m.number in
    let e : number_of (words_alone (pieces m ps)) ≡ m.number = ap number_of (words_of_message m ps) ∙ w.number in
    ap (λ (qs : List Piece). numbered (number_of (words_alone qs)) qs)
    (read_message m ps w.readable (subst (Fits m) (sym w.names) f))
    ∙ ap (λ (k : ℕ). numbered k (pieces m ps)) e ∙ completed_message (telling m.number []) m ps
    ∙ ap (taken (telling m.number []) m) w.names

-- a number, a kind expected and a token got
abbrev pub says : ℕ → ℕ → Tok → Meaning
says n k t = record { number = n; expected = k; got = t.kind; text = t.text; base = t.base }

-- The meanings that occur in the lists 60 and 61: the message names a kind expected, a token got, both or neither, and
-- the meaning has no other
pub data Occurs : Meaning → Type 0 where
  neither : (n : ℕ) → Worded n [] → Occurs (says n K.End end_token)
  expects : (n k : ℕ) → Worded n (expected ∷ []) → IsKind k → Occurs (says n k end_token)
  gets : (n : ℕ) (t : Tok) → Worded n (got ∷ []) → Formed t → Occurs (says n K.End t)
  both : (n k : ℕ) (t : Tok) → Worded n (expected ∷ got ∷ []) → IsKind k → Formed t → Occurs (says n k t)

-- a sentence read back is what was said
pub understands : (m : Meaning) → Occurs m → understood (parser_sentence m) ≡ m
understands m (neither n w) = as_taken m _ w tt
understands m (expects n k w h) = as_taken m _ w (h, tt)
understands m (gets n t w f) = as_taken m _ w (unplaced f, tt)
understands m (both n k t w h f) = as_taken m _ w (h, (unplaced f, tt))

-- ---- token errors

-- The meanings that occur in the list 62: with the number 4 any character
pub data OccursToken : Meaning → Type 0 where
  told : (n : ℕ) → TokenError.UnknownEscape ≤ n → n ≤ TokenError.NoAssembly → OccursToken (telling n [])
  shown : (c : List ℕ) → OccursToken (telling TokenError.UnknownCharacter c)

pub understands_token : (m : Meaning) → OccursToken m → understood_token (token_sentence m) ≡ m
unfolding understood_token token_sentence
understands_token m (told n l h) = one_of_three n l h
  where
    one_of_three : (n : ℕ) → 1 ≤ n → n ≤ 3 → understood_token (token_sentence (telling n [])) ≡ telling n []
    one_of_three zero l h = absurd (omega arith)
    one_of_three (suc zero) l h = refl
    one_of_three (suc (suc zero)) l h = refl
    one_of_three (suc (suc (suc zero))) l h = refl
    one_of_three (suc (suc (suc (suc n)))) l h = absurd (omega arith)
understands_token m (shown c) = ap (telling TokenError.UnknownCharacter) (append-nil c)
