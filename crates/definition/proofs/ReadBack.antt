-- Read accepts what Tokenise writes: the records of a script's tokens and token errors pass validation, and decode to
-- the same tokens and errors. Assumes nothing.
use mathlib.Core.Path.{◌≡◌, refl, sym, ap, ap₂, ◌∙◌, subst}
use mathlib.Core.Bool.{Bool, true, false, ◌&&◌}
use mathlib.Core.Option.{Option, none, some}
use mathlib.Core.List.{List, [], ◌∷◌, ◌++◌, append_assoc}
use Prim.Native.Nat.{ℕ, suc, ◌+◌, ◌*◌, ◌≤◌}
use native.Mathlib.Omega.{arith}
use borrow.Author.Tests.{le-leb}
use lib.Dec.{eqb, leb}
use lib.ListN.{length, take, drop, get_or, length-append}
use lib.Seq.{take_at, drop_at, get_or-append-add}
use Rattle.definition.specs.Choice.{pick}
use Rattle.definition.specs.Classes.{between}
use Rattle.definition.specs.Source.{Place, Ch, nowhere, utf8, characters}
use Rattle.definition.specs.Fallible.{Err}
use Rattle.definition.specs.Token.{Tok}
use Rattle.definition.specs.Records.{has_text, can_lose, token_words, tokens_words, tokens_text, errors_words, TokenWords, words_at, part, text_fits, valid_alone, valid_after, place_of, text_end, token_of, token_before, tokens_of, ErrorWords, error_at, valid_error, error_of, error_before, errors_of}
use Rattle.definition.specs.Tokenizer as Z
use Rattle.definition.specs.Tokenizer.{tokenize}
use Rattle.definition.specs.Operations.{Validated, both, validate}
use Rattle.definition.proofs.Tests.{both_true, between_true, All}
use Rattle.definition.proofs.Tokens.{Placed, Good, Fault, InOrder, texts, Made, TokensOf, script_tokens}

-- ---- records in a slice

-- word j of ws, after other words
word_after : (before ws : List ℕ) (k j : ℕ) → k ≡ length before + j → get_or (before ++ ws) k 0 ≡ get_or ws j 0
word_after before ws k j e = rw e (get_or-append-add before ws j 0)

token_after : (before ws : List ℕ) (i : ℕ) → length before ≡ 8 * i → words_at (before ++ ws) i ≡ words_at ws 0
token_after before ws i l = λ x. record {
  kind = word_after before ws (8 * i) 0 (omega arith) x;
  line = word_after before ws (8 * i + 1) 1 (omega arith) x;
  column = word_after before ws (8 * i + 2) 2 (omega arith) x;
  start = word_after before ws (8 * i + 3) 3 (omega arith) x;
  size = word_after before ws (8 * i + 4) 4 (omega arith) x;
  base = word_after before ws (8 * i + 5) 5 (omega arith) x;
  seventh = word_after before ws (8 * i + 6) 6 (omega arith) x;
  eighth = word_after before ws (8 * i + 7) 7 (omega arith) x;
}

error_after : (before ws : List ℕ) (i : ℕ) → length before ≡ 4 * i → error_at (before ++ ws) i ≡ error_at ws 0
error_after before ws i l =
    λ x. record {
      number = word_after before ws (4 * i) 0 (omega arith) x;
      line = word_after before ws (4 * i + 1) 1 (omega arith) x;
      column = word_after before ws (4 * i + 2) 2 (omega arith) x;
      fourth = word_after before ws (4 * i + 3) 3 (omega arith) x;
    }

-- regroups a list of three parts
regroup : (before xs ys rest : List ℕ) → before ++ ((xs ++ ys) ++ rest) ≡ (before ++ xs) ++ (ys ++ rest)
regroup before xs ys rest = simp append_assoc

tokens_length : (n : ℕ) (ts : List Tok) → length (tokens_words n ts) ≡ 8 * length ts
unfolding tokens_words
tokens_length n [] = refl
tokens_length n (t ∷ ts) = omega (arith, tokens_length (n + length t.text) ts)

errors_length : (es : List Err) → length (errors_words es) ≡ 4 * length es
unfolding errors_words
errors_length [] = refl
errors_length (e ∷ es) = omega (arith, errors_length es)

-- ---- one token

-- the record of a token whose text starts at n
abbrev words : ℕ → Tok → TokenWords
words n t =
    record {
      kind = t.kind;
      line = t.place.line;
      column = t.place.column;
      start = pick (has_text t.kind) n 0;
      size = length t.text;
      base = t.base;
      seventh = pick t.lost 1 0;
      eighth = 0;
    }

line_fits : (p : Place) → Placed 1 p → between 1 16384 p.line ≡ true
line_fits p h = between_true h.line_low (omega arith)

column_fits : (p : Place) → Placed 1 p → between 1 16384 p.column ≡ true
column_fits p h = between_true h.column_low (omega arith)

-- the seventh word says whether the token lost something, and fits its kind
lost_fits : (b l : Bool) → (b ≡ false → l ≡ false) → leb (pick l 1 0) (pick b 1 0) ≡ true
lost_fits true true f = refl
lost_fits true false f = refl
lost_fits false l f = rw (f refl) refl

lost_back : (l : Bool) → eqb (pick l 1 0) 1 ≡ l
lost_back true = refl
lost_back false = refl

-- a token whose text is in the text slice, after n bytes
module _ (t : Tok) (g : Good t) (text before rest : List ℕ) (n : ℕ) (e : text ≡ before ++ (t.text ++ rest))
    (l : length before ≡ n) (m : n + length t.text ≤ 16384) where
  part_is : part text (words n t) ≡ t.text
  part_is = go (has_text t.kind) g.formed.textless
    where
      go : (b : Bool) → (b ≡ false → t.text ≡ []) → take (length t.text) (drop (pick b n 0) text) ≡ t.text
      go true f = rw (e, drop_at before (t.text ++ rest) n l) (take_at t.text rest (length t.text) refl)
      go false f = rw (f refl)

  fits : pick (has_text t.kind) (text_fits text (words n t)) (eqb (words n t).start 0 && eqb (words n t).size 0) ≡ true
  fits = go (has_text t.kind) g.formed.textless
    where
      long : length text ≡ n + (length t.text + length rest)
      long = rw e (simp length-append (omega arith))

      go : (b : Bool) → (b ≡ false → t.text ≡ [])
          → pick b
          (leb (pick b n 0 + length t.text) 16384 && leb (pick b n 0 + length t.text) (length text) && utf8
          (part text (words n t))) (eqb (pick b n 0) 0 && eqb (length t.text) 0)
          ≡ true
      go true f =
          both_true
          (both_true (le-leb _ _ m) (le-leb (n + length t.text) (length text) (omega (arith, long))))
          (rw part_is g.formed.utf8)
      go false f = rw (f refl)

  alone : valid_alone text (words n t) ≡ true
  unfolding valid_alone
  alone =
      both_true (both_true (both_true (both_true (both_true
      (both_true (both_true (between_true g.formed.low g.formed.high) (line_fits t.place g.placed))
      (column_fits t.place g.placed)) g.formed.base) (lost_fits (can_lose t.kind) t.lost g.formed.losing)) refl) fits)
      (rw part_is g.formed.integer)

  token_is : token_of text (words n t) ≡ t
  token_is = λ x. record { kind = t.kind; place = t.place; text = part_is x; base = t.base; lost = lost_back t.lost x }

text_after : (t : Tok) (n e : ℕ) → e ≤ n → pick (has_text t.kind) (leb e (words n t).start) true ≡ true
text_after t n e h = go (has_text t.kind)
  where
    go : (b : Bool) → pick b (leb e (pick b n 0)) true ≡ true
    go true = le-leb e n h
    go false = refl

text_ends : (t : Tok) (n e : ℕ) → e ≤ n → text_end e (words n t) ≤ n + length t.text
text_ends t n e h = go (has_text t.kind)
  where
    go : (b : Bool) → pick b (pick b n 0 + length t.text) e ≤ n + length t.text
    go true = omega arith
    go false = omega arith

-- ---- all tokens

-- a valid record adds its token
token_step : (ws text : List ℕ) (p : Place) (e i m : ℕ) (w : TokenWords) → words_at ws i ≡ w → valid_alone text w ≡ true
    → valid_after p e w ≡ true
    → tokens_of ws text p e i (suc m)
    ≡ token_before (token_of text w) (tokens_of ws text (place_of w) (text_end e w) (suc i) m)
unfolding tokens_of
token_step ws text p e i m w q a b =
    subst
    (λ (w : TokenWords). valid_alone text w ≡ true → valid_after p e w ≡ true → tokens_of ws text p e i (suc m)
    ≡ token_before (token_of text w) (tokens_of ws text (place_of w) (text_end e w) (suc i) m)) q
    (λ a b. rw (tokens_of, both_true a b)) a b

-- Records from index i on, with texts after n bytes, decode to the tokens that were written. The token before is at
-- the place p, its text ends at e.
module _ (ws text : List ℕ) where
  tokens_back : (ts : List Tok) (p : Place) (e n i : ℕ) (before rest before' rest' : List ℕ)
      → ws ≡ before ++ (tokens_words n ts ++ rest) → length before ≡ 8 * i
      → text ≡ before' ++ (tokens_text ts ++ rest') → length before' ≡ n → e ≤ n → n + texts ts ≤ 16384
      → InOrder p ts → All Good ts
      → tokens_of ws text p e i (length ts) ≡ some ts
  unfolding tokens_of tokens_words tokens_text
  tokens_back [] p e n i before rest before' rest' w l x k h m b g = refl
  tokens_back (t ∷ ts) p e n i before rest before' rest' w l x k h m b g =
      token_step ws text p e i (length ts) (words n t)
      (ap (λ (y : List ℕ). words_at y i) w ∙ token_after before (tokens_words n (t ∷ ts) ++ rest) i l)
      (alone t g.0 text before' (tokens_text ts ++ rest') n here k (omega arith))
      (both_true b.0 (text_after t n e h))
      ∙ ap₂ token_before (token_is t g.0 text before' (tokens_text ts ++ rest') n here k (omega arith))
      (tokens_back ts t.place (text_end e (words n t)) (n + length t.text) (suc i)
      (before ++ token_words n t) rest (before' ++ t.text) rest'
      (w ∙ regroup before (token_words n t) (tokens_words (n + length t.text) ts) rest)
      (simp length-append (omega arith)) (x ∙ regroup before' t.text (tokens_text ts) rest')
      (simp length-append (omega arith)) (text_ends t n e h) (omega arith) b.1 g.1)
    where
      here : text ≡ before' ++ (t.text ++ (tokens_text ts ++ rest'))
      here = x ∙ ap (λ (y : List ℕ). before' ++ y) (append_assoc t.text (tokens_text ts) rest')

-- ---- all errors

error_step : (ws : List ℕ) (i m : ℕ) (w : ErrorWords) → error_at ws i ≡ w → valid_error w ≡ true
    → errors_of ws i (suc m) ≡ error_before (error_of w) (errors_of ws (suc i) m)
unfolding errors_of
error_step ws i m w q a =
    subst (λ (w : ErrorWords). valid_error w ≡ true → errors_of ws i (suc m) ≡ error_before (error_of w)
    (errors_of ws (suc i) m)) q (λ a. rw (errors_of, a)) a

errors_back : (ws : List ℕ) (es : List Err) (i : ℕ) (before rest : List ℕ) → ws ≡ before ++ (errors_words es ++ rest)
    → length before ≡ 4 * i → All Fault es → errors_of ws i (length es) ≡ some es
unfolding errors_of errors_words
errors_back ws [] i before rest w l f = refl
errors_back ws (e ∷ es) i before rest w l f =
    error_step ws i (length es)
    (record { number = e.number; line = e.place.line; column = e.place.column; fourth = 0 })
    (ap (λ (y : List ℕ). error_at y i) w ∙ error_after before (errors_words (e ∷ es) ++ rest) i l)
    (both_true
    (both_true (both_true (between_true f.0.low f.0.high) (line_fits e.place f.0.placed))
    (column_fits e.place f.0.placed)) refl)
    ∙ ap₂ error_before same
    (errors_back ws es (suc i) (before ++ words') rest (w ∙ regroup before words' (errors_words es) rest)
    (simp length-append (omega arith)) f.1)
  where
    words' : List ℕ
    words' = e.number ∷ e.place.line ∷ e.place.column ∷ 0 ∷ []

    same : ◌≡◌ {A = Err} (record { number = e.number; place = e.place; expected = 0; got = 0 }) e
    same = λ x. record { number = e.number; place = e.place; expected = sym f.0.expected x; got = sym f.0.got x }

-- ---- what Tokenise writes, followed by any words

made_validated : (ts : List Tok) (es : List Err) → Made ts es → (u v w : List ℕ)
    → validate (tokens_words 0 ts ++ u) (length ts) (errors_words es ++ v) (length es) (tokens_text ts ++ w)
    ≡ some (record { tokens = ts; errors = es })
unfolding validate
made_validated ts es m u v w =
    ap (λ (x : Bool). elim x as (λ _. Option Validated)
    [ true ↦ both (tokens_of ws text nowhere 0 0 (length ts)) (errors_of ws' 0 (length es)) | false ↦ none ])
    (both_true (both_true (both_true (le-leb (length ts) 2048 m.tokens) (le-leb (length es) 255 m.errors))
    (le-leb (8 * length ts) (length ws) (longer (8 * length ts) (tokens_words 0 ts) u (tokens_length 0 ts))))
    (le-leb (4 * length es) (length ws') (longer (4 * length es) (errors_words es) v (errors_length es))))
    ∙ ap₂ both
    (tokens_back ws text ts nowhere 0 0 0 [] u [] w refl refl refl refl (omega arith) (omega (arith, m.text))
    m.order m.good) (errors_back ws' es 0 [] v refl refl m.faults)
  where
    ws : List ℕ
    ws = tokens_words 0 ts ++ u

    ws' : List ℕ
    ws' = errors_words es ++ v

    text : List ℕ
    text = tokens_text ts ++ w

    longer : (k : ℕ) (xs ys : List ℕ) → length xs ≡ k → k ≤ length (xs ++ ys)
    longer k xs ys e = simp length-append (omega arith)

-- the records of a script's tokens and errors, followed by any words, decode to these tokens and errors
pub read_back : (bs : List ℕ) (cs : List Ch) (ts : List Tok) (es : List Err) → length bs ≤ 16384 → characters bs ≡ some cs
    → tokenize cs ≡ Z.tokens ts es → (u v w : List ℕ)
    → validate (tokens_words 0 ts ++ u) (length ts) (errors_words es ++ v) (length es) (tokens_text ts ++ w)
    ≡ some (record { tokens = ts; errors = es })
read_back bs cs ts es h d t u v w = made_validated ts es (subst TokensOf t (script_tokens bs cs h d)) u v w
