-- What is known of the records once Read has validated them: of each, of the texts, and of all together.
-- Assumes nothing.
use mathlib.Core.Path.{◌≡◌, refl, sym, ap}
use mathlib.Core.Bool.{Bool, true, false, ◌&&◌}
use mathlib.Core.Option.{Option, none, some}
use mathlib.Core.List.{List, [], ◌∷◌}
use Prim.Native.Nat.{ℕ, zero, suc, ◌+◌, ◌*◌, ◌≤◌}
use native.Mathlib.Omega.{arith}
use borrow.Author.Tests.{leb-true, eqb-true}
use lib.Dec.{eqb, leb}
use lib.ListN.{length}
use Rattle.definition.specs.Kind as K
use Rattle.definition.specs.Choice.{pick}
use Rattle.definition.specs.Classes.{between}
use Rattle.definition.specs.Source.{Place, nowhere}
use Rattle.definition.specs.Fallible.{Err}
use Rattle.definition.specs.Token.{Tok}
use Rattle.definition.specs.Records.{TokenWords, words_at, has_text, can_lose, base_fits, text_fits, comes_after, valid_alone, valid_after, place_of, text_end, token_of, token_before, tokens_of, ErrorWords, error_at, valid_error, error_of, error_before, errors_of}
use Rattle.definition.specs.Operations.{Validated, both, validate}
use Rattle.definition.proofs.Tests.{left_true, right_true, between_bounds}

pub never : {A B : Type 0} {x : A} → none ≡ some x → B
never e = let z : ◌≡◌ {A = ℕ} 0 1 = cc in absurd (omega arith)

-- an answer that is present: its test has passed
pub passed : {A : Type 0} {x : A} (b : Bool) (o : Option A)
    → ◌≡◌ {A = Option A} (elim b as (λ _. Option A) [ true ↦ o | false ↦ none ]) (some x) → (b ≡ true) × (o ≡ some x)
passed true o q = (refl, q)
passed false o q = never q

-- ---- one token record

-- the tests of a valid record, as inequalities
pub record Fits (X : List ℕ) (w : TokenWords) : Type 0 where
  pub kind : (1 ≤ w.kind) × (w.kind ≤ 54)
  pub line : (1 ≤ w.line) × (w.line ≤ 16384)
  pub column : (1 ≤ w.column) × (w.column ≤ 16384)
  pub base : base_fits w.kind w.base ≡ true
  pub text : pick (has_text w.kind) (text_fits X w) (eqb w.start 0 && eqb w.size 0) ≡ true

pub fits : (X : List ℕ) (w : TokenWords) → valid_alone X w ≡ true → Fits X w
unfolding valid_alone
fits X w g =
    let k = between K.Identifier K.InlineAssemblyFragment w.kind in
    let l = between 1 16384 w.line in
    let c = between 1 16384 w.column in
    let b = base_fits w.kind w.base in
    let x = leb w.seventh (pick (can_lose w.kind) 1 0) in
    let y = eqb w.eighth 0 in
    let z = pick (has_text w.kind) (text_fits X w) (eqb w.start 0 && eqb w.size 0) in
    let t = left_true (k && l && c && b && x && y && z) _ g in
    let s = left_true (k && l && c && b && x && y) z t in
    let e = left_true (k && l && c && b) x (left_true (k && l && c && b && x) y s) in
    let d = left_true (k && l && c) b e in
    let f = left_true (k && l) c d in
    record {
      kind = between_bounds 1 54 w.kind (left_true k l f);
      line = between_bounds 1 16384 w.line (right_true k l f);
      column = between_bounds 1 16384 w.column (right_true (k && l) c d);
      base = right_true (k && l && c) b e;
      text = right_true (k && l && c && b && x && y) z t;
    }

-- a text lies in the slice, after the end e of the text before, and ends within byte 16,384
pub record Lies (X : List ℕ) (e : ℕ) (w : TokenWords) : Type 0 where
  pub inside : w.start + w.size ≤ length X
  pub up : e + w.size ≤ text_end e w
  pub high : text_end e w ≤ 16384

pub lies : (X : List ℕ) (p : Place) (e : ℕ) (w : TokenWords) → e ≤ 16384 → Fits X w
    → valid_after p e w ≡ true → Lies X e w
lies X p e w h f g =
    let q = go (has_text w.kind) f.text (right_true (comes_after p w.line w.column) _ g) in
    record { inside = q.0; up = q.1; high = q.2 }
  where
    end : ℕ
    end = w.start + w.size

    go : (t : Bool) → pick t (text_fits X w) (eqb w.start 0 && eqb w.size 0) ≡ true
        → pick t (leb e w.start) true ≡ true
        → (end ≤ length X) × (e + w.size ≤ pick t end e) × (pick t end e ≤ 16384)
    go true a b =
        let l = left_true (leb end 16384 && leb end (length X)) _ a in (
          leb-true _ _ (right_true (leb end 16384) (leb end (length X)) l),
          omega (arith, leb-true e w.start b),
          leb-true end 16384 (left_true (leb end 16384) (leb end (length X)) l),
        )
    go false a b =
        let s = eqb-true w.start 0 (left_true (eqb w.start 0) _ a) in
        let z = eqb-true w.size 0 (right_true (eqb w.start 0) _ a) in
        (omega arith, omega arith, h)

-- ---- all token records

-- the first record is valid, and so are the others
pub record First (T X : List ℕ) (p : Place) (e i n : ℕ) (ts : List Tok) : Type 0 where
  pub alone : valid_alone X (words_at T i) ≡ true
  pub after : valid_after p e (words_at T i) ≡ true
  pub later : List Tok
  pub rest : tokens_of T X (place_of (words_at T i)) (text_end e (words_at T i)) (suc i) n ≡ some later
  pub is : token_of X (words_at T i) ∷ later ≡ ts

pub first : (T X : List ℕ) (p : Place) (e i n : ℕ) (ts : List Tok) → tokens_of T X p e i (suc n) ≡ some ts
    → First T X p e i n ts
unfolding tokens_of
first T X p e i n ts q =
    let c = passed (valid_alone X w && valid_after p e w) (token_before (token_of X w) later) q in
    those c.0 _ refl c.1
  where
    w : TokenWords
    w = words_at T i

    later : Option (List Tok)
    later = tokens_of T X (place_of w) (text_end e w) (suc i) n

    those : valid_alone X w && valid_after p e w ≡ true → (o : Option (List Tok)) → later ≡ o
        → token_before (token_of X w) o ≡ some ts → First T X p e i n ts
    those g none a b = never b
    those g (some us) a b =
        record { alone = left_true _ _ g; after = right_true (valid_alone X w) _ g; later = us; rest = a; is = cc }

-- ---- all error records

pub errors_many : (E : List ℕ) (n i : ℕ) (es : List Err) → errors_of E i n ≡ some es → length es ≡ n
unfolding errors_of
errors_many E zero i es q = let z : [] ≡ es = cc in rw (sym z)
errors_many E (suc n) i es q =
    let c = passed (valid_error w) (error_before (error_of w) (errors_of E (suc i) n)) q in
    more _ (λ vs. errors_many E n (suc i) vs) c.1
  where
    w : ErrorWords
    w = error_at E i

    more : (o : Option (List Err)) → ((vs : List Err) → o ≡ some vs → length vs ≡ n)
        → error_before (error_of w) o ≡ some es → length es ≡ suc n
    more none r b = never b
    more (some vs) r b = let z : error_of w ∷ vs ≡ es = cc in rw (sym z) (ap suc (r vs refl))

-- ---- all records together

-- the four tests of the counts
abbrev pub counted : List ℕ → ℕ → List ℕ → ℕ → Bool
counted T n E m = leb n 2048 && leb m 255 && leb (8 * n) (length T) && leb (4 * m) (length E)

-- all that validated records satisfy
pub record Split (T : List ℕ) (n : ℕ) (E : List ℕ) (m : ℕ) (X : List ℕ) (h : Validated) : Type 0 where
  pub few : n ≤ 2048
  pub few_errors : m ≤ 255
  pub words : 8 * n ≤ length T
  pub error_words : 4 * m ≤ length E
  pub tokens : tokens_of T X nowhere 0 0 n ≡ some h.tokens
  pub errors : errors_of E 0 m ≡ some h.errors

pub split : (T : List ℕ) (n : ℕ) (E : List ℕ) (m : ℕ) (X : List ℕ) (h : Validated) → validate T n E m X ≡ some h
    → Split T n E m X h
unfolding validate
split T n E m X h q =
    let c = passed (counted T n E m) (both (tokens_of T X nowhere 0 0 n) (errors_of E 0 m)) q in
    those c.0 _ _ refl refl c.1
  where
    those : counted T n E m ≡ true → (o : Option (List Tok)) (v : Option (List Err))
        → tokens_of T X nowhere 0 0 n ≡ o → errors_of E 0 m ≡ v → both o v ≡ some h → Split T n E m X h
    those c none v a b z = never z
    those c (some ts) none a b z = never z
    those c (some ts) (some es) a b z =
        let x = leb n 2048 && leb m 255 in
        let w = left_true (x && leb (8 * n) (length T)) _ c in
        let u = left_true x _ w in
        record {
          few = leb-true n 2048 (left_true (leb n 2048) _ u);
          few_errors = leb-true m 255 (right_true (leb n 2048) _ u);
          words = leb-true (8 * n) (length T) (right_true x _ w);
          error_words = leb-true (4 * m) (length E) (right_true (x && leb (8 * n) (length T)) _ c);
          tokens = cc;
          errors = cc;
        }
