-- What the parser knows of validated records. Assumes nothing.
use mathlib.Core.Path.{◌≡◌, refl, sym, ap, ◌∙◌, subst}
use mathlib.Core.Bool.{Bool, true, false, ◌||◌}
use mathlib.Core.List.{List, [], ◌∷◌}
use mathlib.Core.Option.{Option, none, some}
use Prim.Native.Nat.{ℕ, zero, suc, ◌+◌, ◌-◌, ◌*◌, ◌<◌, ◌≤◌}
use native.Mathlib.Numerals.{add-one}
use native.Mathlib.Omega.{arith}
use borrow.Author.Tests.{eqb-true, eq-eqb}
use lib.Dec.{eqb}
use lib.ListN.{length, drop, get_or, length-take}
use Rattle.definition.specs.Choice.{pick}
use Rattle.definition.specs.Kind as K
use Rattle.definition.specs.Source.{Place, nowhere, is_some}
use Rattle.definition.specs.Token.{Tok}
use Rattle.definition.specs.Records.{words_at, base_fits, place_of, text_end, tokens_of}
use Rattle.definition.specs.Operations.{Validated, validate}
use Rattle.definition.proofs.Tests.{either_true, clash}
use Rattle.definition.proofs.Validated.{Fits, fits, Lies, lies, First, first, split}
unfoldable use Rattle.definition.specs.Cost.{spend}
use Rattle.steps.specs.Tokens.{tok_at, from, rest, Sound, Parts}
use Rattle.steps.proofs.Records.{budget_spend}
use Rattle.validate.specs.Tested.{Tested}

-- a value that is present, by `is_some`
pub record There {A : Type 0} (o : Option A) : Type 0 where
  pub value : A
  pub is : o ≡ some value

pub there : {A : Type 0} (o : Option A) → is_some o ≡ true → There o
there none e = clash (sym e)
there (some a) e = record { value = a; is = refl }

pub absent : {A : Type 0} (o : Option A) → is_some o ≡ false → o ≡ none
absent none e = refl
absent (some a) e = clash e

-- ---- one token record

module _ (k b : ℕ) where
  integer_base : (eqb b 2 || eqb b 10 || eqb b 16) ≡ true → (0 < b) × (b ≤ 16)
  integer_base =
      either_true (eqb b 2 || eqb b 10) (eqb b 16)
      (either_true (eqb b 2) (eqb b 10) (λ z. omega (arith, eqb-true b 2 z))
      (λ z. omega (arith, eqb-true b 10 z))) (λ z. omega (arith, eqb-true b 16 z))

  base_low : base_fits k b ≡ true → b ≤ 16
  base_low e = go (eqb k K.Integer) e
    where
      go : (t : Bool) → pick t (eqb b 2 || eqb b 10 || eqb b 16) (eqb b 0) ≡ true → b ≤ 16
      go true e = (integer_base e).1
      go false e = omega (arith, eqb-true b 0 e)

  base_there : base_fits k b ≡ true → k ≡ K.Integer → 0 < b
  base_there e h = (integer_base (rw (eq-eqb k K.Integer h) at e)).0

-- a record that can be decoded, with its part in the text
record Decodes (T X : List ℕ) (i : ℕ) : Type 0 where
  sound : Sound T i
  part : get_or T (8 * i + 3) 0 + get_or T (8 * i + 4) 0 ≤ length X

sound : (T X : List ℕ) (i : ℕ) → Fits X (words_at T i) → Sound T i
sound T X i f =
    record {
      real = f.kind.0;
      kind = f.kind.1;
      line = f.line.1;
      column = f.column.1;
      base = base_low (words_at T i).kind (words_at T i).base f.base;
      based = base_there (words_at T i).kind (words_at T i).base f.base;
    }

-- ---- all token records

-- n records from index i on, where the text before ends at e
record Taken (T X : List ℕ) (e i n : ℕ) (ts : List Tok) : Type 0 where
  each : (j : ℕ) → j < n → Decodes T X (i + j)
  is : from T X i n ≡ ts
  room : e + spend ts ≤ 16 * n + 16384

taken : (T X : List ℕ) (n : ℕ) (p : Place) (e i : ℕ) (ts : List Tok) → e ≤ 16384 → tokens_of T X p e i n ≡ some ts → Taken T X e i n ts
unfolding tokens_of from spend
taken T X zero p e i ts h q = let z : [] ≡ ts = cc in record { each = λ j l. absurd (omega arith); is = z; room = rw (sym z) (omega arith) }
taken T X (suc n) p e i ts h q =
    let w = words_at T i in
    let a = first T X p e i n ts q in
    let f = fits X w a.alone in
    let l = lies X p e w h f a.after in
    more f l a (taken T X n (place_of w) (text_end e w) (suc i) a.later l.high a.rest)
  where
    more : Fits X (words_at T i) → Lies X e (words_at T i) → (a : First T X p e i n ts)
        → Taken T X (text_end e (words_at T i)) (suc i) n a.later → Taken T X e i (suc n) ts
    more f l a r =
        record {
          each = each;
          is = ap (λ (j : ℕ). tok_at T X i ∷ from T X j n) (add-one i)
              ∙ ap (λ (us : List Tok). tok_at T X i ∷ us) r.is ∙ a.is;
          room = rw (sym a.is)
              (omega (arith, length-take (words_at T i).size (drop (words_at T i).start X), l.up, r.room));
        }
      where
        each : (j : ℕ) → j < suc n → Decodes T X (i + j)
        each zero k = subst (λ (j : ℕ). Decodes T X j) (omega arith) (record { sound = sound T X i f; part = l.inside })
        each (suc j) k = subst (λ (j : ℕ). Decodes T X j) (omega arith) (r.each j (omega arith))

-- ---- all records together

-- validated records can be decoded, and their texts are within the budget
pub tested : (T : List ℕ) (n : ℕ) (E : List ℕ) (m : ℕ) (X : List ℕ) (h : Validated) → validate T n E m X ≡ some h → Tested T n E m X h
unfolding rest
tested T n E m X h q =
    let s = split T n E m X h q in
    let t = taken T X n nowhere 0 0 h.tokens (omega arith) s.tokens in
    let z : n - 0 ≡ n = omega arith in
    let each : (i : ℕ) → i < n → Decodes T X i = λ i l. subst (λ (j : ℕ). Decodes T X j) (omega arith) (t.each i l) in
    let tokens : rest T X n 0 ≡ h.tokens = rw z t.is in
    let parts : Parts T X n = record { each = λ i l. (each i l).part } in
    record {
      held = record { words = s.words; few = s.few; each = λ i l. (each i l).sound };
      parts = parts;
      tokens = tokens;
      room = rw (budget_spend 0 parts, tokens) (omega (arith, t.room));
      errors = s.errors;
      few = s.few_errors;
      words = s.error_words;
    }
