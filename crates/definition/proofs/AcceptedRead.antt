-- Accepted records: if Read answers 0, each record is valid and the parse has succeeded. The file fits into 65,536
-- bytes. Assumes nothing.
use mathlib.Core.Path.{◌≡◌, refl, sym, ap, ◌∙◌, subst}
use mathlib.Core.Bool.{Bool, true, false}
use mathlib.Core.Option.{Option, none, some}
use mathlib.Core.List.{List, [], ◌∷◌}
use Prim.Native.Nat.{ℕ, zero, suc, ◌+◌, ◌≤◌}
use native.Mathlib.Omega.{arith}
use lib.Dec.{ltb}
use lib.Dec as D
use lib.ListN.{length, length-take, drop}
use Rattle.definition.specs.Classes.{between}
use Rattle.definition.specs.Source.{Place, nowhere}
use Rattle.definition.specs.Fallible.{Err}
use Rattle.definition.specs.Token.{Tok}
use Rattle.definition.specs.Records.{TokenWords, words_at, place_of, text_end, token_of, tokens_of}
use Rattle.definition.specs.Act as A
use Rattle.definition.specs.Act.{Items, St, Res}
use Rattle.definition.specs.Losses.{parse_tokens}
use Rattle.definition.specs.Operations.{Outcome, file, refused, filled, file_bytes, read_tokens, Written, kept, written, Validated, validate, read_validated, read}
use Rattle.definition.proofs.Total.{Moves}
use Rattle.definition.proofs.Losses.{tokens_move}
use Rattle.definition.proofs.Tokens.{Kinds, texts}
use Rattle.definition.proofs.Validated.{Fits, fits, Lies, lies, First, first, errors_many, Split, split}
use Rattle.definition.proofs.Room.{Light, light_reading, file_room}

-- ---- the records passed to Read

-- n tokens, whose texts lie within the slice from byte e on
record Good (e n : ℕ) (ts : List Tok) : Type 0 where
  many : length ts ≡ n
  kinds : Kinds ts
  text : e + texts ts ≤ 16384

-- one more record before the others
good_more : (X : List ℕ) (e n : ℕ) (w : TokenWords) (us : List Tok) → Fits X w → Lies X e w → Good (text_end e w) n us
    → Good e (suc n) (token_of X w ∷ us)
good_more X e n w us f l g = record {
  many = omega (arith, g.many);
  kinds = (f.kind.0, g.kinds);
  text = omega (arith, l.up, g.text, length-take w.size (drop w.start X));
}

all_good : (T X : List ℕ) (n : ℕ) (p : Place) (e i : ℕ) (ts : List Tok) → e ≤ 16384
    → tokens_of T X p e i n ≡ some ts → Good e n ts
unfolding tokens_of
all_good T X zero p e i ts h q =
    let z : [] ≡ ts = cc in subst (Good e 0) z (record { many = refl; kinds = tt; text = omega arith })
all_good T X (suc n) p e i ts h q =
    let w : TokenWords = words_at T i in
    let a : First T X p e i n ts = first T X p e i n ts q in
    let f : Fits X w = fits X w a.alone in
    let l : Lies X e w = lies X p e w h f a.after in
    let end : ℕ = text_end e w in
    let g : Good end n a.later = all_good T X n (place_of w) end (suc i) a.later l.high a.rest in
    subst (Good e (suc n)) a.is (good_more X e n w a.later f l g)

-- the counts and limits of validated tokens and errors
pub record Sized (n : ℕ) (ts : List Tok) (es : List Err) : Type 0 where
  pub many : length ts ≡ n
  pub kinds : Kinds ts
  pub text : texts ts ≤ 16384
  pub tokens : length ts ≤ 2048
  pub errors : length es ≤ 255

-- validated records are within the limits
pub validated_sized : (T : List ℕ) (n : ℕ) (E : List ℕ) (m : ℕ) (X : List ℕ) (h : Validated) → validate T n E m X ≡ some h
    → Sized n h.tokens h.errors
validated_sized T n E m X h q =
    let s : Split T n E m X h = split T n E m X h q in
    let g : Good 0 n h.tokens = all_good T X n nowhere 0 0 h.tokens (omega arith) s.tokens in
    record {
      many = g.many;
      kinds = g.kinds;
      text = omega (arith, g.text);
      tokens = omega (arith, g.many, s.few);
      errors = omega (arith, errors_many E m 0 h.errors s.errors, s.few_errors);
    }

-- ---- acceptance

-- the tokens, errors and items of accepted records, read on a file slice o
pub record AcceptedRead (T : List ℕ) (n : ℕ) (E : List ℕ) (m : ℕ) (X o : List ℕ) : Type 0 where
  pub toks : List Tok
  pub errors : List Err
  pub given : validate T n E m X ≡ some (record { tokens = toks; errors = errors })
  pub sized : Sized n toks errors
  pub items : Items
  pub last : St
  pub parsed : parse_tokens toks ≡ A.gives items last
  pub bytes : (read T n E m X o).bytes ≡ length (file_bytes errors items last.full)
  pub file : (read T n E m X o).file ≡ filled (length o) (file_bytes errors items last.full)

module _ (T : List ℕ) (n : ℕ) (E : List ℕ) (m : ℕ) (X o : List ℕ) (z : (read T n E m X o).number ≡ 0) where
  -- the result of the operation
  abbrev Is : Written → Type 0
  Is w = read T n E m X o ≡ w

  -- a result with another number contradicts z
  other : (w : Written) → Is w → (w.number ≡ 0 → ⊥) → AcceptedRead T n E m X o
  other w h k = absurd (k (sym (ap (λ (x : Written). x.number) h) ∙ z))

  parsed : (ts : List Tok) (es : List Err) → validate T n E m X ≡ some (record { tokens = ts; errors = es })
      → (r : Res Items) → parse_tokens ts ≡ r → Moves r
      → Is (written o (elim r as (λ _. Outcome) [
        | A.gives i st ↦ file (file_bytes es i st.full)
        | A.refused k ↦ refused k
      ]))
      → AcceptedRead T n E m X o
  parsed ts es d (A.gives i st) p v h = record {
    toks = ts;
    errors = es;
    given = d;
    sized = validated_sized T n E m X _ d;
    items = i;
    last = st;
    parsed = p;
    bytes = ap (λ (x : Written). x.bytes) h;
    file = ap (λ (x : Written). x.file) h;
  }
  parsed ts es d (A.refused k) p v h = other _ h (λ e. subst (λ (k : ℕ). D.T (between 10 12 k)) e v)

  good : (ts : List Tok) (es : List Err) → validate T n E m X ≡ some (record { tokens = ts; errors = es })
      → Is (read_validated o ts es) → AcceptedRead T n E m X o
  unfolding read_tokens
  good [] es d h = other _ h (λ e. omega arith)
  good (t ∷ ts) es d h = parsed (t ∷ ts) es d (parse_tokens (t ∷ ts)) refl (tokens_move (t ∷ ts)) h

  tested : (r : Option Validated) → validate T n E m X ≡ r
      → Is (elim r as (λ _. Written) [ none ↦ kept 8 o | some h ↦ read_validated o h.tokens h.errors ])
      → AcceptedRead T n E m X o
  tested none d h = other _ h (λ e. omega arith)
  tested (some g) d h = good g.tokens g.errors d h

  wide : (b : Bool)
      → Is (elim b as (λ _. Written) [
        | true ↦ kept 3 o
        | false ↦ elim (validate T n E m X) as (λ _. Written) [
          | none ↦ kept 8 o
          | some h ↦ read_validated o h.tokens h.errors
        ]
      ])
      → AcceptedRead T n E m X o
  wide true h = other _ h (λ e. omega arith)
  wide false h = tested (validate T n E m X) refl h

  -- records with the number 0 have been validated and parsed
  pub accepted_read : AcceptedRead T n E m X o
  unfolding read
  accepted_read = wide (ltb (length o) 65536) refl

  -- the records of an accepted reading are within the limits of the file
  pub read_light : Light accepted_read.items accepted_read.last
  read_light =
      let a : AcceptedRead T n E m X o = accepted_read in
      light_reading a.toks a.sized.tokens a.sized.text a.items a.last a.parsed

  -- the file fits into 65,536 bytes
  pub read_room : (read T n E m X o).bytes ≤ 65536
  read_room =
      let a : AcceptedRead T n E m X o = accepted_read in
      rw a.bytes (file_room a.errors a.items a.last a.sized.errors read_light)
