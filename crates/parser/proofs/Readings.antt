-- The answers of Read are those of the definition: one law for each return of the functions. Assumes nothing.
use mathlib.Core.Path.{◌≡◌, refl, sym, ap, ap₂, ◌∙◌}
use mathlib.Core.Bool.{Bool, true, false}
use mathlib.Core.Option.{Option, none, some}
use mathlib.Core.List.{List, [], ◌∷◌, map}
use Prim.Native.Nat.{ℕ, ◌*◌, ◌-◌, ◌/◌, ◌≤◌, ◌<◌}
use native.Mathlib.Omega.{arith}
use lib.Dec.{ltb}
use lib.ListN.{length, take}
use borrow.Author.Tests.{lt-ltb, le-ltb}
use Rattle.std.specs.Simd.{first_chunks}
use Rattle.std.specs.Prelude.{Result, Ok, Err}
use Rattle.definition.specs.declared.refusal.Refusal.{Refusal}
use Rattle.definition.specs.Numbers.{refusal_number}
use Rattle.definition.specs.Source.{is_some}
use Rattle.definition.specs.Fallible as F
use Rattle.definition.specs.Token.{Tok}
use Rattle.definition.specs.Operations as O
use Rattle.definition.specs.Operations.{filled, file_bytes}
use Rattle.definition.specs.Act.{Items, St, Res, gives, refused}
use Rattle.definition.specs.Losses.{parse_tokens}
use Rattle.fallible.specs.declared.error.Error.{Error}
use Rattle.fallible.specs.declared.parser.State.{State}
use Rattle.fallible.specs.Lists.{errs}
use Rattle.slices.specs.Cleared.{Cleared}
use Rattle.slices.proofs.Clearing.{cleared_filled}
use Rattle.steps.specs.Tokens.{rest, Held}
use Rattle.steps.specs.Shows.{Asked}
use Rattle.steps.proofs.Records.{rest_cons, rest_nil}
use Rattle.token_records.proofs.Chunks.{chunks_length, chunks_part}
use Rattle.validate.specs.Tested.{Tested}
use Rattle.validate.proofs.Accepted.{There, there, absent, tested}
use Rattle.error_fields.specs.Errors.{recorded}
use Rattle.error_fields.proofs.Records.{recorded_is, records_are}
use Rattle.parser.specs.Answer.{answer, tree_file, RestWritten, Bounded}
use Rattle.parser.specs.Losses.{Parsed}

-- ---- the definition's answer for at least one token

-- the outcome of a parse
outcome : List F.Err → Res Items → O.Outcome
outcome es (gives i S) = O.file (file_bytes es i S.full)
outcome es (refused n) = O.refused n

opened : (o : List ℕ) (ts : List Tok) (es : List F.Err) → 0 < length ts → O.read_validated o ts es ≡ O.written o (outcome es (parse_tokens ts))
unfolding O.read_tokens outcome
opened o [] es h = absurd (omega arith)
opened o (t ∷ ts) es h = one (parse_tokens (t ∷ ts))
  where
    one : (r : Res Items)
        → O.written o
        (elim r as (λ _. O.Outcome) [ gives i S ↦ O.file (file_bytes es i S.full) | refused n ↦ O.refused n ])
        ≡ O.written o (outcome es r)
    one (gives i S) = refl
    one (refused n) = refl

written_of : (o : List ℕ) (ts : List Tok) (es : List F.Err) (i : Items) (S : St) → 0 < length ts
    → parse_tokens ts ≡ gives i S
    → O.read_validated o ts es
    ≡ record {
      number = 0;
      bytes = length (file_bytes es i S.full);
      file = filled (length o) (file_bytes es i S.full);
    }
unfolding outcome
written_of o ts es i S h e = opened o ts es h ∙ ap (λ (r : Res Items). O.written o (outcome es r)) e

none_of : (o : List ℕ) (ts : List Tok) (es : List F.Err) (n : ℕ) → 0 < length ts → parse_tokens ts ≡ refused n
    → O.read_validated o ts es ≡ record { number = n; bytes = 0; file = filled (length o) [] }
unfolding outcome
none_of o ts es n h e = opened o ts es h ∙ ap (λ (r : Res Items). O.written o (outcome es r)) e

some_tokens : (w x : List ℕ) (n : ℕ) → 0 < n → 0 < length (rest w x n 0)
some_tokens w x n h = rw (rest_cons w x n 0 h) (omega arith)

-- files of equal parts are equal
same_file : {A A' : List ℕ} {c c' : ℕ} {r r' f f' : List F.Err} (es : List F.Err) → A ≡ A' → c ≡ c' → r ≡ r' → f ≡ f'
    → tree_file A c es r f ≡ tree_file A' c' es r' f'
same_file es p q s t = rw (p, q, s, t)

-- ---- `read_tokens`

module _ (T X : List ℕ) (n m : ℕ) (h : Held T n) (q : Bounded T n m) where
  -- what `module` requires
  pub module_asked : {o : List ℕ} {r f : List Error} → 65536 ≤ length o → 256 ≤ length r → 256 ≤ length f
      → Asked T n o r f (record { at = 0; pos = 0; reported = 0; full = 0 })
  module_asked lo lr lf =
      record {
        asks = record { at = omega arith; reported = omega arith; few = omega arith; reps = lr; fulls = lf };
        room = omega (arith, lo, q.room, h.few);
      }

module _ (T X : List ℕ) (n : ℕ) (es : List F.Err) (o : List ℕ) {o1 : List ℕ} (some_n : 0 < n) (l : length o1 ≡ length o) where
  pub read_refused : {o2 : List ℕ} (m : Refusal) → parse_tokens (rest T X n 0) ≡ refused (refusal_number m) → Cleared o1 0 o2
      → answer (Err m) o2 ≡ O.read_validated o (rest T X n 0) es
  read_refused {o2} m z C =
      ap (λ (f : List ℕ). answer (Err m) f) (cleared_filled o 0 [] C refl l (omega arith))
      ∙ sym (none_of o (rest T X n 0) es (refusal_number m) (some_tokens T X n some_n) z)

  pub read_done : {r1 f1 : List Error} {s : State} {k : ℕ} {o2 : List ℕ} {b : ℕ} → Parsed T X n o1 r1 f1 s k
      → RestWritten o1 s.pos k es r1 s.reported f1 s.full o2 b
      → answer (Ok b) o2 ≡ O.read_validated o (rest T X n 0) es
  unfolding file_bytes
  read_done {r1} {f1} {s} {k} {o2} {b} g C =
      let ws : tree_file (take s.pos o1) k es (errs r1 s.reported) (errs f1 s.full) ≡ file_bytes es g.tree g.state.full =
      same_file es g.recs (sym g.count) g.reported (sym g.full) in
      let bytes : b ≡ length (file_bytes es g.tree g.state.full) = C.end ∙ ap length ws in
      let file : o2 ≡ filled (length o) (file_bytes es g.tree g.state.full) = C.is
      ∙ ap (λ (v : List ℕ). filled (length o1) v) ws ∙ ap
      (λ (i : ℕ). filled i (file_bytes es g.tree g.state.full)) l in
      rw (bytes, file) (sym (written_of o (rest T X n 0) es g.tree g.state (some_tokens T X n some_n) g.is))

-- ---- `read`

-- the first m of the records in a slice
module _ (E : List ℕ) (m : ℕ) {cs : List (List ℕ)} (e : cs ≡ first_chunks 4 (length E / 4) E) (h : 4 * m ≤ length E) where
  pub records_part : take m cs ≡ first_chunks 4 m E
  records_part = chunks_part 4 m (length E / 4) E e (omega arith) (let z : m ≡ m - 0 = omega arith in ap (λ k. take k cs) z)

  pub records_length : length (take m cs) ≡ m
  records_length = ap length records_part ∙ chunks_length 4 m E

-- Read by the tests of the file slice and of the records
tested_by : Bool → Option O.Validated → List ℕ → O.Written
tested_by true x o = O.kept 3 o
tested_by false none o = O.kept 8 o
tested_by false (some h) o = O.read_validated o h.tokens h.errors

module _ (T : List ℕ) (n : ℕ) (E : List ℕ) (m : ℕ) (X o : List ℕ) where
  read_is : O.read T n E m X o ≡ tested_by (ltb (length o) 65536) (O.validate T n E m X) o
  unfolding O.read tested_by
  read_is = one (ltb (length o) 65536) (O.validate T n E m X)
    where
      one : (b : Bool) (x : Option O.Validated)
          → ◌≡◌ {A = O.Written} (elim b as (λ _. O.Written)
          [ true ↦ O.kept 3 o | false ↦ elim x as (λ _. O.Written) [ none ↦ O.kept 8 o | some h ↦ O.read_validated o h.tokens h.errors ] ])
          (tested_by b x o)
      one true x = refl
      one false none = refl
      one false (some h) = refl

  pub read_short : length o < 65536 → answer (Err Refusal.SliceLength) o ≡ O.read T n E m X o
  unfolding tested_by
  read_short h = sym (read_is ∙ ap (λ (b : Bool). tested_by b (O.validate T n E m X) o) (lt-ltb (length o) 65536 h))

  -- valid records
  module _ (g : is_some (O.validate T n E m X) ≡ true) where
    abbrev pub accepted : There (O.validate T n E m X)
    accepted = there (O.validate T n E m X) g

    pub good : Tested T n E m X accepted.value
    good = tested T n E m X accepted.value accepted.is

    pub bounded : {k : ℕ} → k ≡ m → Bounded T n k
    bounded e = record { room = good.room; few = rw e good.few }

  module _ (h : 65536 ≤ length o) where
    -- the file slice is long enough
    read_long : O.read T n E m X o ≡ tested_by false (O.validate T n E m X) o
    read_long = read_is ∙ ap (λ (b : Bool). tested_by b (O.validate T n E m X) o) (le-ltb (length o) 65536 h)

    pub read_bad : is_some (O.validate T n E m X) ≡ false → answer (Err Refusal.BadRecord) o ≡ O.read T n E m X o
    unfolding tested_by
    read_bad g = sym (read_long ∙ ap (λ (x : Option O.Validated). tested_by false x o) (absent (O.validate T n E m X) g))

    -- for valid records it is what the definition reads of their tokens and errors
    pub read_accepted : {v : O.Validated} → O.validate T n E m X ≡ some v → O.read T n E m X o ≡ O.read_validated o v.tokens v.errors
    unfolding tested_by
    read_accepted e = read_long ∙ ap (λ (x : Option O.Validated). tested_by false x o) e

    module _ (g : is_some (O.validate T n E m X) ≡ true) where
      pub read_good : (r : Result ℕ Refusal) (o' : List ℕ) → answer r o' ≡ O.read_validated o (rest T X n 0) (map recorded (first_chunks 4 m E))
          → answer r o' ≡ O.read T n E m X o
      read_good r o' e =
          e ∙ ap₂ (O.read_validated o) (good g).tokens (records_are recorded recorded_is E m 0 _ (good g).errors) ∙ sym (read_accepted (accepted g).is)

      pub read_none : n ≡ 0 → answer (Err Refusal.NoTokens) o ≡ O.read T n E m X o
      read_none z = read_good (Err Refusal.NoTokens) o (rw (rest_nil T X n 0 (omega (arith, z))) refl)
