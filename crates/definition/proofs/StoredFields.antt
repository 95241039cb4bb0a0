-- A record's body and a field, as the table reads them. Assumes nothing.
use mathlib.Core.Path.{◌≡◌, refl, ap, ◌∙◌}
use mathlib.Core.Bool.{Bool, true, false, ◌&&◌}
use mathlib.Core.Option.{Option, none, some}
use mathlib.Core.List.{List, [], ◌∷◌, ◌++◌}
use Prim.Native.Nat.{ℕ, ◌+◌, ◌*◌, ◌/◌, ◌%◌, ◌≤◌, ◌<◌}
use native.Mathlib.Omega.{arith}
use borrow.Author.Tests.{le-leb, lt-ltb, ltb-true, leb-true, eqb-true}
use lib.Dec.{eqb, ltb, leb}
use lib.ListN.{length, take, drop, length-append, drop_of_length-le}
use lib.Seq.{take_at}
use Rattle.definition.specs.Classes.{between}
use Rattle.definition.specs.Source.{Place}
use Rattle.definition.specs.Node.{Num, eight, u16, at_place, nums_bytes, field}
use Rattle.definition.specs.Format as F
use Rattle.definition.specs.Format.{Part, Row, rows, find, Numbers, no_numbers, numbers_of}
use Rattle.definition.specs.Stored.{width, may_hold, noted, numbers, Found, Field, bad, skipped, found, with_numbers, with_row, step}
use Rattle.definition.proofs.Tests.{both_true, between_true, parts_true, chosen}
use Rattle.definition.proofs.Tokens.{Placed}
use Rattle.definition.proofs.Leaves.{Suits, nothing, with_text, with_byte, with_base, with_count, with_eight, Body, bare, at}

-- ---- a body

-- a part that fits
pub taken : (p : Part) (ps : List Part) (bs : List ℕ) (n : Numbers) → width p bs ≤ length bs → may_hold p bs ≡ true
    → numbers (p ∷ ps) bs n ≡ numbers ps (drop (width p bs) bs) (noted p bs n)
unfolding numbers
taken p ps bs n h e = rw (numbers, le-leb (width p bs) (length bs) h, e)

pub two_bytes : (n : ℕ) → n < 65536 → n / 256 % 256 * 256 + n % 256 ≡ n
two_bytes n h = omega arith

numbers_suit : {ps : List Part} {ns : List Num} {t : List ℕ} → Suits ps ns t
    → (n : Numbers) → numbers ps (nums_bytes ns ++ t) n ≡ some (numbers_of ns n)
unfolding numbers nums_bytes
numbers_suit nothing n = refl
numbers_suit (with_text {t} u) n =
    taken F.text [] t n (omega arith) u ∙ rw (drop_of_length-le t {i = length t} (omega arith))
numbers_suit (with_byte {lo} {hi} {n = b} {ps} {ns} {t} l h s) n =
    taken (F.byte lo hi) ps (b ∷ (nums_bytes ns ++ t)) n (omega arith) (between_true l h) ∙ numbers_suit s _
numbers_suit (with_base {n = b} {ps} {ns} {t} e s) n =
    taken F.base ps (b ∷ (nums_bytes ns ++ t)) n (omega arith) e ∙ numbers_suit s _
numbers_suit (with_count {n = c} {ps} {ns} {t} h s) n =
    let l : c / 256 % 256 * 256 + c % 256 ≤ 2048 = omega arith in
    taken F.count ps (u16 c ++ (nums_bytes ns ++ t)) n (omega arith) (le-leb _ 2048 l)
    ∙ ap (λ (c : ℕ). numbers ps (nums_bytes ns ++ t) (record { byte = n.byte; count = c })) (two_bytes c (omega arith))
    ∙ numbers_suit s _
numbers_suit (with_eight {n = x} {ps} {ns} {t} l s) n =
    taken F.eight ps (nums_bytes (eight x ∷ ns) ++ t) n (omega arith) refl ∙ numbers_suit s n

inside : (n : ℕ) → 1 ≤ n → n ≤ 16384 → between 1 16384 (n / 256 % 256 * 256 + n % 256) ≡ true
inside n l h = rw (two_bytes n (omega arith)) (between_true l h)

pub placed : (p : Place) (ps : List Part) (bs : List ℕ) (n : Numbers) → Placed 1 p
    → numbers (F.place ∷ ps) (at_place (some p) ++ bs) n ≡ numbers ps bs n
placed p ps bs n h =
    let l : between 1 16384 (p.line / 256 % 256 * 256 + p.line % 256) ≡ true = inside p.line (omega arith) (omega arith) in
    let c : between 1 16384 (p.column / 256 % 256 * 256 + p.column % 256) ≡ true = inside p.column (omega arith) (omega arith) in
    taken F.place ps (at_place (some p) ++ bs) n (omega arith) (both_true l c)

pub numbers_body : {ps : List Part} {p : Option Place} {ns : List Num} {t : List ℕ} → Body ps p ns t
    → numbers ps (at_place p ++ nums_bytes ns ++ t) no_numbers ≡ some (numbers_of ns no_numbers)
numbers_body (bare s) = numbers_suit s no_numbers
numbers_body (at {p} {ps} {ns} {t} h s) = placed p ps (nums_bytes ns ++ t) no_numbers h ∙ numbers_suit s no_numbers

-- ---- a field

-- a row that is found: its tag, which is below 70
pub record Listed (t : ℕ) (w : Row) : Type 0 where
  pub tag : t ≡ w.tag
  pub low : t < 0x70

abbrev all_low : List Row → Bool
all_low [] = true
all_low (w ∷ ws) = ltb w.tag 0x70 && all_low ws

listed_in : (ws : List Row) → all_low ws ≡ true → (t : ℕ) (w : Row) → find t ws ≡ some w → Listed t w
unfolding find
listed_in [] a t w e = let z : ◌≡◌ {A = ℕ} 0 1 = cc in absurd (omega arith)
listed_in (v ∷ ws) a t w e =
    parts_true (ltb v.tag 0x70) (all_low ws) a λ l m. go (eqb t v.tag) refl e l (listed_in ws m t w)
  where
    go : (b : Bool) → eqb t v.tag ≡ b → elim b as (λ _. Option Row) [ true ↦ some v | false ↦ find t ws ] ≡ some w
        → ltb v.tag 0x70 ≡ true → (find t ws ≡ some w → Listed t w) → Listed t w
    go true i e l r =
        let z : v ≡ w = cc in
        let same : t ≡ v.tag = eqb-true t v.tag i in
        record { tag = same ∙ ap (λ (w : Row). w.tag) z; low = omega (arith, same, ltb-true v.tag 0x70 l) }
    go false i e l r = r e

pub listed : (t : ℕ) (w : Row) → find t rows ≡ some w → Listed t w
unfolding rows
listed t w e = listed_in rows refl t w e

-- the field of a row, with the numbers of its body
abbrev pub field_of : ℕ → Row → Numbers → Found
field_of size w n = record { tag = w.tag; size = size; sort = w.sort; children = w.children n.byte n.count }

pub step_found : (t : ℕ) (body rest : List ℕ) (w : Row) (n : Numbers) → length body < 65536 → find t rows ≡ some w
    → numbers w.body body no_numbers ≡ some n → step (field t body ++ rest) ≡ found (field_of (length body) w n)
unfolding step
step_found t body rest w n h f e =
    let l : leb (length body) (length (body ++ rest)) ≡ true = le-leb _ _ (omega (arith, length-append body rest)) in
    let d : _ = two_bytes (length body) h in
    rw (step, d, l, lt-ltb t 0x70 (listed t w f).low, f, d, take_at body rest (length body) refl, e)

-- what a field is: by its length, its tag, its row and the numbers of its body
pub data Stepped (b : ℕ) : List ℕ → Field → Type 0 where
  is_bad : {bs : List ℕ} → Stepped b bs bad
  is_skipped : {h l : ℕ} {bs : List ℕ} → h * 256 + l ≤ length bs → ltb b 0x70 ≡ false
      → Stepped b (h ∷ l ∷ bs) (skipped (h * 256 + l))
  is_found : {h l : ℕ} {bs : List ℕ} (w : Row) (m : Numbers) → h * 256 + l ≤ length bs → ltb b 0x70 ≡ true
      → find b rows ≡ some w → numbers w.body (take (h * 256 + l) bs) no_numbers ≡ some m
      → Stepped b (h ∷ l ∷ bs) (found (field_of (h * 256 + l) w m))

pub stepped : (b : ℕ) (bs : List ℕ) → Stepped b bs (step (b ∷ bs))
unfolding step
stepped b [] = is_bad
stepped b (h ∷ []) = is_bad
stepped b (h ∷ l ∷ bs) =
    chosen (Stepped b (h ∷ l ∷ bs)) (leb (h * 256 + l) (length bs)) _ _ (λ e.
    chosen (Stepped b (h ∷ l ∷ bs)) (ltb b 0x70) _ _
    (λ t. rowed (leb-true _ _ e) t (find b rows) refl) (λ t. is_skipped (leb-true _ _ e) t)) (λ e. is_bad)
  where
    numbered : h * 256 + l ≤ length bs → ltb b 0x70 ≡ true → (w : Row) → find b rows ≡ some w → (o : Option Numbers)
        → numbers w.body (take (h * 256 + l) bs) no_numbers ≡ o → Stepped b (h ∷ l ∷ bs) (with_numbers (h * 256 + l) w o)
    numbered e t w f none n = is_bad
    numbered e t w f (some m) n = is_found w m e t f n

    rowed : h * 256 + l ≤ length bs → ltb b 0x70 ≡ true → (o : Option Row) → find b rows ≡ o
        → Stepped b (h ∷ l ∷ bs) (with_row (h * 256 + l) (take (h * 256 + l) bs) o)
    rowed e t none f = is_bad
    rowed e t (some w) f = numbered e t w f (numbers w.body (take (h * 256 + l) bs) no_numbers) refl
