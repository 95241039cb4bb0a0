-- Walking over the fields of a file finds the tree, and counts its records and the entries of the full list.
-- Assumes nothing.
use mathlib.Core.Path.{◌≡◌, refl, sym, ap, ◌∙◌}
use mathlib.Core.Bool.{true, false}
use mathlib.Core.List.{List, [], ◌∷◌, ◌++◌, append-nil, append_assoc}
use Prim.Native.Nat.{ℕ, zero, suc, ◌+◌, ◌-◌, ◌≤◌, ◌<◌}
use native.Mathlib.Omega.{arith}
use native.Mathlib.Nat.{zero-add, suc-add}
use borrow.Author.Tests.{ne_eqb}
use lib.Dec.{eqb}
use lib.ListN.{length, take, drop, length-append}
use lib.Seq.{take_at, drop_at}
use Rattle.definition.specs.Node.{u16, field, Rec, rec_bytes, recs_bytes}
use Rattle.definition.specs.Fallible.{Err, err_body, err_bytes, errs_bytes}
use Rattle.definition.specs.Act.{Items}
use Rattle.definition.specs.Operations.{file_bytes}
use Rattle.definition.specs.Demand.{field_size, tree_from, tree, entries_from, full_entries}
use Rattle.definition.specs.TreeRecords.{tree_records_from, tree_records}
use Rattle.definition.proofs.Fit.{body}
use Rattle.definition.proofs.Size.{weight}
use Rattle.definition.proofs.Room.{nums_length, place_length, errs_length}

-- ---- one field

sized : (tag : ℕ) (body rest : List ℕ) → length body < 65536 → length (field tag body) ≡ field_size (field tag body ++ rest)
sized tag body rest h = omega arith

front : (tag : ℕ) (body rest : List ℕ) → length body < 65536
    → take (field_size (field tag body ++ rest)) (field tag body ++ rest) ≡ field tag body
front tag body rest h = take_at (field tag body) rest _ (sized tag body rest h)

after_field : (tag : ℕ) (body rest : List ℕ) → length body < 65536 → drop (field_size (field tag body ++ rest)) (field tag body ++ rest) ≡ rest
after_field tag body rest h = drop_at (field tag body) rest _ (sized tag body rest h)

tree_on : (tag n : ℕ) (body rest : List ℕ) → length body < 65536 → eqb tag 0x5F ≡ false
    → tree_from (suc n) (field tag body ++ rest) ≡ field tag body ++ tree_from n rest
unfolding tree_from
tree_on tag n body rest h e = rw (e, front tag body rest h, after_field tag body rest h)

tree_end : (n : ℕ) (body rest : List ℕ) → length body < 65536 → tree_from (suc n) (field 0x5F body ++ rest) ≡ field 0x5F body
unfolding tree_from
tree_end n body rest h = rw (front 0x5F body rest h) (append-nil (field 0x5F body))

records_on : (tag n : ℕ) (body rest : List ℕ) → length body < 65536 → eqb tag 0x5F ≡ false
    → tree_records_from (suc n) (field tag body ++ rest) ≡ suc (tree_records_from n rest)
unfolding tree_records_from
records_on tag n body rest h e = rw (e, after_field tag body rest h)

-- a field of another tag, and one of this tag
entries_on : (t tag n : ℕ) (body rest : List ℕ) → length body < 65536 → eqb tag t ≡ false
    → entries_from t (suc n) (field tag body ++ rest) ≡ entries_from t n rest
unfolding entries_from
entries_on t tag n body rest h e = rw (e, after_field tag body rest h) (zero-add _)

entries_more : (t tag n : ℕ) (body rest : List ℕ) → length body < 65536 → eqb tag t ≡ true
    → entries_from t (suc n) (field tag body ++ rest) ≡ 1 + entries_from t n rest
unfolding entries_from
entries_more t tag n body rest h e = rw (e, after_field tag body rest h)

-- ---- records and errors

below : (a b : ℕ) → a < b → eqb a b ≡ false
below a b h = ne_eqb a b (λ e. omega arith)

body_short : (r : Rec) (rs : List Rec) → weight (r ∷ rs) < 65536 → length (body r) < 65536
unfolding body
body_short r rs h = simp length-append (omega (arith, place_length r.place, nums_length r.numbers))

tree_recs : (rs : List Rec) (n : ℕ) (last rest : List ℕ) → weight rs < 65536 → length last < 65536
    → tree_from (length rs + suc n) (recs_bytes rs ++ (field 0x5F last ++ rest))
    ≡ recs_bytes rs ++ field 0x5F last
unfolding recs_bytes rec_bytes body
tree_recs [] n last rest h k = ap (λ (m : ℕ). tree_from m (field 0x5F last ++ rest)) (zero-add (suc n)) ∙ tree_end n last rest k
tree_recs (r ∷ rs) n last rest h k =
    ap (λ (l : List ℕ). tree_from (length (r ∷ rs) + suc n) l) (append_assoc (rec_bytes r) (recs_bytes rs) (field 0x5F last ++ rest))
    ∙ ap (λ (m : ℕ). tree_from m (rec_bytes r ++ (recs_bytes rs ++ (field 0x5F last ++ rest)))) (suc-add (length rs) (suc n))
    ∙ tree_on r.tag (length rs + suc n) (body r) _ (body_short r rs h) (below r.tag 0x5F (omega arith))
    ∙ ap (λ (l : List ℕ). rec_bytes r ++ l) (tree_recs rs n last rest (omega arith) k)
    ∙ sym (append_assoc (rec_bytes r) (recs_bytes rs) (field 0x5F last))

records_recs : (rs : List Rec) (n : ℕ) (last rest : List ℕ) → weight rs < 65536
    → tree_records_from (length rs + suc n) (recs_bytes rs ++ (field 0x5F last ++ rest)) ≡ suc (length rs)
unfolding recs_bytes rec_bytes body tree_records_from
records_recs [] n last rest h = ap (λ (m : ℕ). tree_records_from m (field 0x5F last ++ rest)) (zero-add (suc n))
records_recs (r ∷ rs) n last rest h =
    let end : List ℕ = field 0x5F last ++ rest in
    ap (λ (l : List ℕ). tree_records_from (length (r ∷ rs) + suc n) l) (append_assoc (rec_bytes r) (recs_bytes rs) end)
    ∙ ap (λ (m : ℕ). tree_records_from m (rec_bytes r ++ (recs_bytes rs ++ end))) (suc-add (length rs) (suc n))
    ∙ records_on r.tag (length rs + suc n) (body r) _ (body_short r rs h) (below r.tag 0x5F (omega arith))
    ∙ ap suc (records_recs rs n last rest (omega arith))

entries_recs : (rs : List Rec) (n : ℕ) (rest : List ℕ) → weight rs < 65536
    → entries_from 0x61 (length rs + n) (recs_bytes rs ++ rest) ≡ entries_from 0x61 n rest
unfolding recs_bytes rec_bytes body
entries_recs [] n rest h = ap (λ (m : ℕ). entries_from 0x61 m rest) (zero-add n)
entries_recs (r ∷ rs) n rest h =
    ap (λ (l : List ℕ). entries_from 0x61 (length (r ∷ rs) + n) l) (append_assoc (rec_bytes r) (recs_bytes rs) rest)
    ∙ ap (λ (m : ℕ). entries_from 0x61 m (rec_bytes r ++ (recs_bytes rs ++ rest))) (suc-add (length rs) n)
    ∙ entries_on 0x61 r.tag (length rs + n) (body r) _ (body_short r rs h) (below r.tag 0x61 (omega arith))
    ∙ entries_recs rs n rest (omega arith)

-- errors of another list, and those of the full list
entries_errs : (tag : ℕ) (es : List Err) (n : ℕ) (rest : List ℕ) → eqb tag 0x61 ≡ false
    → entries_from 0x61 (length es + n) (errs_bytes tag es ++ rest) ≡ entries_from 0x61 n rest
unfolding errs_bytes
entries_errs tag [] n rest e = ap (λ (m : ℕ). entries_from 0x61 m rest) (zero-add n)
entries_errs tag (x ∷ es) n rest e =
    ap (λ (l : List ℕ). entries_from 0x61 (length (x ∷ es) + n) l) (append_assoc (err_bytes tag x) (errs_bytes tag es) rest)
    ∙ ap (λ (m : ℕ). entries_from 0x61 m (err_bytes tag x ++ (errs_bytes tag es ++ rest))) (suc-add (length es) n)
    ∙ entries_on 0x61 tag (length es + n) (err_body x) _ (omega arith) e
    ∙ entries_errs tag es n rest e

entries_end : (n : ℕ) → entries_from 0x61 n [] ≡ 0
unfolding entries_from
entries_end zero = refl
entries_end (suc n) = refl

entries_full : (es : List Err) (n : ℕ) → entries_from 0x61 (length es + n) (errs_bytes 0x61 es) ≡ length es
unfolding errs_bytes
entries_full [] n = entries_end (0 + n)
entries_full (x ∷ es) n =
    ap (λ (m : ℕ). entries_from 0x61 m (err_bytes 0x61 x ++ errs_bytes 0x61 es)) (suc-add (length es) n)
    ∙ entries_more 0x61 0x61 (length es + n) (err_body x) (errs_bytes 0x61 es) (omega arith) refl
    ∙ omega (arith, entries_full es n)

-- ---- the file

recs_many : (rs : List Rec) → length rs ≤ length (recs_bytes rs)
unfolding recs_bytes rec_bytes
recs_many [] = omega arith
recs_many (r ∷ rs) = simp length-append (omega (arith, recs_many rs))

module _ (es : List Err) (i : Items) (full : List Err) (h : weight i.recs < 65536) where
  tail : List ℕ
  tail = errs_bytes 0x62 es ++ (errs_bytes 0x60 i.errors ++ errs_bytes 0x61 full)

  flat : file_bytes es i full ≡ recs_bytes i.recs ++ (field 0x5F (u16 i.count) ++ tail)
  unfolding file_bytes tail
  flat = simp append_assoc

  -- the steps of the walk that are left after the records of the tree
  others : ℕ
  others = length (recs_bytes i.recs ++ (field 0x5F (u16 i.count) ++ tail)) - suc (length i.recs)

  all_fields : length (recs_bytes i.recs ++ (field 0x5F (u16 i.count) ++ tail)) ≡ length i.recs + suc others
  unfolding tail others
  all_fields = simp length-append (omega (arith, recs_many i.recs))

  -- the tree of a file is the bytes of the records and of the module
  pub tree_of_file : tree (file_bytes es i full) ≡ recs_bytes i.recs ++ field 0x5F (u16 i.count)
  unfolding tree tail
  tree_of_file =
      let walk : ℕ → List ℕ = λ m. tree_from m (recs_bytes i.recs ++ (field 0x5F (u16 i.count) ++ tail)) in
      rw flat (ap walk all_fields ∙ tree_recs i.recs others (u16 i.count) tail h (omega arith))

  -- the tree of a file has the records of the items and that of the module
  pub records_of_file : tree_records (file_bytes es i full) ≡ suc (length i.recs)
  unfolding tree_records tail
  records_of_file =
      let walk : ℕ → ℕ = λ m. tree_records_from m (recs_bytes i.recs ++ (field 0x5F (u16 i.count) ++ tail)) in
      rw flat (ap walk all_fields ∙ records_recs i.recs others (u16 i.count) tail h)

  -- the walk counts the entries of the full list
  pub entries_of_file : full_entries (file_bytes es i full) ≡ length full
  unfolding full_entries tail
  entries_of_file =
      rw flat
      (ap (λ (m : ℕ). entries_from 0x61 m (recs_bytes i.recs ++ (field 0x5F (u16 i.count) ++ tail))) size
      ∙ entries_recs i.recs (suc (length es + (length i.errors + (length full + n)))) (field 0x5F (u16 i.count) ++ tail) h
      ∙ entries_on 0x61 0x5F (length es + (length i.errors + (length full + n))) (u16 i.count) tail (omega arith) refl
      ∙ entries_errs 0x62 es (length i.errors + (length full + n)) (errs_bytes 0x60 i.errors ++ errs_bytes 0x61 full) refl
      ∙ entries_errs 0x60 i.errors (length full + n) (errs_bytes 0x61 full) refl
      ∙ entries_full full n)
    where
      n : ℕ
      n =
          length (recs_bytes i.recs ++ (field 0x5F (u16 i.count) ++ tail))
          - (length i.recs + suc (length es + (length i.errors + length full)))

      size : length (recs_bytes i.recs ++ (field 0x5F (u16 i.count) ++ tail))
          ≡ length i.recs + suc (length es + (length i.errors + (length full + n)))
      size =
          simp length-append (omega
          (arith, recs_many i.recs, errs_length 0x62 es, errs_length 0x60 i.errors, errs_length 0x61 full))
