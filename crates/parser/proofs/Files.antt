-- What the file holds after the tree. Assumes nothing.
use mathlib.Core.Path.{◌≡◌, refl, sym, ap, ◌∙◌}
use mathlib.Core.List.{List, [], ◌++◌, map, append-nil}
use Prim.Native.Nat.{ℕ, ◌+◌, ◌*◌, ◌≤◌}
use native.Mathlib.Omega.{arith}
use lib.ListN.{length, take, length-map}
use lib.Seq.{length-take-le}
use Rattle.definition.specs.Node.{u16, field, rec_bytes}
use Rattle.definition.specs.Tag as Tag
use Rattle.definition.specs.Fallible.{errs_bytes}
use Rattle.node.specs.Put.{Wrote, bare_of}
use Rattle.node.specs.declared.Numbers.TheVariants.{Two}
use Rattle.fallible.specs.declared.error.Error.{Error}
use Rattle.fallible.specs.Lists.{err_of, errs}
use Rattle.fallible.proofs.Grown.{errs_length}
use Rattle.error_fields.specs.Errors.{recorded, Fielded}
use Rattle.slices.specs.Cleared.{Cleared}
use Rattle.slices.proofs.Clearing.{cleared_filled}
use Rattle.parser.specs.Answer.{tree_file, RestRoom, RestWritten}

-- ---- where the fields end

pub token_end : {o o' : List ℕ} {p q tag : ℕ} (rs : List (List ℕ)) → Fielded o p tag (map recorded rs) o' q → q ≡ p + 10 * length rs
token_end rs A = A.end ∙ simp length-map refl

pub list_end : {o o' : List ℕ} {p q tag : ℕ} (l : List Error) (k : ℕ) → Fielded o p tag (map err_of (take k l)) o' q → k ≤ length l → q ≡ p + 10 * k
unfolding errs
list_end l k B h = omega (arith, B.end, errs_length l k h)

-- ---- `end_file`

-- the record of the module is its field
module_field : (count : ℕ) → rec_bytes (bare_of Tag.Module (Two count) []) ≡ field Tag.Module (u16 count)
unfolding rec_bytes
module_field count = simp append-nil refl

module _ (rs : List (List ℕ)) {o o1 o2 o3 o4 : List ℕ} {r f : List Error} {p p1 p2 p3 p4 count reported_count full_count : ℕ} (q : RestRoom o p (length rs) r reported_count f full_count) (W : Wrote o p (bare_of Tag.Module (Two count) []) o1 p1) (A : Fielded o1 p1 Tag.TokenError (map recorded rs) o2 p2)
    (B : Fielded o2 p2 Tag.ReportedError (map err_of (take reported_count r)) o3 p3) (C : Fielded o3 p3 Tag.FullError (map err_of (take full_count f)) o4 p4) where
  -- the contents up to the end
  front : take p4 o4 ≡ tree_file (take p o) count (map recorded rs) (errs r reported_count) (errs f full_count)
  unfolding errs
  front =
      C.is
      ∙ ap (λ (v : List ℕ). v ++ errs_bytes Tag.FullError (errs f full_count)) (B.is
      ∙ ap (λ (v : List ℕ). v ++ errs_bytes Tag.ReportedError (errs r reported_count)) (A.is
      ∙ ap (λ (v : List ℕ). v ++ errs_bytes Tag.TokenError (map recorded rs))
      (W.is ∙ ap (λ (v : List ℕ). take p o ++ v) (module_field count))))

  -- the end is within the slice
  pub end_room : length o4 ≡ length o → p4 ≤ length o4
  end_room l = omega (arith, q.room, W.end, token_end rs A, list_end r reported_count B q.reps, list_end f full_count C q.fulls, l)

  -- the rest of the file is written, with zeros after it
  pub ended : {o5 : List ℕ} → Cleared o4 p4 o5 → length o4 ≡ length o → RestWritten o p count (map recorded rs) r reported_count f full_count o5 p4
  ended Z l = record {
    end = sym (length-take-le p4 o4 (end_room l)) ∙ ap length front;
    is = cleared_filled o p4 (tree_file (take p o) count (map recorded rs) (errs r reported_count) (errs f full_count)) Z front l (end_room l);
  }
