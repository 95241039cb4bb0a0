-- The loop that writes a field for each error of a list. Assumes nothing.
use mathlib.Core.Path.{◌≡◌, refl, sym, ap, ◌∙◌}
use mathlib.Core.List.{List, [], ◌∷◌, ◌++◌, map, append_assoc, append-nil}
use Prim.Native.Nat.{ℕ, ◌+◌, ◌*◌, ◌<◌}
use native.Mathlib.Omega.{arith}
use mathlib.Core.Option.{none}
use lib.ListN.{length, get_or, take, length-append}
use Rattle.std.proofs.lemmas.List.{map_more}
use Rattle.definition.specs.Node.{rec_bytes, nums_bytes}
use Rattle.definition.specs.Fallible.{Err, err_bytes, errs_bytes, err_body}
use Rattle.node.specs.Put.{Wrote}
use Rattle.error_fields.specs.Errors.{Fielded}

bytes_append : (tag : ℕ) (es fs : List Err) → errs_bytes tag (es ++ fs) ≡ errs_bytes tag es ++ errs_bytes tag fs
unfolding errs_bytes
bytes_append tag [] fs = refl
bytes_append tag (e ∷ es) fs =
    ap (λ (x : List ℕ). err_bytes tag e ++ x) (bytes_append tag es fs)
    ∙ sym (append_assoc (err_bytes tag e) (errs_bytes tag es) (errs_bytes tag fs))

-- fields written one list after the other are the fields of both
pub fielded_more : {o o1 o2 : List ℕ} {p tag q r : ℕ} {es fs : List Err} → Fielded o p tag es o1 q → Fielded o1 q tag fs o2 r
    → Fielded o p tag (es ++ fs) o2 r
fielded_more {o} {p = p} {tag = tag} {es = es} {fs = fs} a b = record {
  end = b.end ∙ simp length-append (omega (arith, a.end));
  is =
      b.is ∙ ap (λ (x : List ℕ). x ++ errs_bytes tag fs) a.is
      ∙ append_assoc (take p o) (errs_bytes tag es) (errs_bytes tag fs)
      ∙ ap (λ (x : List ℕ). take p o ++ x) (sym (bytes_append tag es fs));
}

-- the invariant: the fields of the first i errors are written, up to p
pub record Fielding {A : Type 0} (f : A → Err) (xs : List A) (o₀ : List ℕ) (pos tag : ℕ) (o : List ℕ) (i p : ℕ) : Type 0 where
  pub size : length o ≡ length o₀
  pub at : p ≡ pos + 10 * i
  pub is : Fielded o₀ pos tag (map f (take i xs)) o p

module _ {A : Type 0} (f : A → Err) (xs : List A) {o₀ : List ℕ} {pos tag : ℕ} where
  pub fields_none : Fielding f xs o₀ pos tag o₀ 0 pos
  unfolding errs_bytes
  fields_none =
      record { size = refl; at = omega arith; is = record { end = omega arith; is = sym (append-nil (take pos o₀)) } }

  module _ {o : List ℕ} {i p : ℕ} (h : Fielding f xs o₀ pos tag o i p) where
    -- one more field
    pub fields_more : {o1 text : List ℕ} {q : ℕ} {x : A} → i < length xs → x ≡ get_or xs i x → text ≡ err_body (f x)
        → Wrote o p (record { tag = tag; place = none; numbers = []; text = text }) o1 q → length o1 ≡ length o
        → Fielding f xs o₀ pos tag o1 (i + 1) q
    unfolding rec_bytes nums_bytes errs_bytes
    fields_more {o1} {text} {q} {x} g e b w s =
        let one : Fielded o p tag (f x ∷ []) o1 q = record { end = w.end ∙ rw b (omega arith); is = w.is ∙ rw (b, append-nil) refl } in
        record {
          size = s ∙ h.size;
          at = omega (arith, one.end, h.at);
          is = rw (map_more f xs i x g, sym e) (fielded_more h.is one);
        }
