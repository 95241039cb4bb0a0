-- Laws of the records that are written. Assumes nothing.
use mathlib.Core.Path.{◌≡◌, refl, sym}
use mathlib.Core.List.{List, [], ◌∷◌, ◌++◌, append_assoc}
use Prim.Native.Nat.{ℕ, ◌+◌}
use native.Mathlib.Omega.{arith}
use lib.ListN.{length, length-append}
use Rattle.std.specs.Prelude.{Option, Some, None}
use Rattle.std.proofs.Math.Option as maybe
use Rattle.definition.specs.Source as S
use Rattle.definition.specs.Node.{u16, Num, byte, two, eight, at_place, rec_bytes, nums_bytes}
use Rattle.definition.specs.declared.place.Place.{Place}
use Rattle.slices.specs.declared.Writer.{Writer}
use Rattle.slices.specs.Contract.{Put}
use Rattle.node.specs.declared.Numbers.{Numbers}
use Rattle.node.specs.declared.Numbers.TheVariants as N
use Rattle.node.specs.Put.{Wrote, place_in, place_size, head_size, nums_of, nums_size, width_of}

-- the numbers of a record that the code has, and its place
pub nums_length : (n : Numbers) → length (nums_bytes (nums_of n)) ≡ width_of n
unfolding nums_bytes
nums_length N.None = refl
nums_length (N.Byte b) = refl
nums_length (N.Two n) = refl
nums_length (N.Eight n) = refl
nums_length (N.ByteTwo b n) = refl

pub place_length : (p : Option Place) → length (at_place (place_in p)) ≡ place_size p
place_length None = refl
place_length (Some p) = refl

-- of any record
nums_is : (ns : List Num) → nums_size ns ≡ length (nums_bytes ns)
unfolding nums_bytes
nums_is [] = refl
nums_is (byte n ∷ ns) = omega (arith, nums_is ns)
nums_is (two n ∷ ns) = omega (arith, nums_is ns)
nums_is (eight n ∷ ns) = omega (arith, nums_is ns)

head_is : (p : maybe.Option S.Place) → head_size p ≡ 3 + length (at_place p)
head_is maybe.none = refl
head_is (maybe.some p) = refl

-- what is written is the record, with any place and any numbers
pub is_record : {v r : Writer ℕ} {k w tag : ℕ} (p : maybe.Option S.Place) (ns : List Num) (t : List ℕ)
    → k ≡ length (at_place p) → w ≡ length (nums_bytes ns)
    → Put (tag ∷ (u16 (k + w + length t) ++ (at_place p ++ (nums_bytes ns ++ t)))) v r
    → Wrote v.out.now v.at (record { tag = tag; place = p; numbers = ns; text = t }) r.out.now r.at
unfolding rec_bytes
is_record {k = k} {w = w} p ns t e h a =
    let body : length ((at_place p ++ nums_bytes ns) ++ t) ≡ k + w + length t = simp length-append (omega arith) in
    record {
      end = omega (arith, a.wrote.count, head_is p, nums_is ns, length-append (at_place p) (nums_bytes ns ++ t), length-append (nums_bytes ns) t);
      is = rw (sym body, sym (append_assoc (at_place p) (nums_bytes ns) t)) at a.wrote.put;
    }
