-- The file of an accepted script is a part of the slice lent to `read_script`. Assumes nothing.
use mathlib.Core.Path.{◌≡◌, ap, sym, ◌∙◌}
use mathlib.Core.List.{List}
use Prim.Native.Nat.{ℕ, ◌≤◌}
use native.Mathlib.Omega.{arith}
use lib.ListN.{length, take}
use lib.Seq.{length-take-le}
use Rattle.definition.specs.Operations.{Written, whole}
use Rattle.definition.proofs.Room.{room}

-- s is the script, o the slice at entry, w the answer with the slice at exit
module _ (s o : List ℕ) {w : Written} (e : w ≡ whole s o) (z : w.number ≡ 0) (l : length w.file ≡ 65536) where
  pub file_fits : w.bytes ≤ length w.file
  file_fits = omega (arith, l, ap (λ (w : Written). w.bytes) e, room s o (ap (λ (w : Written). w.number) (sym e) ∙ z))

  pub file_length : w.bytes ≡ length (take w.bytes w.file)
  file_length = sym (length-take-le w.bytes w.file file_fits)
