-- The laws of what is written. Assumes nothing.
use mathlib.Core.Path.{refl, sym, ap, ◌∙◌}
use mathlib.Core.List.{List, [], ◌++◌, append_assoc, append-nil}
use Prim.Native.Nat.{ℕ}
use native.Mathlib.Omega.{arith}
use lib.ListN.{take, length-append}
use Rattle.slices.specs.Written.{Wrote}
use Rattle.slices.specs.declared.Writer.{Writer}
use Rattle.slices.specs.Contract.{Put}

pub wrote_none : {A : Type 0} {x : List A} {n : ℕ} → Wrote x n [] x n
wrote_none {x = x} {n = n} = record { put = sym (append-nil (take n x)); count = omega arith; size = refl }

pub wrote_trans : {A : Type 0} {x : List A} {n : ℕ} {t x' : List A} {m : ℕ} {u x'' : List A} {k : ℕ} → Wrote x n t x' m
    → Wrote x' m u x'' k → Wrote x n (t ++ u) x'' k
wrote_trans {A} {x} {n} {t} {x'} {m} {u} a b =
    record {
      put = b.put ∙ ap (λ (l : List A). l ++ u) a.put ∙ append_assoc (take n x) t u;
      count = omega (arith, a.count, b.count, length-append t u);
      size = b.size ∙ a.size;
    }

pub put_trans : {T : Type 0} {w : Writer T} {t : List T} {r : Writer T} {u : List T} {q : Writer T} → Put t w r → Put u r q → Put (t ++ u) w q
put_trans a b = record { wrote = wrote_trans a.wrote b.wrote; same = b.same ∙ a.same }
