-- Reading a part of a body, and the role at its end. Assumes nothing.
use mathlib.Core.Path.{◌≡◌, refl, sym, ap, ◌∙◌}
use mathlib.Core.Bool.{Bool, true, false}
use mathlib.Core.List.{List, [], ◌∷◌}
use mathlib.Core.Option.{none, some}
use Prim.Native.Nat.{ℕ, ◌-◌, ◌<◌, ◌≤◌}
use native.Mathlib.Omega.{arith}
use lib.ListN.{length, take, drop}
use Rattle.std.proofs.lemmas.List.{take_rest}
use Rattle.definition.specs.Format as F
use Rattle.definition.specs.Stored as S
use Rattle.definition.specs.Stored.{fits, width, noted}
use Rattle.std.specs.Prelude.{Option, Some, None}
use Rattle.std.proofs.Math.Option as Math
use Rattle.stored.specs.declared.nodes.Role.{Role}
use Rattle.stored.specs.Table.{parts_in, sort_in, children_in, sort_of, children_of}
use Rattle.stored.specs.Parts.{as_numbers, left, Ends, RoleBy}
use Rattle.stored.specs.declared.body.Body.{Body}

module _ (p : F.Part) (b : Body) (g : b.good ≡ true) {e : Bool} (f : e ≡ fits p b.rest.now) where
  -- the part p stands there, and takes k bytes
  pub read : e ≡ true → (k : ℕ) (n : F.Numbers) → k ≡ width p b.rest.now → n ≡ noted p b.rest.now (as_numbers b.numbers)
      → (ps : List F.Part) → left (p ∷ ps) b ≡ S.numbers ps (take (length b.rest.now - k) (drop k b.rest.now)) n
  unfolding S.numbers
  read t k n w m ps = rw (g, take_rest b.rest.now k, w, m, S.numbers, sym f, t) refl

  -- it does not
  pub not_read : e ≡ false → (ps : List F.Part) → left (p ∷ ps) b ≡ none
  unfolding S.numbers
  not_read t ps = rw (g, S.numbers, sym f, t)

-- the end of a body, and bytes that are left there
pub at_end : (bs : List ℕ) (n : F.Numbers) → length bs ≤ 0 → S.numbers [] bs n ≡ some n
unfolding S.numbers
at_end [] n h = refl
at_end (b ∷ bs) n h = absurd (omega arith)

pub not_at_end : (bs : List ℕ) (n : F.Numbers) → 0 < length bs → S.numbers [] bs n ≡ none
unfolding S.numbers
not_at_end [] n h = absurd (omega arith)
not_at_end (b ∷ bs) n h = refl

-- ---- a role

-- the role by a row, where what was read of the body leaves b'
pub by_row : (w : Math.Option F.Row) (b b' : Body) (x : Role) (r : Option Role) → Ends x b' r → left (parts_in w) b ≡ left [] b'
    → sort_of x ≡ sort_in w → children_of x ≡ children_in w b'.numbers.byte b'.numbers.count → RoleBy w b r
by_row w b b' x None e p s k = p ∙ e
by_row w b b' x (Some y) e p s k =
    record { numbers = as_numbers b'.numbers; read = p ∙ e.0; sort = ap sort_of e.1 ∙ s; children = ap children_of e.1 ∙ k }
