-- A module that leaves nodes. Assumes nothing.
use mathlib.Core.Path.{◌≡◌, refl, ap, ◌∙◌, subst}
use mathlib.Core.Option.{none, some}
use mathlib.Core.List.{List}
use Prim.Native.Nat.{ℕ, ◌+◌, ◌-◌, ◌<◌}
use native.Mathlib.Omega.{arith}
use lib.ListN.{length, take, drop, length-drop}
use lib.Seq.{drop-cons}
use Rattle.std.specs.Prelude.{Option, Some, None}
use Rattle.std.proofs.lemmas.List.{take_rest}
use Rattle.definition.specs.Format.{root}
use Rattle.definition.specs.Stored.{judge, then_closed}
use Rattle.stored.specs.Nodes.{Came, phase_of}

pub nodes_left : (last : Option ℕ) (ks w : List ℕ) (top n : ℕ) → Came ks (take (length w - top) (drop top w)) n
    → top + n < length w → judge root ks (phase_of last (drop top w)) ≡ none
nodes_left (Some m) ks w top n came l = refl
nodes_left None ks w top n came l =
    let c : Came ks (drop top w) n = subst (λ st. Came ks st n) (take_rest w top) came in
    ap then_closed c.off
    ∙ ap (λ st. then_closed (some st)) (drop-cons (drop top w) n 0 (omega (arith, l, length-drop top w)))
