use mathlib.Core.Path.{◌≡◌, sym, ◌∙◌, subst}
use Prim.Native.Nat.{ℕ, ◌+◌, ◌<◌}
use native.Mathlib.Omega.{arith}
use lib.ListN.{length}
use Rattle.std.proofs.Common.{Fits, w8}
use Rattle.source.proofs.Laws.{along_next}
use Rattle.scan.proofs.Laws.{asks_along, spanning_along, spanning_out, spanning_stop, while_none, while_go, while_stop}
use Rattle.scan.proofs.scan_while.Goals as goal
use Rattle.scan.proofs.scan_while.Goals.{then-loop-count-test+then-not-test, else-loop-count-test}

byte : (x : ℕ) → Fits w8 x → x < 256
byte x f = f.fits

pub loop-count-preserved : goal.loop-count-preserved
loop-count-preserved g c =
    let b = c.requires.plain _ (byte _ (c.type_inv.s _)) (subst (goal.F-post g c.args.test _) c.if-not-test.false c.test.ensures) in
    let inside : c.args.from.at + c.loop-count.count < length c.args.s.now = omega
    (arith, c.loop-count-test.true, c.loop-count.invariant.0.stands.inside) in
    let next = along_next c.args.from c.loop-count.count in
    let n : c.put.result ≡ c.args.start + (c.loop-count.count + 1) = omega (arith, c.put.ensures.count) in (
      rw (sym n) (asks_along c.loop-count.invariant.0 inside b next c.put.ensures),
      λ holds t. rw (sym n) (spanning_along (c.loop-count.invariant.1 holds t) inside b next
          (λ cs. while_go holds _ cs (sym (t _ _ (byte _ (c.type_inv.s _)) c.test.ensures) ∙ c.if-not-test.false)) c.put.ensures),
    )

pub returns : goal.returns
returns g c = λ holds t. rw c.along.ensures (elim c.loop-count-test.branch [
  | then-loop-count-test+then-not-test w ↦
      spanning_stop (c.loop-count.invariant.1 holds t) (omega (arith, w.loop-count-test.true, c.loop-count.invariant.0.stands.inside))
      (λ cs. while_stop holds _ cs (sym (t _ _ (byte _ (c.type_inv.s _)) w.test.ensures) ∙ w.if-not-test.true))
  | else-loop-count-test w ↦ spanning_out (c.loop-count.invariant.1 holds t) (omega (arith, w.loop-count-test.false)) (while_none holds)
])
