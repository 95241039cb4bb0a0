use mathlib.Core.Path.{◌≡◌, sym, subst}
use native.Mathlib.Omega.{arith}
use lib.ListN.{length-replicate}
use Rattle.stored.proofs.Taking.{Standing, stand_start, stand_more, stand_stop, stand_short, came_not, came_more}
use Rattle.stored.proofs.nodes.and_before.Goals as goal

pub returns-then-waiting-from : goal.returns-then-waiting-from
returns-then-waiting-from c = λ ks w. came_not w _ (stand_short _ _ _ _ c.if-waiting-from.true)

pub loop-i-init : goal.loop-i-init
loop-i-init c = (stand_start c.args.waiting.now c.args.from c.args.kind, omega arith)

pub returns-then-waiting-from-2 : goal.returns-then-waiting-from-2
returns-then-waiting-from-2 c = λ ks w.
    came_not w _ (stand_stop _ _ _ _ _ c.loop-i.invariant.0 (omega (arith, c.if-waiting-from.false, c.loop-i-test.true))
    c.if-waiting-from-2.true c.loop-i-test.true)

pub loop-i-preserved : goal.loop-i-preserved
loop-i-preserved c = (
  stand_more _ _ _ _ c.loop-i.invariant.0 (omega (arith, c.if-waiting-from.false, c.loop-i-test.true))
      c.if-waiting-from-2.false,
  omega (arith, c.loop-i-test.true),
)

pub returns : goal.returns
returns c = λ ks w.
    let i = c.loop-i.invariant in
    let e : c.loop-i.i ≡ c.args.count = omega (arith, c.loop-i-test.false, i.1) in
    came_more w _ _ (sym (length-replicate c.args.count _)) (omega (arith, c.if-waiting-from.false)) (subst (Standing _ _ _) e i.0)
