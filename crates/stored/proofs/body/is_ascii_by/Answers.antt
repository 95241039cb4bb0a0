use Prim.Native.Nat.{◌+◌, ◌-◌, ◌≤◌}
use native.Mathlib.Omega.{arith}
use lib.ListN.{length}
use Rattle.stored.proofs.Texts.{ascii_start, ascii_on, ascii_end}
use Rattle.stored.proofs.body.is_ascii_by.Goals as goal

pub loop-i-init : goal.loop-i-init
loop-i-init g c = (ascii_start _, omega arith)

pub loop-i-preserved : goal.loop-i-preserved
loop-i-preserved g c =
    let i = c.loop-i.i in
    let n = g.row.N in
    let l : i + n ≤ length c.args.bytes.now = omega (arith, c.loop-i-test.true) in
    (ascii_on _ i i n _ n c.loop-i.invariant.0 c.bits.ensures (omega (arith, c.if-bits-ge128.false)) (omega arith) (omega arith) l, l)

pub returns : goal.returns
returns g c = λ t.
    let n = length c.args.bytes.now in
    let k = g.row.N in
    let i = c.loop-i.i in
    let h = c.loop-i-test.false in
    let l = c.loop-i.invariant.1 in
    ascii_end (ascii_on _ i (n - k) k _ (n - i) c.loop-i.invariant.0 c.bits-2.ensures
    (omega (arith, c.if-bits-ge128-2.false)) (omega (arith, h)) (omega (arith, l, c.requires)) (omega (arith, l))) (omega (arith, l))
