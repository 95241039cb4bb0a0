use Rattle.leaves.proofs.Values.{size_done, size_more, size_over}
use native.Mathlib.Omega.{arith}
use Rattle.leaves.proofs.array_size.Goals as goal

pub returns-in_err-checked_mul : goal.returns-in_err-checked_mul
returns-in_err-checked_mul c =
    rw c.from_residual.ensures
    (size_over c.loop-c.invariant c.loop-c-test.true c.requires (omega (arith, c.in_err-checked_mul.ensures)))

pub returns-in_err-number : goal.returns-in_err-number
returns-in_err-number c =
    rw c.from_residual-in_err-number.ensures
    (size_over c.loop-c.invariant c.loop-c-test.true c.requires
    (omega (arith, c.in_err-number.ensures, c.in_ok-checked_mul.ensures, c.digit_value.ensures)))

pub loop-c-preserved : goal.loop-c-preserved
loop-c-preserved c =
    size_more c.loop-c.invariant c.loop-c-test.true
    (omega (arith, c.in_ok-number.ensures, c.in_ok-checked_mul.ensures, c.digit_value.ensures))
    (omega (arith, c.in_ok-number.ensures))

pub returns : goal.returns
returns c = size_done c.loop-c.invariant c.loop-c-test.false
