use Prim.Native.Nat.{◌+◌}
use native.Mathlib.Omega.{arith}
use Rattle.source.proofs.Laws.{code_foreign, first_low, second_inside, second_bounds, code_two}
use Rattle.source.proofs.wide_code.Goals as goal

pub returns-then-b-gt195 : goal.returns-then-b-gt195
returns-then-b-gt195 c = code_foreign c.requires.0 c.requires.1 c.if-b-gt195.true

pub overflow_sub-result : goal.overflow_sub-result
overflow_sub-result c = omega (arith, first_low c.requires.0 c.requires.1 c.requires.2 c.if-b-gt195.false)

pub bounds-s-c-2 : goal.bounds-s-c-2
bounds-s-c-2 c = second_inside c.requires.0 c.requires.1 c.requires.2 c.if-b-gt195.false

pub overflow_sub-result-2 : goal.overflow_sub-result-2
overflow_sub-result-2 c =
    let f = c.type_inv.s (c.args.c.at + 1) in
    (second_bounds c.requires.0 c.requires.1 c.requires.2 c.if-b-gt195.false f.fits).0

pub overflow_add-result-2 : goal.overflow_add-result-2
overflow_add-result-2 c =
    let f = c.type_inv.s (c.args.c.at + 1) in
    let b = second_bounds c.requires.0 c.requires.1 c.requires.2 c.if-b-gt195.false f.fits in
    record { fits = omega (arith, b, c.if-b-gt195.false) }

pub returns : goal.returns
returns c =
    let f = c.type_inv.s (c.args.c.at + 1) in
    code_two c.requires.0 c.requires.1 c.requires.2 c.if-b-gt195.false f.fits
