use mathlib.Core.Path.{◌∙◌}
use native.Mathlib.Omega.{arith}
use borrow.Author.Tests.{ne_eqb}
use Rattle.classes.proofs.Bits.{binary_told, digit_told, hexadecimal_told}
use Rattle.classes.proofs.character.is_digit_of.Goals as goal

pub returns-in-2 : goal.returns-in-2
returns-in-2 c = rw c.in-2.is (c.has.ensures ∙ binary_told _ c.ranges.c.fits)

pub returns-in-10 : goal.returns-in-10
returns-in-10 c = rw c.in-10.is (c.has-in-10.ensures ∙ digit_told _ c.ranges.c.fits)

pub returns-in_default : goal.returns-in_default
returns-in_default c =
    rw (ne_eqb c.args.base 2 (λ e. omega arith), ne_eqb c.args.base 10 (λ e. omega arith))
    (c.has-in_default.ensures ∙ hexadecimal_told _ c.ranges.c.fits)
