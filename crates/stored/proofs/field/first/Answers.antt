use mathlib.Core.Path.{refl, sym, ap, ◌∙◌}
use native.Mathlib.Omega.{arith}
use Rattle.definition.specs.Stored.{skipped}
use Rattle.stored.proofs.OneField.{step_end, step_short, step_long, step_skips, rowed}
use Rattle.stored.proofs.field.first.Goals as goal

pub returns-then-bytes-eq0 : goal.returns-then-bytes-eq0
returns-then-bytes-eq0 c = step_end _ c.if-bytes-eq0.true

pub returns-then-bytes-lt3 : goal.returns-then-bytes-lt3
returns-then-bytes-lt3 c = (step_short _ c.if-bytes-eq0.false c.if-bytes-lt3.true, refl)

pub returns-then-bytes-size : goal.returns-then-bytes-size
returns-then-bytes-size c =
    (step_long _ c.if-bytes-lt3.false (omega (arith, c.if-bytes-size.true, c.word-size.ensures)), refl)

pub returns-then-number-ge-SKIPPED : goal.returns-then-number-ge-SKIPPED
returns-then-number-ge-SKIPPED c =
    step_skips _ c.if-bytes-lt3.false (omega (arith, c.if-bytes-size.false, c.word-size.ensures))
    c.if-number-ge-SKIPPED.true ∙ ap skipped (sym c.word-size.ensures)

pub returns-in-Some : goal.returns-in-Some
returns-in-Some c =
    rowed _ c.if-bytes-lt3.false (omega (arith, c.if-bytes-size.false, c.word-size.ensures))
    (omega (arith, c.if-number-ge-SKIPPED.false)) _ (omega (arith, c.word-size.ensures)) _ c.in-Some.ensures

pub returns-in-None : goal.returns-in-None
returns-in-None c = (
  rowed _ c.if-bytes-lt3.false (omega (arith, c.if-bytes-size.false, c.word-size.ensures))
      (omega (arith, c.if-number-ge-SKIPPED.false)) _ (omega (arith, c.word-size.ensures)) _ c.in-None.ensures,
  refl,
)
