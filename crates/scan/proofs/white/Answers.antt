use mathlib.Core.Path.{sym, ◌∙◌}
use Rattle.scan.proofs.Runs.{skipped_none, skipped_more, skipped_end, skipped_stop}
use Rattle.scan.proofs.white.Goals as goal

pub loop-c-init : goal.loop-c-init
loop-c-init c = skipped_none c.requires.stands

pub step-c-requires : goal.step-c-requires
step-c-requires c = (c.loop-c.invariant.passed.stands, c.loop-c-test.true, c.requires.small)

pub loop-c-preserved : goal.loop-c-preserved
loop-c-preserved c = skipped_more c.loop-c.invariant (sym c.is_white_at.ensures ∙ c.if-is_white_at.true) c.step-c.ensures

pub returns-else-is_white_at : goal.returns-else-is_white_at
returns-else-is_white_at c = skipped_stop c.loop-c.invariant c.loop-c-test.true (sym c.is_white_at.ensures ∙ c.if-is_white_at.false)

pub returns-after-loop-c : goal.returns-after-loop-c
returns-after-loop-c c = skipped_end c.loop-c.invariant c.loop-c-test.false
