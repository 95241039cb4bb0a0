use mathlib.Core.Path.{sym, ◌∙◌}
use Rattle.sentences.proofs.Messages.{walking_end, walking_found, walking_more}
use Rattle.sentences.proofs.find.cursor_at.Goals as goal

pub returns-then-eq : goal.returns-then-eq
returns-then-eq c =
    walking_found c.loop-c.invariant c.loop-c-test.true (sym (rw c.from.ensures at c.eq.ensures) ∙ c.if-eq.true)

pub loop-c-preserved : goal.loop-c-preserved
loop-c-preserved c =
    walking_more c.loop-c.invariant (sym (rw c.from.ensures at c.eq.ensures) ∙ c.if-eq.false) c.step-c.ensures

pub returns : goal.returns
returns c = walking_end c.loop-c.invariant c.loop-c-test.false
