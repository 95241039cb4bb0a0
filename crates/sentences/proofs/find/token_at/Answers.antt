use mathlib.Core.Path.{sym, ◌∙◌}
use Rattle.steps.proofs.SameKind.{same_number, other_number}
use Rattle.sentences.proofs.Messages.{seeking_none, seeking_found, seeking_more}
use Rattle.sentences.proofs.find.token_at.Goals as goal

pub returns-in-End : goal.returns-in-End
returns-in-End c = seeking_none c.loop-t.invariant c.peek-t.ensures (same_number c.in-End.is)

pub returns-then-eq : goal.returns-then-eq
returns-then-eq c =
    seeking_found c.loop-t.invariant c.peek-t.ensures (other_number c.in_default.not-End) (sym c.eq.ensures ∙ c.if-eq.true)

pub loop-t-preserved : goal.loop-t-preserved
loop-t-preserved c =
    seeking_more c.loop-t.invariant c.peek-t.ensures (other_number c.in_default.not-End) (sym c.eq.ensures ∙ c.if-eq.false)
