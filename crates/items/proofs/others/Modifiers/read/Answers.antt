use Rattle.steps.proofs.SameKind.{same_number, other_number}
use Rattle.items.proofs.Aliased.{modifiers_none, modifiers_distinct, modifiers_internal}
use Rattle.items.proofs.others.Modifiers.read.Goals as goal

pub returns-in_default : goal.returns-in_default
returns-in_default c =
    c.loop-m.invariant.1 _
    (modifiers_none c.peek-t.ensures c.loop-m.invariant.0 (other_number c.in_default.not-KwDistinct) (other_number c.in_default.not-KwInternal))

pub loop-m-preserved-in-KwDistinct : goal.loop-m-preserved-in-KwDistinct
loop-m-preserved-in-KwDistinct c = (
  c.peek-t.ensures.end,
  λ m g. c.loop-m.invariant.1 m (modifiers_distinct c.peek-t.ensures (same_number c.in-KwDistinct.is) g),
)

pub loop-m-preserved : goal.loop-m-preserved
loop-m-preserved c = (
  c.peek-t.ensures.end,
  λ m g. c.loop-m.invariant.1 m (modifiers_internal c.peek-t.ensures (same_number c.in-KwInternal.is) g),
)
