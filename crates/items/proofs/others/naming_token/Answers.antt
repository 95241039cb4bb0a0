use Rattle.steps.proofs.SameKind.{same_number, equal_kinds, unequal_kinds, other_number}
use Rattle.items.proofs.Aliased.{named_end, named_other}
use mathlib.Core.Path.{refl}
use Rattle.items.proofs.others.naming_token.Goals as goal

pub returns-in-End : goal.returns-in-End
returns-in-End c = λ d m o. named_end _ _ c.requires c.peek-t.ensures d m o (same_number c.in-End.is) c.refuse.ensures

pub returns-then-eq : goal.returns-then-eq
returns-then-eq c = record {
  seen = c.peek-t.ensures;
  kind = equal_kinds _ _ c.eq.ensures c.if-eq.true;
  state = refl;
  reported = refl;
  full = refl;
}

pub returns : goal.returns
returns c = λ d m o. named_other _ _ c.requires c.peek-t.ensures d m o (other_number c.in_default.not-End)
    (unequal_kinds _ _ c.eq.ensures c.if-eq.false) c.at.ensures c.raise.ensures
