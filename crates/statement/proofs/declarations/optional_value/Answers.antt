use mathlib.Core.Path.{refl}
use native.Mathlib.Omega.{arith}
use Rattle.steps.proofs.SameKind.{same_number, other_number}
use Rattle.statement.specs.Post.{Given}
use Rattle.statement.proofs.declarations.optional_value.Goals as goal

pub returns-in-Equals : goal.returns-in-Equals
returns-in-Equals c = record {
  moved = omega (arith, c.requires, c.peek-t.ensures, c.expression.ensures.moved);
  given = Given.Expression;
  t = c.peek-t.result;
  seen = c.peek-t.ensures;
  tagged = refl;
  is = (same_number c.in-Equals.is, c.expression.ensures);
}

pub returns-in-LArrow : goal.returns-in-LArrow
returns-in-LArrow c = record {
  moved = omega (arith, c.requires, c.peek-t.ensures, c.compound.ensures.moved);
  given = Given.Compound;
  t = c.peek-t.result;
  seen = c.peek-t.ensures;
  tagged = refl;
  is = (same_number c.in-LArrow.is, c.compound.ensures);
}

pub returns-in_default : goal.returns-in_default
returns-in_default c = record {
  moved = omega (arith, c.requires);
  given = Given.Nothing;
  t = c.peek-t.result;
  seen = c.peek-t.ensures;
  tagged = refl;
  is = ((other_number c.in_default.not-Equals, other_number c.in_default.not-LArrow), (refl, (refl, (refl, refl))));
}
