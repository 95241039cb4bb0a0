use borrow.Author.Tests.{ne_eqb}
use Rattle.definition.specs.Ascii.{ascii}
use Rattle.steps.proofs.SameKind.{other_number}
use Rattle.leaves.proofs.name_of.Goals as goal

pub returns-in_default : goal.returns-in_default
unfolding ascii
returns-in_default c = rw (ne_eqb _ _ (other_number c.in_default.not-Identifier))
