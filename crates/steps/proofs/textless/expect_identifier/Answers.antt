use Rattle.steps.proofs.SameKind.{same_number, other_number}
use Rattle.steps.proofs.OneToken.{identifier_there, identifier_end, identifier_other}
use Rattle.steps.proofs.textless.expect_identifier.Goals as goal

pub returns-in-Identifier : goal.returns-in-Identifier
returns-in-Identifier c = identifier_there c.requires c.peek-t.ensures (same_number c.in-Identifier.is)

pub returns-in-End : goal.returns-in-End
returns-in-End c =
    identifier_end c.requires c.peek-t.ensures c.raise.ensures (same_number c.in-End.is)
    c.at_end-error.ensures

pub returns-in_default : goal.returns-in_default
returns-in_default c =
    identifier_other c.requires c.peek-t.ensures c.raise-in_default.ensures
    (other_number c.in_default.not-Identifier) (other_number c.in_default.not-End)
    c.at-error.ensures
