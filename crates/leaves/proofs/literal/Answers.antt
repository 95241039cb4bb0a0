use Rattle.steps.proofs.SameKind.{same_number, other_number}
use Rattle.leaves.proofs.Atoms.{integer_reads, name_reads, string_reads, true_reads, false_reads, end_reads, other_reads}
use Rattle.leaves.proofs.literal.Goals as goal

pub returns-in-Integer : goal.returns-in-Integer
returns-in-Integer c = integer_reads c.requires c.peek-t.ensures (same_number c.in-Integer.is) c.leaf.ensures

pub returns-in-Identifier : goal.returns-in-Identifier
returns-in-Identifier c = name_reads c.requires c.peek-t.ensures (same_number c.in-Identifier.is) c.name.ensures

pub returns-in-String : goal.returns-in-String
returns-in-String c = string_reads c.requires c.peek-t.ensures (same_number c.in-String.is) c.leaf-in-String.ensures

pub returns-in-KwTrue : goal.returns-in-KwTrue
returns-in-KwTrue c = true_reads c.requires c.peek-t.ensures (same_number c.in-KwTrue.is) c.leaf-in-KwTrue.ensures

pub returns-in-KwFalse : goal.returns-in-KwFalse
returns-in-KwFalse c = false_reads c.requires c.peek-t.ensures (same_number c.in-KwFalse.is) c.leaf-in-KwFalse.ensures

pub returns-in-End : goal.returns-in-End
returns-in-End c =
    end_reads c.requires c.peek-t.ensures c.raise.ensures (same_number c.in-End.is) c.at_end-error.ensures

pub returns-in_default : goal.returns-in_default
returns-in_default c =
    other_reads c.requires c.peek-t.ensures c.raise-in_default.ensures (other_number c.in_default.not-Integer)
    (other_number c.in_default.not-Identifier) (other_number c.in_default.not-String)
    (other_number c.in_default.not-KwTrue) (other_number c.in_default.not-KwFalse)
    (other_number c.in_default.not-End) c.new-error.ensures
