use Rattle.steps.proofs.SameKind.{same_number, other_number, equal_kinds, unequal_kinds}
use Rattle.leaves.proofs.Lists.{comma_there, comma_close, comma_end, comma_other}
use Rattle.leaves.proofs.textless.comma.Goals as goal

pub returns-in-Comma : goal.returns-in-Comma
returns-in-Comma c = comma_there c.requires c.peek-t.ensures (same_number c.in-Comma.is)

pub returns-then-eq : goal.returns-then-eq
returns-then-eq c =
    comma_close c.requires c.peek-t.ensures (other_number c.in_default.not-Comma)
    (equal_kinds c.peek-t.result.kind c.args.close c.eq.ensures c.if-eq.true)

pub returns-in-End : goal.returns-in-End
returns-in-End c =
    comma_end c.requires c.peek-t.ensures (other_number c.in_default.not-Comma)
    (unequal_kinds c.peek-t.result.kind c.args.close c.eq.ensures c.if-eq.false) (same_number c.in-End.is)

pub returns : goal.returns
returns c =
    comma_other c.requires c.peek-t.ensures (other_number c.in_default.not-Comma)
    (unequal_kinds c.peek-t.result.kind c.args.close c.eq.ensures c.if-eq.false)
    (other_number c.in_default-kind.not-End) c.new-error.ensures c.note.ensures
