use Rattle.steps.proofs.SameKind.{same_number, other_number, equal_kinds, unequal_kinds}
use Rattle.steps.proofs.OneToken.{expect_there, expect_end, expect_other}
use Rattle.steps.proofs.textless.expect.Goals as goal

pub returns-then-eq : goal.returns-then-eq
returns-then-eq c =
    expect_there c.requires.0 c.peek-t.ensures c.requires.1 (equal_kinds c.peek-t.result.kind c.args.wanted c.eq.ensures c.if-eq.true)

pub returns-in-End : goal.returns-in-End
returns-in-End c =
    expect_end c.requires.0 c.peek-t.ensures (unequal_kinds c.peek-t.result.kind c.args.wanted c.eq.ensures c.if-eq.false) c.raise.ensures
    (same_number c.in-End.is) c.new-error.ensures

pub returns : goal.returns
returns c =
    expect_other c.requires.0 c.peek-t.ensures
    (unequal_kinds c.peek-t.result.kind c.args.wanted c.eq.ensures c.if-eq.false) c.raise-2.ensures
    (other_number c.in_default.not-End) c.new-error-2.ensures
