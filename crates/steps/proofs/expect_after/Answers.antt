use Rattle.steps.proofs.expect_after.Goals as goal

pub returns : goal.returns
returns c p k = rw (c.records.ensures.0, c.records.ensures.1) at c.expect_after.ensures p k
