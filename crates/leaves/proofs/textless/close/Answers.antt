use mathlib.Core.Path.{sym, ◌∙◌}
use Rattle.fallible.proofs.Calls.{left, refused_is, not_refused, exit_refused}
use Rattle.leaves.proofs.Atoms.{close_refused, close_on}
use Rattle.leaves.proofs.textless.close.Goals as goal

pub returns-in_err-recover-2 : goal.returns-in_err-recover-2
returns-in_err-recover-2 c =
    let h = sym c.recover.ensures ∙ c.in_ok-recover.was in
    let g = sym c.recover-2.ensures ∙ c.in_err-recover-2.was in
    rw (left c.from_residual-in_err-recover-2.ensures.1 ∙ sym (refused_is _ g))
    (close_refused c.requires (not_refused _ h) c.expect.ensures (exit_refused _ g))

pub returns : goal.returns
returns c =
    let h = sym c.recover.ensures ∙ c.in_ok-recover.was in
    let g = sym c.recover-2.ensures ∙ c.in_ok-recover-2.was in
    close_on c.requires (not_refused _ h) c.expect.ensures (not_refused _ g)
