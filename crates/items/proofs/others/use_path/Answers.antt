use mathlib.Core.Path.{refl}
use Rattle.fallible.proofs.Calls.{left, stop_is}
use Rattle.items.proofs.Aliased.{keyword_stops, keyword_on, use_step}
use Rattle.items.proofs.others.use_path.Goals as goal

pub returns-in_err-expect : goal.returns-in_err-expect
returns-in_err-expect c = rw (left c.from_residual.ensures.1)
    (λ d. keyword_stops _ c.in_err-expect.ensures (λ rd. use_step _ _ (c.peek-t.ensures.place _)) (stop_is _))

pub returns : goal.returns
returns c = λ d. keyword_on _ c.in_ok-expect.ensures (λ rd. use_step _ _ (c.peek-t.ensures.place _)) refl (c.path.ensures d)
