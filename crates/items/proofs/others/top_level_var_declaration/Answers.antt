use mathlib.Core.Path.{refl}
use Rattle.fallible.proofs.Calls.{left, stop_is}
use Rattle.items.proofs.Aliased.{keyword_stops, keyword_on, var_step}
use Rattle.items.proofs.others.top_level_var_declaration.Goals as goal

pub returns-in_err-expect : goal.returns-in_err-expect
returns-in_err-expect c = rw (left c.from_residual.ensures.1)
    (keyword_stops _ c.in_err-expect.ensures (λ rd. var_step _ _ (c.peek-t.ensures.place _)) (stop_is _))

pub returns : goal.returns
returns c = keyword_on _ c.in_ok-expect.ensures (λ rd. var_step _ _ (c.peek-t.ensures.place _)) refl c.declaration.ensures
