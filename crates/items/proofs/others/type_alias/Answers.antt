use Rattle.fallible.proofs.Calls.{left, stop_is}
use Rattle.items.proofs.Aliased.{keyword_stops, keyword_on, modified_reads}
use mathlib.Core.Path.{refl}
use Rattle.items.proofs.others.type_alias.Goals as goal

pub returns-in_err-expect : goal.returns-in_err-expect
returns-in_err-expect c = rw (left c.from_residual.ensures.1)
    (modified_reads _ c.requires c.peek-t.ensures c.read-modifiers.ensures
    (keyword_stops _ c.in_err-expect.ensures (λ rd. refl) (stop_is _)))

pub returns : goal.returns
returns c =
    modified_reads _ c.requires c.peek-t.ensures c.read-modifiers.ensures
    (keyword_on _ c.in_ok-expect.ensures (λ rd. refl) refl c.alias.ensures)
