use Rattle.definition.specs.Places.{place_of}
use mathlib.Core.Path.{refl}
use Rattle.fallible.proofs.Calls.{left, stop_is, refusal_is}
use Rattle.items.proofs.Signatures.{signature_stops, signature_untyped, signature_reads}
use native.Mathlib.Omega.{arith}
use Rattle.items.proofs.functions.signature.Goals as goal

pub returns-in_err-count : goal.returns-in_err-count
returns-in_err-count c = rw (left c.from_residual.ensures.1)
    (signature_stops {p = place_of c.args.place} c.requires c.in_err-count.ensures (refusal_is _))

pub returns-in_err-abandon : goal.returns-in_err-abandon
returns-in_err-abandon c = rw (left c.from_residual-in_err-abandon.ensures.1)
    (signature_untyped c.requires c.in_ok-count.ensures (omega arith)
    c.return_type-returned.ensures c.in_err-abandon.ensures refl (stop_is _))

pub returns : goal.returns
returns c =
    signature_reads c.requires c.in_ok-count.ensures (omega arith)
    c.return_type-returned.ensures c.in_ok-abandon.ensures refl refl c.exchange.ensures
