use Rattle.definition.specs.Places.{place_of}
use mathlib.Core.Path.{refl}
use native.Mathlib.Omega.{arith}
use Rattle.fallible.specs.Answer.{nowhere}
use Rattle.fallible.proofs.Calls.{left, refusal_is}
use Rattle.items.proofs.Definitions.{whole_refused, whole_reads}
use Rattle.items.proofs.functions.whole_function.Goals as goal

pub returns-in_err-statements : goal.returns-in_err-statements
returns-in_err-statements c = rw (left c.from_residual.ensures.1)
    (whole_refused c.requires refl c.in_err-statements.ensures {p = place_of c.args.head.place} (refusal_is _))

pub write_text_node-requires : goal.write_text_node-requires
write_text_node-requires c = omega (arith, (c.write_node.ensures nowhere 0).high)

pub returns : goal.returns
returns c =
    whole_reads c.requires refl c.in_ok-statements.ensures c.exchange.ensures (c.write_node.ensures _ _) (c.write_text_node.ensures _ _)
