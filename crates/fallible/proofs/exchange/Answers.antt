use native.Mathlib.Omega.{arith}
use Rattle.fallible.proofs.Exchanges.{exchanged}
use Rattle.fallible.proofs.exchange.Goals as goal

pub returns : goal.returns
returns c =
    exchanged _ _ c.requires.0 c.requires.1.0 c.requires.1.1 c.turn.ensures.after (omega (arith, c.turn.ensures.len))
