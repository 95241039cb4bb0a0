use mathlib.Core.Path.{refl}
use Rattle.steps.proofs.Decoding.{seen_text}
use Rattle.steps.proofs.tokens.Tokens.peek.Goals as goal

pub returns : goal.returns
returns c =
    let v = rw (c.records.ensures.0, c.records.ensures.1) at c.peek-t.ensures in
    seen_text v (v.part c.args.self.parts) refl
