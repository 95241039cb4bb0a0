use mathlib.Core.Path.{refl}
use Rattle.steps.proofs.Records.{kind_read}
use Rattle.steps.proofs.Decoding.{seen_wide, seen_end}
use Rattle.steps.proofs.tokens.Records.peek.Goals as goal

pub returns-then-at-self : goal.returns-then-at-self
returns-then-at-self c =
    let h = c.args.self.held in
    seen_wide h c.if-at-self.true
    (kind_read _ c.unwrap_or.ensures c.try_from.ensures (h.each _ c.if-at-self.true).kind) refl refl refl refl refl

pub returns-else-at-self : goal.returns-else-at-self
returns-else-at-self c = seen_end c.requires c.if-at-self.false refl refl refl refl refl refl
