use mathlib.Core.Path.{subst}
use Rattle.stored.specs.Walk.{Stepped}
use Rattle.std.proofs.lemmas.List.{take_rest}
use Rattle.stored.proofs.field.step.Goals as goal

pub returns : goal.returns
returns c = subst (λ bs. Stepped bs c.first.result) (take_rest c.args.file.now c.args.at) c.first.ensures
