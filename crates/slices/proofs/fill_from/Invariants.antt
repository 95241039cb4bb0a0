use Rattle.slices.proofs.Clearing.{Filling}
use Rattle.slices.proofs.fill_from.Given as goal

abbrev pub invariant-loop-y : goal.invariant-loop-y
invariant-loop-y g l = Filling l.x l.initial.y-items l.y-items l.y-index
