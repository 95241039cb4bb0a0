use Rattle.leaves.proofs.Values.{Numbering}
use Rattle.leaves.proofs.array_size.Given as goal

abbrev pub invariant-loop-c : goal.invariant-loop-c
invariant-loop-c l = Numbering l.base l.text l.c-index l.number
