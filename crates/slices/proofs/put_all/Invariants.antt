use Rattle.std.proofs.Common.{take, ◌+◌}
use Rattle.slices.specs.Written.{Wrote}
use Rattle.slices.proofs.put_all.Given as goal

abbrev pub invariant-loop-i : goal.invariant-loop-i
invariant-loop-i g l = Wrote l.initial.out l.at (take l.i l.xs) l.out (l.at + l.i)
