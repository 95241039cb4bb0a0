use Prim.Native.Nat.{ℕ, ◌+◌, ◌-◌}
use mathlib.Core.Bool.{Bool}
use lib.ListN.{length}
use Rattle.source.specs.Place.{along_line}
use Rattle.scan.specs.Scan.{Tells, Asks, span_while}
use Rattle.scan.proofs.Laws.{Spanning}
use Rattle.scan.proofs.scan_while.Given as goal

abbrev pub invariant-loop-count : goal.invariant-loop-count
invariant-loop-count g l =
    let c = along_line l.from l.count in
    Asks l.s c l.text (l.start + l.count)
    × ((holds : ℕ → Bool) → Tells (goal.F-post g l.test) holds
    → Spanning (span_while holds) l.s l.from l.initial.text l.start c l.text (l.start + l.count))

abbrev pub decreases-loop-count : goal.decreases-loop-count
decreases-loop-count g l = length l.s - (l.from.at + l.count)
