use Rattle.items.specs.Items.{Modified}
use Rattle.std.specs.Prelude.{false}
use Rattle.items.specs.declared.others.Modifiers.{Modifiers}
use Prim.Native.Nat.{◌-◌, ◌≤◌}
use Rattle.items.proofs.others.Modifiers.read.Given as goal

abbrev pub invariant-loop-m : goal.invariant-loop-m
invariant-loop-m l =
    (l.m.next ≤ l.tokens.count) × ((m : Modifiers) → Modified l.tokens.records.now l.tokens.count
    l.m.distinct l.m.internal l.m.next m → Modified l.tokens.records.now l.tokens.count false false l.from m)

abbrev pub decreases-loop-m : goal.decreases-loop-m
decreases-loop-m l = l.tokens.count - l.m.next
