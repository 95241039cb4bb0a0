use Rattle.std.proofs.Common.{◌≡◌, true, ◌↔◌, All, length}
use Rattle.replay_cases.proofs.all_are.Given as goal

-- what was passed equals the value
abbrev pub invariant-loop-after : goal.invariant-loop-after
invariant-loop-after g l = All (λ x. g.T.PartialEq.eq x l.fn.value ≡ true) l.fn.slice
    ↔ All (λ x. g.T.PartialEq.eq x l.fn.value ≡ true) l.left

-- the elements that are left
abbrev pub decreases-loop-after : goal.decreases-loop-after
decreases-loop-after g l = length l.left
