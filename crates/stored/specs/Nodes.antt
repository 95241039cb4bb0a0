-- Children among the nodes that wait, and the phases of a walk. Assumes nothing.
use Rattle.std.specs.Prelude.{◌≡◌, List, ℕ, ◌+◌, ◌≤◌, length, drop, Option, Some, None, MatchOption}
use Rattle.std.proofs.Math.Option.{none, some}
use Rattle.definition.specs.Slices.{MutLent, old, new}
use Rattle.definition.specs.Stored as S
use Rattle.definition.specs.Stored.{pop}
use Rattle.stored.specs.declared.judge.Phase.{Phase}
use Rattle.stored.specs.declared.judge.Judged.{Judged}
use Rattle.stored.specs.declared.nodes.Role.{Role}
use Rattle.stored.specs.Table.{sort_of, children_of}

-- children of the kinds ks are the first n of the nodes w that wait
pub record Came (ks w : List ℕ) (n : ℕ) : Type 0 where
  pub number : n ≡ length ks
  pub short : n ≤ length w
  pub off : pop ks w ≡ some (drop n w)

-- they are, or are not
abbrev pub Come : List ℕ → List ℕ → Option ℕ → Type 0
Come ks w r = MatchOption r (pop ks w ≡ none) (λ n. Came ks w n)

abbrev pub phase_of : Option ℕ → List ℕ → S.Phase
phase_of None st = S.waiting st
phase_of (Some last) st = S.closed last

-- w has the nodes that wait, from top on
abbrev pub as_phase : Phase → List ℕ → S.Phase
as_phase p w = phase_of p.last (drop p.top w)

-- the nodes that wait are within the slice, and there is room for one more
abbrev pub Stands : Phase → List ℕ → Type 0
Stands p w = (1 ≤ p.top) × (p.top ≤ length w)

-- the field stands right in the phase p, where the nodes w wait, and then the phase is that of j, where the nodes v do
pub record Judgement (x : Role) (p : Phase) (w : List ℕ) (j : Judged) (v : List ℕ) : Type 0 where
  pub phase : S.judge (sort_of x) (children_of x) (as_phase p w) ≡ some (as_phase j.phase v)
  pub children : j.children ≡ length (children_of x)
  pub short : j.children ≤ length w
  pub low : p.top ≤ j.phase.top + 1
  pub high : j.phase.top ≤ length v

-- it stands right, or does not
abbrev pub Verdict : Role → Phase → List ℕ → List ℕ → Option Judged → Type 0
Verdict x p w v r =
    MatchOption r (S.judge (sort_of x) (children_of x) (as_phase p w) ≡ none) (λ j. Judgement x p w j v)

-- the same, where the nodes that wait are lent
abbrev pub Judges : Role → Phase → MutLent → Option Judged → Type 0
Judges x p waiting r =
    Verdict x p (old waiting) (new waiting) r × (length (new waiting) ≡ length (old waiting))
