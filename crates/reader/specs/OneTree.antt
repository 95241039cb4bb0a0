-- Demand 3 (docs/FORMAT.md) about two answers of `read_script`. Assumes nothing.
use Rattle.std.specs.Prelude.{◌≡◌, Result, Ok, List, ℕ, take}
use Rattle.definition.specs.Demand.{tree, full_entries, OneReading}
use Rattle.definition.specs.declared.refusal.Refusal.{Refusal}

-- For the script s the answer is r and the file slice at exit o, for t they are q and p. If both are accepted,
-- neither file has an entry of the full list, and the trees are equal, then each script was read with its own tokens,
-- and after striking these agree.
abbrev pub OneTree : List ℕ → List ℕ → Result ℕ Refusal → List ℕ → List ℕ → Result ℕ Refusal → Type 0
OneTree s o r t p q =
    (n m : ℕ) → r ≡ Ok n → q ≡ Ok m → full_entries (take n o) ≡ 0 → full_entries (take m p) ≡ 0
    → tree (take n o) ≡ tree (take m p) → OneReading s t
