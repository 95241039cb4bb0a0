-- One field of a stored file, and where the walk over it stands. Assumes nothing.
use Rattle.std.specs.Prelude.{◌≡◌, List, [], ◌++◌, ◌∷◌, ℕ, ◌+◌, ◌*◌, ◌≤◌, length, take, Option, MatchOption, Result, MatchResult}
use Rattle.std.proofs.Math.Option as Math
use Rattle.definition.specs.declared.refusal.Refusal.{Refusal}
use Rattle.definition.specs.Slices.{MutLent, old, new}
use Rattle.definition.specs.Numbers.{refusal_number, number_in, count_in}
use Rattle.definition.specs.Format.{Row}
use Rattle.definition.specs.Stored as S
use Rattle.definition.specs.Stored.{Step, step_at, waiting, Loaded, Loading, ahead, walk_from, steps_words}
use Rattle.stored.specs.declared.field.Field.{Field}
use Rattle.stored.specs.declared.field.Found.{Found}
use Rattle.stored.specs.declared.Reached.{Reached}
use Rattle.stored.specs.declared.judge.Phase.{Phase}
use Rattle.stored.specs.Table.{as_found}
use Rattle.stored.specs.Nodes.{as_phase}

-- ---- a field

abbrev pub as_field : Field → S.Field
as_field Field.End = S.end
as_field (Field.Skipped size) = S.skipped size
as_field (Field.Found f) = S.found (as_found f)

-- the field of a row and a body, or none where it is 14
abbrev pub WithRow : Math.Option Row → List ℕ → Option Found → Type 0
WithRow w body r =
    MatchOption r (S.with_row (length body) body w ≡ S.bad) (λ f. S.with_row (length body) body w ≡ S.found (as_found f))

-- what the bytes begin with; a refusal where that is 14
abbrev pub Stepped : List ℕ → Result Field Refusal → Type 0
Stepped bs r = MatchResult r (λ f. S.step bs ≡ as_field f) (λ e. (S.step bs ≡ S.bad) × (refusal_number e ≡ 14))

-- ---- the walk

-- the walk over a whole file
abbrev pub walked : List ℕ → Loaded
walked file = S.walk 0 0 (waiting []) file

-- the steps so far are written to the slice, and the walk goes on in the phase p
pub record Walked (file : List ℕ) (p : S.Phase) (r : Reached) (o : List ℕ) : Type 0 where
  pub done : List Step
  pub count : r.count ≡ length done
  pub written : take (4 * r.count) o ≡ steps_words done
  pub rest : walked file ≡ ahead done (walk_from file r.at p)
  pub few : 3 * r.count ≤ r.at
  pub inside : r.at ≤ length file

-- one step was written
pub record WroteStep (r : Reached) (f : Found) (o : List ℕ) (r' : Reached) (o' : List ℕ) : Type 0 where
  pub at : r'.at ≡ r.at + 3 + f.size
  pub count : r'.count ≡ r.count + 1
  pub words : take (4 * r'.count) o' ≡ take (4 * r.count) o ++ steps_words (step_at r.at (as_found f) ∷ [])
  pub size : length o' ≡ length o

-- n steps are written, and no more follow
pub record Finished (l : Loaded) (n : ℕ) (o : List ℕ) : Type 0 where
  pub done : List Step
  pub all : l ≡ S.steps done
  pub count : n ≡ length done
  pub written : take (4 * n) o ≡ steps_words done
  pub few : 4 * n ≤ length o

-- the answer at the end of a file
abbrev pub Finishes : Phase → ℕ → Result ℕ Refusal → Type 0
Finishes p count r =
    MatchResult r (λ n. (n ≡ count) × (S.finish (as_phase p []) ≡ S.steps []))
    (λ e. S.finish (as_phase p []) ≡ S.refused (refusal_number e))

abbrev pub AllWalked : Loaded → Result ℕ Refusal → MutLent → Type 0
AllWalked l r records =
    MatchResult r (λ n. Finished l n (new records)) (λ e. l ≡ S.refused (refusal_number e))
    × (length (new records) ≡ length (old records))

-- the answer, with the slice at exit
abbrev pub answer : Result ℕ Refusal → List ℕ → Loading
answer r o = record { number = number_in r; count = count_in r; records = o }
