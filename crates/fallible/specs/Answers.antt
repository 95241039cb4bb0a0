-- What the functions on answers ensure. Assumes nothing.
use Rattle.std.specs.Prelude.{◌≡◌, List, [], ◌∷◌, ◌++◌, ℕ, ◌+◌, ◌-◌, ◌<◌, ◌≤◌, ltb, length, take, drop}
use Rattle.definition.specs.Choice.{pick}
use Rattle.definition.specs.declared.refusal.Refusal.{Refusal}
use Rattle.fallible.specs.declared.parser.State.{State}
use Rattle.fallible.specs.declared.error.Error.{Error}
use Rattle.fallible.specs.Answer.{nowhere, Status, Done, Fatal, Refused, Answer}
use Rattle.fallible.specs.Lists.{err_of, errs}

-- a refusal: moves to the end of the n tokens
abbrev pub refused_at : ℕ → State → ℕ → Answer
refused_at n s m = record { status = Refused m; state = record { at = n; pos = s.pos; reported = s.reported; full = s.full }; place = nowhere; count = 0 }

-- the state with one more error in both lists
abbrev pub one_more : State → State
one_more s = record { at = s.at; pos = s.pos; reported = s.reported + 1; full = s.full + 1 }

-- the answer after an error is made; a 256th error is refused
abbrev pub making : Status → ℕ → State → Answer
making h n s = pick (ltb s.full 255) (record { status = h; state = one_more s; place = nowhere; count = 0 }) (refused_at n s 12)

abbrev pub raised : ℕ → State → Answer
raised n s = making Fatal n s

abbrev pub noted : ℕ → State → Answer
noted n s = making Done n s

-- the error e is made: the answer, and the error at the end of both lists
pub record Raised (expected : Answer) (r f : List Error) (s : State) (e : Error) (r' f' : List Error) (a : Answer) : Type 0 where
  pub is : a ≡ expected
  pub reported : s.full < 255 → errs r' (s.reported + 1) ≡ errs r s.reported ++ (err_of e ∷ [])
  pub full : s.full < 255 → errs f' (s.full + 1) ≡ errs f s.full ++ (err_of e ∷ [])

-- the error e is the last of the full list
pub record Entered (f : List Error) (s : State) (e : Error) (f' : List Error) (s' : State) : Type 0 where
  pub few : s.full < 255
  pub state : s' ≡ record { at = s.at; pos = s.pos; reported = s.reported; full = s.full + 1 }
  pub full : errs f' (s.full + 1) ≡ errs f s.full ++ (err_of e ∷ [])

-- no more is entered
pub record Filled (s : State) (x : Refusal) : Type 0 where
  pub many : 255 ≤ s.full
  pub refusal : x ≡ Refusal.Errors

-- ---- what `?` drops

-- a fatal answer: drops what was written since i, and the errors from j to k
pub record Cut (r : List Error) (a : Answer) (i j k : ℕ) (r' : List Error) (a' : Answer) : Type 0 where
  pub status : a'.status ≡ Fatal
  pub pos : a'.state.pos ≡ i
  pub reported : a'.state.reported ≡ j + (a.state.reported - k)
  pub is : take a'.state.reported r' ≡ take j r ++ drop k (take a.state.reported r)

abbrev pub AbandonedOf : Status → List Error → Answer → ℕ → ℕ → ℕ → List Error → Answer → Type 0
AbandonedOf Done r a i j k r' a' = (a' ≡ a) × (r' ≡ r)
AbandonedOf Fatal r a i j k r' a' = Cut r a i j k r' a'
AbandonedOf (Refused m) r a i j k r' a' = (a' ≡ a) × (r' ≡ r)

pub record Abandoned (r : List Error) (a : Answer) (i j k : ℕ) (r' : List Error) (a' : Answer) : Type 0 where
  pub at : a'.state.at ≡ a.state.at
  pub full : a'.state.full ≡ a.state.full
  pub low : i ≤ a'.state.pos
  pub high : a'.state.pos ≤ a.state.pos
  pub first : j ≤ a'.state.reported
  pub last : a'.state.reported ≤ a.state.reported
  pub is : AbandonedOf a.status r a i j k r' a'

-- what `abandon` requires
pub record Cuts (r : List Error) (s : State) (i j k : ℕ) : Type 0 where
  pub pos : i ≤ s.pos
  pub order : j ≤ k
  pub own : k ≤ s.reported
  pub within : s.reported ≤ length r

-- ---- dropping errors

-- the answer a, with only the first j reported errors
abbrev pub silent : Answer → ℕ → Answer
silent a j = record { status = a.status; state = record { at = a.state.at; pos = a.state.pos; reported = j; full = a.state.full }; place = a.place; count = a.count }
