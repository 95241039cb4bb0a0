-- What the functions on a tally ensure. Assumes nothing.
use Rattle.std.specs.Prelude.{◌≡◌, List, [], ◌∷◌, ◌++◌, ℕ, ◌+◌, ◌-◌, take, drop}
use Rattle.fallible.specs.declared.error.Error.{Error}
use Rattle.fallible.specs.declared.Tally.{Tally}
use Rattle.fallible.specs.Lists.{err_of, errs}

-- the error e is appended to the lists r and f, after those that the tally t counts
pub record Pushed (r f : List Error) (t : Tally) (e : Error) (r' f' : List Error) (t' : Tally) : Type 0 where
  pub is : t' ≡ record { reported = t.reported + 1; full = t.full + 1 }
  pub reported : errs r' (t.reported + 1) ≡ errs r t.reported ++ (err_of e ∷ [])
  pub full : errs f' (t.full + 1) ≡ errs f t.full ++ (err_of e ∷ [])

-- the reported errors from `from` to `end` are moved down in the list r, right after those that the tally t counts
pub record Propagated (r : List Error) (t : Tally) (from end : ℕ) (r' : List Error) (t' : Tally) : Type 0 where
  pub is : t' ≡ record { reported = t.reported + (end - from); full = t.full }
  pub reported : take t'.reported r' ≡ take t.reported r ++ drop from (take end r)
