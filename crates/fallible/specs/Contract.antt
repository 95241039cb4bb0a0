-- The records of Tallies, Answers and Orders, stated over the parameters of the functions. Assumes nothing.
use Rattle.std.specs.Prelude.{◌≡◌, Result, MatchResult, Option, ⊤, List, ℕ}
use Rattle.std.specs.Borrow.{MutBor}
use Rattle.definition.specs.Slices.{old, new}
use Rattle.definition.specs.declared.place.Place.{Place}
use Rattle.fallible.specs.declared.error.Error.{Error}
use Rattle.fallible.specs.declared.parser.State.{State}
use Rattle.fallible.specs.declared.parser.Parser.{Parser}
use Rattle.definition.specs.declared.refusal.Refusal.{Refusal}
use Rattle.definition.specs.Numbers.{refusal_number}
use Rattle.fallible.specs.declared.Stop.{Stop}
use Rattle.fallible.specs.declared.Stop.TheVariants.{Refused}
use Rattle.fallible.specs.Answer.{Answer, node_answer, told, stopped, recovered}
use Rattle.fallible.specs.declared.Tally.{Tally}
use denote.Triple.Both.{Both}
use Rattle.fallible.specs.Tallies as T
use Rattle.fallible.specs.Answers as A
use Rattle.fallible.specs.Orders as O

-- ---- a list of errors that is lent, now, and at entry and at exit

abbrev pub MutErrors : Type 0
MutErrors = MutBor (List Error)

abbrev pub LentErrors : Type 0
LentErrors = Both MutErrors MutErrors

-- ---- a tally

abbrev pub Pushed : Tally → LentErrors → LentErrors → Error → Tally → Type 0
Pushed t reported full e r = T.Pushed (old reported) (old full) t e (new reported) (new full) r

abbrev pub Propagated : Tally → LentErrors → ℕ → ℕ → Tally → Type 0
Propagated t reported from end r = T.Propagated (old reported) t from end (new reported) r

-- ---- an error

-- it is made: the answer, and the error at the end of both lists
abbrev pub Raised : Answer → LentErrors → LentErrors → State → Error → Answer → Type 0
Raised expected reported full st e r = A.Raised expected (old reported) (old full) st e (new reported) (new full) r

-- ---- the parser

abbrev pub StopOf : Refusal → Stop → Type 0
StopOf refusal stop = stop ≡ Refused refusal

-- the script is refused
abbrev pub Refuses : ℕ → Refusal → State → State → Stop → Type 0
Refuses n refusal s s' r = stopped r s' ≡ A.refused_at n s (refusal_number refusal)

-- an error is made, and the parser goes on
abbrev pub Notes : ℕ → Error → Parser → Parser → Result ⊤ Refusal → Type 0
Notes n e p p' r = A.Raised (A.noted n p.state) p.reported p.full p.state e p'.reported p'.full (told r p'.state)

-- an error is entered in the full list alone, or refused
abbrev pub Enters : Error → Parser → Parser → Result ⊤ Refusal → Type 0
Enters e p p' r = MatchResult r (λ _. A.Entered p.full p.state e p'.full p'.state) (A.Filled p.state)

-- an error is made, and is fatal
abbrev pub Raises : ℕ → Error → Parser → Parser → Stop → Type 0
Raises n e p p' r = A.Raised (A.raised n p.state) p.reported p.full p.state e p'.reported p'.full (stopped r p'.state)

abbrev pub Recovers : Result Place Stop → Result (Option Place) Refusal → Type 0
Recovers called r = r ≡ recovered called

-- for `?`: what was written since the state `from`, and the errors from its count to that of `before`, are dropped
abbrev pub Cuts : MutErrors → State → State → State → Type 0
Cuts reported st from before = A.Cuts reported.now st from.pos from.reported before.reported

abbrev pub Abandoned : LentErrors → State → State → Result Place Stop → State → State → Result Place Stop → Type 0
Abandoned reported s s' called from before r =
    A.Abandoned (old reported) (node_answer called s) from.pos from.reported before.reported (new reported)
    (node_answer r s')

-- ---- the order

abbrev pub Exchanged : LentErrors → ℕ → ℕ → ℕ → Type 0
Exchanged reported j k m = O.Exchanged (old reported) j k m (new reported)
