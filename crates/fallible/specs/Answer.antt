-- What a call of the parser gives, with the state after it. Assumes nothing.
use Rattle.std.specs.Prelude.{ℕ, Result, Option, Ok, Err, Some, None, ⊤}
use Rattle.definition.specs.Numbers.{refusal_number}
use Rattle.definition.specs.declared.place.Place.{Place}
use Rattle.definition.specs.declared.refusal.Refusal.{Refusal}
use Rattle.fallible.specs.declared.parser.State.{State}
use Rattle.fallible.specs.declared.Stop.{Stop}

-- the parser goes on, has a fatal error, or refuses the script
pub data Status : Type 0 where
  Done Fatal : Status
  Refused : ℕ → Status

-- 1 for a call that is neither fatal nor refused, else 0
abbrev pub done_of : Status → ℕ
done_of Done = 1
done_of Fatal = 0
done_of (Refused m) = 0

-- `Fallible<MaybeFatal<T>>`: what was written and reported since the call began is the item and its errors.
-- A node has a place, a list a count; what an answer does not have is `nowhere`, or 0.
pub record Answer : Type 0 where
  pub status : Status
  pub state : State
  pub place : Place
  pub count : ℕ

abbrev pub stop_status : Stop → Status
stop_status Stop.Fatal = Fatal
stop_status (Stop.Refused m) = Refused (refusal_number m)

abbrev pub status_of : {A : Type 0} → Result A Stop → Status
status_of (Ok v) = Done
status_of (Err e) = stop_status e

abbrev pub nowhere : Place
nowhere = record { line = 0; column = 0 }

abbrev pub place_given : Result Place Stop → Place
place_given (Ok p) = p
place_given (Err e) = nowhere

abbrev pub count_given : {E : Type 0} → Result ℕ E → ℕ
count_given (Ok v) = v
count_given (Err e) = 0

-- the answer of a function that returns the place of a node
abbrev pub node_answer : Result Place Stop → State → Answer
node_answer r s = record { status = status_of r; state = s; place = place_given r; count = 0 }

-- the answer of a function that returns a count
abbrev pub count_answer : Result ℕ Stop → State → Answer
count_answer r s = record { status = status_of r; state = s; place = nowhere; count = count_given r }

-- the answer of a function that stops
abbrev pub stopped : Stop → State → Answer
stopped e s = record { status = stop_status e; state = s; place = nowhere; count = 0 }

-- ---- functions that are never fatal

abbrev pub refusal_status : {A : Type 0} → Result A Refusal → Status
refusal_status (Ok v) = Done
refusal_status (Err m) = Refused (refusal_number m)

-- the answer of a function that returns the count of a list
abbrev pub list_answer : Result ℕ Refusal → State → Answer
list_answer r s = record { status = refusal_status r; state = s; place = nowhere; count = count_given r }

-- the answer of a function that returns nothing
abbrev pub told : Result ⊤ Refusal → State → Answer
told r s = record { status = refusal_status r; state = s; place = nowhere; count = 0 }

-- `MaybeFatal::ok`: no item where the error was fatal
abbrev pub recovered : Result Place Stop → Result (Option Place) Refusal
recovered (Ok v) = Ok (Some v)
recovered (Err Stop.Fatal) = Ok None
recovered (Err (Stop.Refused m)) = Err m

-- the status of a call whose fatal error leaves no item
abbrev pub item_status : Option Place → Status
item_status (Some v) = Done
item_status None = Fatal
