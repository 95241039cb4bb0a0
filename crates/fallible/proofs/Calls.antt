-- What a call that stopped, or did not, says of its answer. Assumes nothing.
use mathlib.Core.Path.{◌≡◌, refl, sym, ap, ◌∙◌}
use Rattle.std.specs.Prelude.{ℕ, Result, Option, Ok, Err, IsErrAnd}
use native.Mathlib.Omega.{arith}
use Rattle.definition.specs.declared.place.Place.{Place}
use Rattle.definition.specs.declared.refusal.Refusal.{Refusal}
use Rattle.definition.specs.Numbers.{refusal_number}
pub use Rattle.definition.proofs.Question.{left}
use Rattle.fallible.specs.declared.Stop.{Stop}
use Rattle.fallible.specs.Answer.{Status, Done, Refused, done_of, item_status, status_of, refusal_status, stop_status, recovered}

-- the exit of a `?` returns what the call gave
pub passed_on : {T : Type 0} {called r : Result T Stop} {e : Stop} → called ≡ Err e → IsErrAnd r (λ y. y ≡ e) → r ≡ called
passed_on h l = left l ∙ sym h

pub is_done : {T : Type 0} {r : Result T Stop} {v : T} → r ≡ Ok v → status_of r ≡ Done
is_done h = rw h

-- a stop is not done
pub stop_is : (e : Stop) → stop_status e ≡ Done → ⊥
stop_is e h = one e (ap done_of h)
  where
    one : (e : Stop) → done_of (stop_status e) ≡ 1 → ⊥
    one Stop.Fatal z = omega (arith, z)
    one (Stop.Refused m) z = omega (arith, z)

pub is_stop : {T : Type 0} {r : Result T Stop} {e : Stop} → r ≡ Err e → status_of r ≡ Done → ⊥
is_stop {e = e} h z = stop_is e (rw h at z)

-- ---- functions that are never fatal

pub is_whole : {T : Type 0} {r : Result T Refusal} {v : T} → r ≡ Ok v → refusal_status r ≡ Done
is_whole h = rw h

pub is_refused : {T : Type 0} {r : Result T Refusal} {m : Refusal} → r ≡ Err m → refusal_status r ≡ Refused (refusal_number m)
is_refused h = rw h

-- a refusal is not done
pub refusal_is : (m : ℕ) → Refused m ≡ Done → ⊥
refusal_is m z = let e : 0 ≡ 1 = ap done_of z in omega (arith, e)

pub not_whole : {T : Type 0} {r : Result T Refusal} {m : Refusal} → r ≡ Err m → refusal_status r ≡ Done → ⊥
not_whole h z = refusal_is _ (sym (is_refused h) ∙ z)

-- ---- `recover`

-- the status that `recover` leaves
abbrev left_status : Result (Option Place) Refusal → Status
left_status (Ok item) = item_status item
left_status (Err m) = Refused (refusal_number m)

recovered_status : (r : Result Place Stop) → status_of r ≡ left_status (recovered r)
recovered_status (Ok v) = refl
recovered_status (Err Stop.Fatal) = refl
recovered_status (Err (Stop.Refused m)) = refl

-- a call that is not refused leaves an item or none
pub item_is : (r : Result Place Stop) {item : Option Place} → recovered r ≡ Ok item → status_of r ≡ item_status item
item_is r h = recovered_status r ∙ ap left_status h

abbrev refusal_in : Refusal → Result (Option Place) Refusal → Refusal
refusal_in k (Ok item) = k
refusal_in k (Err m) = m

-- a call that is refused stays so
pub refused_is : (r : Result Place Stop) {m : Refusal} → recovered r ≡ Err m → r ≡ Err (Stop.Refused m)
refused_is (Ok v) h = absurd (cc)
refused_is (Err Stop.Fatal) h = absurd (cc)
refused_is (Err (Stop.Refused k)) h = ap (λ m. Err (Stop.Refused m)) (ap (refusal_in k) h)

pub exit_refused : (r : Result Place Stop) {m : Refusal} → recovered r ≡ Err m → (k : ℕ) × (status_of r ≡ Refused k)
exit_refused r {m = m} h = (refusal_number m, ap status_of (refused_is r h))

-- a call that leaves an item or none is not refused
pub not_refused : (r : Result Place Stop) {item : Option Place} → recovered r ≡ Ok item → (m : ℕ) → status_of r ≡ Refused m → ⊥
not_refused (Ok v) h m z = absurd (cc)
not_refused (Err Stop.Fatal) h m z = absurd (cc)
not_refused (Err (Stop.Refused k)) h m z = absurd (cc)
