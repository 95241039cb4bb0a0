-- The records of Push, stated over the parameters of the functions: first what is pushed, then the parameters in
-- order. Assumes nothing.
use Rattle.std.specs.Prelude.{List, ℕ, Result}
use Rattle.definition.specs.Slices.{MutLent, old, new}
use Rattle.definition.specs.Fallible.{Err}
use Rattle.definition.specs.declared.refusal.Refusal.{Refusal}
use Rattle.token_records.specs.declared.State.{State}
use Rattle.token_records.specs.Push as P

abbrev pub TokenPushed : List ℕ → ℕ → MutLent → State → Result State Refusal → Type 0
TokenPushed ws most tokens st r = P.TokenPushed most (old tokens) st ws (new tokens) r

abbrev pub ErrorsPushed : List Err → MutLent → State → Result State Refusal → Type 0
ErrorsPushed es errors st r = P.ErrorsPushed (old errors) st es (new errors) r
