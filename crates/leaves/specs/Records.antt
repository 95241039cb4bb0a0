-- What the functions of the records alone ensure, as Contract has it of the tokens with their text. Assumes nothing.
use Rattle.std.specs.Prelude.{ℕ, Result, ⊤}
use Rattle.definition.specs.declared.place.Place.{Place}
use Rattle.definition.specs.declared.refusal.Refusal.{Refusal}
use Rattle.fallible.specs.declared.Stop.{Stop}
use Rattle.steps.specs.Contract.{MutParser}
use Rattle.steps.specs.Records.{LentRecords}
use Rattle.leaves.specs.Contract.{CommasIn, ClosedIn}

abbrev pub Commas : ℕ → LentRecords → MutParser → Result ⊤ Refusal → Type 0
Commas close records parser r = CommasIn records.entry.words.now records.entry.count close parser r

abbrev pub Closed : LentRecords → MutParser → Result Place Stop → Result Place Stop → Type 0
Closed records parser called r = ClosedIn records.entry.words.now records.entry.count parser called r
