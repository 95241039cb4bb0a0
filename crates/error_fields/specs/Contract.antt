-- The records of Errors, stated over the parameters of the functions. Assumes nothing.
use Rattle.std.specs.Prelude.{List, ℕ}
use Rattle.definition.specs.Slices.{MutLent, old, new}
use Rattle.definition.specs.Fallible.{Err}
use Rattle.error_fields.specs.Errors as E

-- the fields of the errors es are written
abbrev pub Fielded : List Err → MutLent → ℕ → ℕ → ℕ → Type 0
Fielded es file pos tag r = E.Fielded (old file) pos tag es (new file) r
