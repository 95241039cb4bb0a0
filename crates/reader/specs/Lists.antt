-- The tags of the lists of errors. Assumes nothing.
use Rattle.std.specs.Prelude.{◌≡◌, false, ℕ, eqb, Result, MatchResult}
use Rattle.definition.specs.Tag as Tag
use Rattle.reader.specs.declared.found.ErrorList.{ErrorList}
use Rattle.reader.specs.declared.found.NoErrorList.{NoErrorList}

abbrev pub list_number : ErrorList → ℕ
list_number ErrorList.Token = Tag.TokenError
list_number ErrorList.Reported = Tag.ReportedError
list_number ErrorList.Full = Tag.FullError

-- a tag of no list
abbrev pub NoList : ℕ → Type 0
NoList n = (eqb n Tag.TokenError ≡ false) × ((eqb n Tag.ReportedError ≡ false) × (eqb n Tag.FullError ≡ false))

-- the list with a tag, or that none has it
abbrev pub ErrorListOf : ℕ → Result ErrorList NoErrorList → Type 0
ErrorListOf n r = MatchResult r (λ l. list_number l ≡ n) (λ e. (e.0 ≡ n) × NoList n)
