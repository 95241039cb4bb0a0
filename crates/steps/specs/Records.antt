-- What functions of the records alone require and ensure, as Contract has it of the tokens with their text. Assumes nothing.
use Rattle.std.specs.Prelude.{ℕ, Result}
use Rattle.std.specs.Borrow.{MutBor}
use Rattle.definition.specs.Fallible.{Ans}
use Rattle.definition.specs.Token.{Tok}
use Rattle.definition.specs.Act.{Act, Role}
use Rattle.definition.specs.declared.place.Place.{Place}
use Rattle.fallible.specs.declared.Stop.{Stop}
use Rattle.fallible.specs.declared.parser.State.{State}
use Rattle.fallible.specs.declared.parser.Parser.{Parser}
use Rattle.fallible.specs.Answer.{nowhere}
use Rattle.steps.specs.declared.tokens.Records.{Records}
use Rattle.steps.specs.Contract.{MutParser, going, ExpectsIn, ExpectedIn}
use Rattle.steps.specs.Shows as S
use denote.Triple.Both.{Both}

abbrev pub LentRecords : Type 0
LentRecords = Both Records Records

abbrev pub Asks : Records → MutBor Parser → Type 0
Asks records parser = S.Asks records.count parser.now.reported parser.now.full parser.now.state

abbrev pub Follows : Records → MutBor Parser → State → Type 0
Follows records parser from =
    S.Follows records.count parser.now.reported parser.now.full (going parser.now.state nowhere 0) from.pos from.reported

abbrev pub Expects : (Role → Act (Ans Tok)) → LentRecords → MutParser → Result Place Stop → Type 0
Expects m records parser r = ExpectsIn records.entry.words.now records.entry.count m parser r

abbrev pub Expected : ℕ → LentRecords → MutParser → State → Result Place Stop → Type 0
Expected wanted records parser from r = ExpectedIn records.entry.words.now records.entry.count wanted parser from r
