-- What is found in a script that was tokenised and parsed. Assumes nothing.
use Rattle.std.specs.Prelude.{List, map, ℕ, take}
use Rattle.definition.specs.Fallible.{Err}
use Rattle.definition.specs.Token.{Tok}
use Rattle.definition.specs.Records.{error_at, error_of}
use Rattle.definition.specs.Sentence as S
use Rattle.source.specs.Place as P
use Rattle.source.specs.Place.{origin}
use Rattle.fallible.specs.declared.error.Error.{Error}
use Rattle.fallible.specs.declared.parser.Parser.{Parser}
use Rattle.fallible.specs.Lists.{err_of}

-- the error of a token error's record
abbrev pub entry_of : List ℕ → Err
entry_of w = error_of (error_at w 0)

-- the reported list, and the full list
abbrev pub reported_in : Parser → List Error
reported_in p = take p.state.reported p.reported

abbrev pub full_in : Parser → List Error
full_in p = take p.state.full p.full

-- what the slices hold: the script, its tokens, error records, the reported list, the full list
abbrev pub found_of : List ℕ → List Tok → List (List ℕ) → List Error → List Error → S.Found
found_of s ts rs r f =
    record {
      chars = P.rest s origin;
      toks = ts;
      token_errors = map entry_of rs;
      reported = map err_of r;
      full = map err_of f;
    }
