-- What writing a list of errors as fields ensures. Assumes nothing.
use Rattle.std.specs.Prelude.{◌≡◌, List, ◌++◌, ℕ, ◌+◌, ◌*◌, ◌%◌, length, take, get_or}
use Rattle.definition.specs.Fallible.{Err, errs_bytes}
use Rattle.definition.specs.Source.{place_at}

-- the error of a token error's record; the field has its number in a byte
abbrev pub recorded : List ℕ → Err
recorded w = record { number = get_or w 0 0 % 256; place = place_at (get_or w 1 0) (get_or w 2 0); expected = 0; got = 0 }

-- the fields of the errors es are written from p to q
pub record Fielded (o : List ℕ) (p tag : ℕ) (es : List Err) (o' : List ℕ) (q : ℕ) : Type 0 where
  pub end : q ≡ p + 10 * length es
  pub is : take q o' ≡ take p o ++ errs_bytes tag es
