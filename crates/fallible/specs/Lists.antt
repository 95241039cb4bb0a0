-- Errors as the code has them, and the list of errors at the start of an array. Assumes nothing.
use Rattle.std.specs.Prelude.{List, map, ℕ, take}
use Rattle.definition.specs.Fallible.{Err}
use Rattle.definition.specs.Numbers.{kind_number, parse_error_number}
use Rattle.definition.specs.Places.{place_of}
use Rattle.definition.specs.declared.place.Place.{Place}
use Rattle.fallible.specs.declared.error.Error.{Error}

abbrev pub error_at : ℕ → Place → ℕ → ℕ → Err
error_at number place expected got = record { number = number; place = place_of place; expected = expected; got = got }

-- the definition's error
abbrev pub err_of : Error → Err
err_of e = error_at (parse_error_number e.error) e.place (kind_number e.expected) (kind_number e.got)

-- the first n errors of an array
unfoldable pub errs : List Error → ℕ → List Err
errs l n = map (λ e. err_of e) (take n l)
