use Rattle.definition.specs.Numbers.{token_error_number}
use Rattle.definition.specs.Places.{place_of}
use Rattle.definition.specs.Tokenizer as Z
use Rattle.token_records.proofs.Pushing.{Pushing}
use Rattle.token_records.proofs.push_errors.Given as goal

abbrev pub invariant-loop : goal.invariant-loop
invariant-loop l =
    Pushing l.initial.errors l.st (Z.token_error (token_error_number l.fn.error) (place_of l.fn.place)) l.errors l.at l.counter
