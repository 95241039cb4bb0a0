use mathlib.Core.Path.{◌≡◌}
use mathlib.Core.Bool.{true, false}
use borrow.Author.Rules.{rules}
use Rattle.std.proofs.lemmas.Iterator.{cases_from_all, YieldsList-from_slice}
use Rattle.definition.specs.Records.{valid_error, error_at}
use Rattle.validate.proofs.Turns.{errors_tested}
use Rattle.validate.proofs.valid_errors.Goals as goal

pub returns : goal.returns
returns c = λ E n e.
    errors_tested E _ n e
    (cases_from_all _ _ _ (λ r. valid_error (error_at r 0) ≡ true) (λ r. valid_error (error_at r 0) ≡ false) c.all.ensures.ran
    (YieldsList-from_slice c.args.records.now (cc)) (λ x q k. search rules) (λ x q k. search rules))
