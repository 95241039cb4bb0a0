use mathlib.Core.Path.{◌≡◌}
use mathlib.Core.Bool.{true, false}
use borrow.Author.Rules.{rules}
use Rattle.std.proofs.lemmas.Iterator.{cases_from_all, YieldsList-from_slice}
use Rattle.definition.specs.Classes.{is_digit_of}
use Rattle.token_records.proofs.Tested.{digits_tested}
use Rattle.token_records.proofs.some_digits.Goals as goal

pub returns-then-not-is_empty : goal.returns-then-not-is_empty
returns-then-not-is_empty c =
    digits_tested _ c.args.base c.args.part.now (search rules)
    (cases_from_all _ _ _ (λ b. is_digit_of c.args.base b ≡ true) (λ b. is_digit_of c.args.base b ≡ false) c.all.ensures.ran
    (YieldsList-from_slice c.args.part.now (cc)) (λ x q k. search rules) (λ x q k. search rules))
