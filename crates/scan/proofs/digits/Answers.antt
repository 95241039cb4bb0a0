use borrow.Author.Rules.{rules}
use Rattle.definition.specs.Classes.{is_digit_of}
use Rattle.scan.proofs.Laws.{digits_while}
use Rattle.scan.proofs.digits.Goals as goal

pub returns : goal.returns
returns c = rw (← digits_while) (c.scan_while.ensures (is_digit_of c.args.base) (λ b r h e. search rules))
