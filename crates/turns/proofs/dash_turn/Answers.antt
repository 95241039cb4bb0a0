use Rattle.turns.proofs.Numbers.{end_law, arrow_law, digit_law, minus_law}
use Rattle.turns.proofs.dash_turn.Goals as goal

pub returns-then-s-c : goal.returns-then-s-c
returns-then-s-c c = search end_law

pub returns-then-b-eq62 : goal.returns-then-b-eq62
returns-then-b-eq62 c = search arrow_law

pub returns-then-is_digit : goal.returns-then-is_digit
returns-then-is_digit c = search digit_law

pub returns : goal.returns
returns c = search minus_law
