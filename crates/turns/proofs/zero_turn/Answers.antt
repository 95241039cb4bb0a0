use Rattle.turns.proofs.Numbers.{looked_end, hexadecimal_law, binary_law, decimal_law}
use Rattle.turns.proofs.zero_turn.Goals as goal
use Rattle.turns.proofs.zero_turn.Goals.{in-Some-eq120, in-Some-eq98, in_default, in_default-2}

pub returns : goal.returns
returns c = elim c.match-look.branch [
  | in-Some-eq120 w ↦
      hexadecimal_law w.in-Some-eq120.ensures w.in-Some-eq120.field-0-test w.skip.ensures (rw w.base-is at c.integer_turn.ensures)
  | in-Some-eq98 w ↦
      binary_law w.in-Some-eq98.ensures w.in-Some-eq98.field-0-test w.skip-in-Some-eq98.ensures (rw w.base-is at c.integer_turn.ensures)
  | in_default w ↦
      decimal_law w.in_default.ensures w.in_default.field-0-test.0.1 w.in_default.field-0-test.1 (rw w.base-is at c.integer_turn.ensures)
  | in_default-2 w ↦
      decimal_law (looked_end c.look.ensures w.in_default.is) (λ e. absurd (cc e)) (λ e. absurd (cc e)) (rw w.base-is at c.integer_turn.ensures)
]
