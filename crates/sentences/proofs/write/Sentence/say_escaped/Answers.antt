use native.Mathlib.Omega.{arith}
use Rattle.definition.specs.Ascii.{ascii}
use Rattle.sentences.proofs.Saying.{told_same, told_then}
use Rattle.sentences.proofs.Spelled.{escaped_low, escaped_high}
use Rattle.sentences.proofs.write.Sentence.say_escaped.Goals as goal
use Rattle.sentences.proofs.write.Sentence.say_escaped.Goals.{in_default-via-then-c-lt32, in_default-via-else-c-lt32+else-c-lt127}

pub returns-in_default : goal.returns-in_default
unfolding ascii
returns-in_default c =
    told_same (told_then (told_then c.say_all-in_default.ensures c.say_number.ensures) c.say-in_default.ensures)
    (elim c.in_default.branch [
      | in_default-via-then-c-lt32 w ↦ escaped_low _ (omega arith) (λ e. omega arith) (λ e. omega arith) (λ e. omega arith)
      | in_default-via-else-c-lt32+else-c-lt127 w ↦ escaped_high _ (omega arith)
    ])
