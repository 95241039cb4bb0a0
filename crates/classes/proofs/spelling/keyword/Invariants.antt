use Rattle.definition.specs.Tokenizer as Z
use Rattle.definition.specs.Numbers.{kind_number}
use Rattle.classes.proofs.Table.{Searching}
use Rattle.classes.proofs.spelling.keyword.Given as goal

abbrev pub invariant-loop-spelled : goal.invariant-loop-spelled
invariant-loop-spelled l =
    Searching (λ e. Z.same l.w e.0.now) (λ e. kind_number e.1) l.spelled-items l.spelled-index (Z.keyword l.w)
