use mathlib.Core.Path.{sym, ◌∙◌}
use borrow.Author.Tests.{ltb-true}
use Rattle.source.proofs.Laws.{code_ascii}
use Rattle.source.proofs.code.Goals as goal

pub returns-then-is_ascii : goal.returns-then-is_ascii
returns-then-is_ascii c =
    code_ascii c.requires.0 c.requires.1 (ltb-true _ 128 (sym c.is_ascii.ensures ∙ c.if-is_ascii.true))
