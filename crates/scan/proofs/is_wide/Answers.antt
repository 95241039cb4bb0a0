use mathlib.Core.Path.{ap, ◌∙◌}
use mathlib.Core.Bool.{not}
use borrow.Author.Tests.{le-ltb}
use Rattle.std.proofs.lemmas.List.{get_or_past}
use Rattle.scan.proofs.Laws.{wide_byte}
use Rattle.scan.proofs.is_wide.Goals as goal

pub returns-then-at-s : goal.returns-then-at-s
returns-then-at-s c = ap not c.is_ascii.ensures ∙ wide_byte _

pub returns-else-at-s : goal.returns-else-at-s
returns-else-at-s c = rw (le-ltb c.args.at _ c.if-at-s.false, get_or_past c.args.s.now c.args.at 0 c.if-at-s.false)
