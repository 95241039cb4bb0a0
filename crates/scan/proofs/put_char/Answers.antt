use mathlib.Core.Path.{sym}
use borrow.Author.Tests.{ltb-true}
use borrow.Author.Rules.{rules}
use Rattle.scan.proofs.Laws.{one_copied, char_copied}
use Rattle.scan.proofs.put_char.Goals as goal

pub returns-then-is_ascii : goal.returns-then-is_ascii
returns-then-is_ascii c = one_copied c.requires.2 (ltb-true _ 128 (sym c.if-is_ascii.ensures)) c.put.ensures

pub returns-else-is_ascii : goal.returns-else-is_ascii
returns-else-is_ascii c = search (char_copied, rules)
