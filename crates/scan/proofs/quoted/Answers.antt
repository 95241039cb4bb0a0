use borrow.Author.Rules.{rules}
use Rattle.scan.proofs.Laws.{quoting_plain, quoting_known, quoting_unknown, quoting_close, quoting_out, quoting_slash_out, copied_room}
use Rattle.scan.proofs.quoted.Goals as goal

pub returns-then-b-eq34 : goal.returns-then-b-eq34
returns-then-b-eq34 c = search (quoting_close, rules)

pub loop-c-preserved-then-b-ne92 : goal.loop-c-preserved-then-b-ne92
loop-c-preserved-then-b-ne92 c = search (quoting_plain, copied_room, rules)

pub returns-then-s-next : goal.returns-then-s-next
returns-then-s-next c = search (quoting_slash_out, rules)

pub loop-c-preserved-in_default : goal.loop-c-preserved-in_default
loop-c-preserved-in_default c = search (quoting_unknown, rules)

pub loop-c-preserved : goal.loop-c-preserved
loop-c-preserved c = search (quoting_known, rules)

pub returns : goal.returns
returns c = search (quoting_out, rules)
