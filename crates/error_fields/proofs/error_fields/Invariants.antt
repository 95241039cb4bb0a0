use Rattle.definition.specs.Numbers.{tag_number}
use Rattle.error_fields.proofs.Fielding.{Fielding}
use Rattle.error_fields.proofs.error_fields.Given as goal

abbrev pub invariant-loop-e : goal.invariant-loop-e
invariant-loop-e g l = Fielding g.E.Entry.err l.list l.initial.file l.pos (tag_number l.tag) l.file l.e-index l.p
