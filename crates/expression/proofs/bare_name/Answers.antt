use mathlib.Core.Path.{refl}
use Rattle.expression_laws.proofs.Names.{bare_name, bare_room}
use Rattle.expression.proofs.bare_name.Goals as goal

pub write_record-state-requires : goal.write_record-state-requires
write_record-state-requires c = rw c.name_of.ensures (bare_room c.requires refl c.peek-t.ensures)

pub returns : goal.returns
returns c place count = bare_name refl c.peek-t.ensures (rw c.name_of.ensures at c.write_record-state.ensures)
