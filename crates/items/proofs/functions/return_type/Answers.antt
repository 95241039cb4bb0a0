use Rattle.steps.proofs.SameKind.{same_number, other_number}
use Rattle.items.proofs.Signatures.{type_given, type_none}
use Rattle.items.proofs.functions.return_type.Goals as goal

pub returns-in-RArrow : goal.returns-in-RArrow
returns-in-RArrow c = type_given c.peek-t.ensures (same_number c.in-RArrow.is) c.ty.ensures

pub returns : goal.returns
returns c = type_none c.peek-t.ensures c.requires (other_number c.in_default.not-RArrow) (c.write_node.ensures _ _)
