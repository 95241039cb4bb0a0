use Rattle.leaves.proofs.leaf.Goals as goal

pub returns : goal.returns
returns c = c.write_text_node.ensures _ _
