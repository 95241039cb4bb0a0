use Rattle.reader.proofs.Demand3.{one_tree_of_answers}
use Rattle.reader.proofs.two_scripts_one_tree.Goals as goal

pub returns : goal.returns
returns c = one_tree_of_answers _ _ _ _ c.read_script-a.ensures c.read_script-b.ensures
