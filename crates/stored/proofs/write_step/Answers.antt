use Rattle.slices.proofs.Writing.{wrote_trans}
use Rattle.stored.proofs.Walking.{wrote}
use Rattle.stored.proofs.write_step.Goals as goal

pub returns : goal.returns
returns c =
    wrote c.args.reached c.args.found _ c.requires.0
    (wrote_trans (wrote_trans (wrote_trans c.put-word.ensures c.put-word-2.ensures) c.put-word-3.ensures) c.put.ensures)
