use Rattle.fallible.proofs.Calls.{left}
use Rattle.reader.proofs.Cases.{examine_unfit}
use Rattle.reader.proofs.Complaints.{sentence_stopped, sentence_is}
use Rattle.reader.proofs.sentence.sentence.Goals as goal

pub returns-in_err-admitted : goal.returns-in_err-admitted
returns-in_err-admitted c = rw (left c.from_residual.ensures.1) (sentence_stopped _ _ (examine_unfit _ c.in_err-admitted.ensures) _ _ _)

pub returns : goal.returns
returns c = rw (c.sentence_of_valid.ensures, c.ok.ensures.value) (sentence_is _ _ _ _ _ c.try_from.ensures)
