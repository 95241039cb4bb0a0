use Rattle.fallible.proofs.Calls.{left}
use Rattle.reader.proofs.Cases.{whole_unfit, whole_short}
use Rattle.reader.proofs.read_script.Goals as goal

pub returns-in_err-admitted : goal.returns-in_err-admitted
returns-in_err-admitted c = rw (left c.from_residual.ensures.1) (whole_unfit _ _ c.in_err-admitted.ensures)

pub returns-then-file-lt-FILE_BYTES : goal.returns-then-file-lt-FILE_BYTES
returns-then-file-lt-FILE_BYTES c = whole_short _ _ c.in_ok-admitted.ensures c.if-file-lt-FILE_BYTES.true
