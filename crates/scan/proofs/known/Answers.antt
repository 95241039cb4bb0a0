use Rattle.std.proofs.lemmas.Result.{err_from_is_err_and}
use Rattle.scan.proofs.Runs.{known_end, known_char, known_foreign}
use Rattle.scan.proofs.known.Goals as goal

pub returns-in_err-code : goal.returns-in_err-code
returns-in_err-code c =
    let e = err_from_is_err_and c.from_residual.result c.from_residual.ensures.1 in
    rw (e.1, e.2) (known_foreign c.requires.stands c.if-c-s.true c.in_err-code.ensures.1, c.in_err-code.ensures.0)

pub returns-in_ok-code : goal.returns-in_ok-code
returns-in_ok-code c = known_char c.requires.stands c.if-c-s.true c.in_ok-code.ensures.1

pub returns-else-c-s : goal.returns-else-c-s
returns-else-c-s c = known_end c.args.s.now c.args.c c.if-c-s.false
