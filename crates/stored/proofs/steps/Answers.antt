use mathlib.Core.Path.{refl}
use native.Mathlib.Omega.{arith}
use Rattle.stored.proofs.Walking.{load_long, load_is}
use Rattle.stored.proofs.steps.Goals as goal

pub returns-then-file-gt-FILE_BYTES : goal.returns-then-file-gt-FILE_BYTES
returns-then-file-gt-FILE_BYTES c = (load_long _ c.if-file-gt-FILE_BYTES.true, refl)

pub returns : goal.returns
returns c = (rw (load_is c.args.file.now (omega (arith, c.if-file-gt-FILE_BYTES.false))) c.walk.ensures.0, c.walk.ensures.1)
