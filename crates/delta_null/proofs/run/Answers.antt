use mathlib.Core.Path.{refl}
use Rattle.std.proofs.Common.{arith}
use Rattle.delta_null.proofs.Fits.{file_fits, file_length}
use Rattle.delta_null.proofs.run.Goals as goal

-- the bytes that are written are a part of the file
pub slice_bounds-file-end : goal.slice_bounds-file-end
slice_bounds-file-end g c = file_fits _ _ c.in-Ok.ensures refl (omega (arith, c.read_script.auto))

pub slice_bounds-write_all-end : goal.slice_bounds-write_all-end
slice_bounds-write_all-end g c = file_length _ _ c.in-Ok.ensures refl (omega (arith, c.read_script.auto))
