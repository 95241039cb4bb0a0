use Rattle.parser.proofs.Files.{ended}
use native.Mathlib.Omega.{arith}
use Rattle.parser.proofs.end_file.Goals as goal

pub returns : goal.returns
returns c =
    ended c.args.errors.now c.requires c.write_record-p.ensures c.error_fields-q.ensures c.error_fields-r.ensures c.error_fields-end.ensures
    c.fill_from.ensures (omega (arith, c.write_record-p.auto, c.error_fields-q.auto, c.error_fields-r.auto, c.error_fields-end.auto))
