use native.Mathlib.Omega.{arith}
use Rattle.error_fields.proofs.Fielding.{fields_none, fields_more}
use Rattle.error_fields.proofs.error_fields.Goals as goal

pub loop-e-init : goal.loop-e-init
loop-e-init g c = fields_none _ _

pub loop-e-preserved : goal.loop-e-preserved
loop-e-preserved g c = fields_more _ _ c.loop-e.invariant c.loop-e-test.true c.e-item.is c.body.ensures c.write_record-p.ensures (omega (arith, c.write_record-p.auto))
