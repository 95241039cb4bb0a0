use Rattle.source.specs.Place.{too_long, not_text}
use Rattle.source.proofs.Laws.{at_start, no_characters}
use Rattle.source.proofs.admitted.Goals as goal

pub returns-then-script-gt-SCRIPT_BYTES : goal.returns-then-script-gt-SCRIPT_BYTES
returns-then-script-gt-SCRIPT_BYTES c = too_long c.if-script-gt-SCRIPT_BYTES.true

pub returns-then-not-valid : goal.returns-then-not-valid
returns-then-not-valid c = not_text c.if-script-gt-SCRIPT_BYTES.false (no_characters _ c.valid.ensures c.if-not-valid.true)

pub returns : goal.returns
returns c = (at_start _ c.valid.ensures c.if-not-valid.false, c.if-script-gt-SCRIPT_BYTES.false)
