use Rattle.fallible.specs.Answer.{Done}
use Rattle.fallible.proofs.Cuts.{made}
use Rattle.fallible.proofs.note.Goals as goal

pub returns : goal.returns
returns c = made Done _ _ c.if-state-ge-ERRORS.false c.push_error.ensures
