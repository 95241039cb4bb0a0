use Rattle.stored.proofs.Parts.{read, not_read}
use Rattle.stored.proofs.body.Body.read.Goals as goal

pub returns-then-not-fits : goal.returns-then-not-fits
returns-then-not-fits c = not_read _ c.args.self c.if-not-self.false c.fits.ensures c.if-not-fits.true

pub returns : goal.returns
returns c =
    read _ c.args.self c.if-not-self.false c.fits.ensures c.if-not-fits.false c.width.result _ c.width.ensures c.noted.ensures
