use Rattle.scan.proofs.Runs.{white_told}
use Rattle.scan.proofs.is_white_at.Goals as goal

pub code-requires : goal.code-requires
code-requires c = (c.requires.0.stands, c.requires.1, c.requires.0.small)

pub returns : goal.returns
returns c = white_told c.args.s.now c.args.c _ c.code.ensures c.is_ok_and.ensures
