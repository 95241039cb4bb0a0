use native.Mathlib.Omega.{arith}
use Rattle.parser.proofs.Readings.{read_refused, read_done}
use Rattle.parser.proofs.read_tokens.Goals as goal

pub returns-in_default : goal.returns-in_default
returns-in_default c =
    rw c.in_default.is (read_refused _ _ _ _ _ c.requires.1.0 (omega (arith, c.parse_tokens-parsed.auto)) _
    (rw c.in_default.is at c.parse_tokens-parsed.ensures) c.fill_from.ensures)

pub returns : goal.returns
returns c =
    read_done _ _ _ _ _ c.requires.1.0 (omega (arith, c.parse_tokens-parsed.auto))
    (rw c.in-Ok.is at c.parse_tokens-parsed.ensures) c.end_file.ensures
