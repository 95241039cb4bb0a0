use Rattle.sentences.proofs.Spelled.{hex_digit}
use Rattle.sentences.proofs.spelling.digit_char.Goals as goal

pub returns : goal.returns
returns c = rw c.unwrap_or.ensures (hex_digit _ _ c.requires c.from_digit.ensures.value)
