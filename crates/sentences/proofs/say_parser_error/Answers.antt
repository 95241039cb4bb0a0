use native.Mathlib.Omega.{arith}
use Rattle.sentences.proofs.Saying.{told_short}
use Rattle.sentences.proofs.Messages.{parser_says}
use Rattle.sentences.proofs.say_parser_error.Goals as goal

pub returns : goal.returns
returns c =
    let t = c.say_parser_message.ensures in
    let s = told_short t (parser_says _ _ _ c.args.e c.token_got-token.ensures.0 c.token_got-token.ensures.1) c.requires in
    grind (arith, s, t.same)
