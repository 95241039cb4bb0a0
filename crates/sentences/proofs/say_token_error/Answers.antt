use mathlib.Core.Path.{sym}
use Rattle.sentences.proofs.Saying.{said_none, said_same}
use Rattle.sentences.proofs.Messages.{token_none}
use Rattle.sentences.proofs.say_token_error.Goals as goal

pub returns-in_default : goal.returns-in_default
returns-in_default c = said_same said_none (sym (token_none c.args.script.now c.args.words.now c.in_default.ensures.1))
