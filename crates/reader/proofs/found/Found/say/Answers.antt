use mathlib.Core.Path.{◌∙◌}
use Rattle.sentences.proofs.Saying.{said_none, said_same, short_same}
use Rattle.reader.specs.declared.found.ErrorList.{ErrorList}
use Rattle.reader.specs.Sentences.{found_in}
use Rattle.reader.proofs.Complaints.{found_short, token_past, token_at, in_token}
use Rattle.reader.proofs.found.Found.say.Goals as goal

pub say_token_error-requires : goal.say_token_error-requires
say_token_error-requires c =
    let x = c.in-Some-get.ensures.lookup.3 in
    (c.args.self.now.quotes, short_same (found_short _ _ c.args.self.now.is ErrorList.Token c.args.position) (token_at _ _ _ _ x.0 (x.1 _)))

pub say_at-requires : goal.say_at-requires
say_at-requires c = found_short _ _ c.args.self.now.is ErrorList.Reported c.args.position

pub say_at-requires-in-Full : goal.say_at-requires-in-Full
say_at-requires-in-Full c = found_short _ _ c.args.self.now.is ErrorList.Full c.args.position

pub returns-in-Some-get : goal.returns-in-Some-get
returns-in-Some-get c =
    let x = c.in-Some-get.ensures.lookup.3 in
    said_same c.say_token_error.ensures
    (token_at _ _ _ _ x.0 (x.1 _) ∙ in_token (found_in c.args.self.now) _ c.in-Some.is c.in-Token.is)

pub returns-in-None : goal.returns-in-None
returns-in-None c =
    said_same said_none
    (token_past _ _ _ c.in-None.ensures.lookup.3 ∙ in_token (found_in c.args.self.now) _ c.in-Some.is c.in-Token.is)
