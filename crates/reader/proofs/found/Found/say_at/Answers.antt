use Rattle.sentences.proofs.Saying.{said_none, said_same, short_same}
use Rattle.reader.proofs.Complaints.{listed_past, listed_at}
use Rattle.reader.proofs.found.Found.say_at.Goals as goal

pub say_parser_error-requires : goal.say_parser_error-requires
say_parser_error-requires c = let x = c.in-Some.ensures.lookup.3 in short_same c.requires (listed_at _ _ _ _ x.0 (x.1 _))

pub returns-in-Some : goal.returns-in-Some
returns-in-Some c = let x = c.in-Some.ensures.lookup.3 in said_same c.say_parser_error.ensures (listed_at _ _ _ _ x.0 (x.1 _))

pub returns-in-None : goal.returns-in-None
returns-in-None c = said_same said_none (listed_past _ _ _ c.in-None.ensures.lookup.3)
