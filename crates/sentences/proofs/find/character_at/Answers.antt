use Rattle.sentences.proofs.Messages.{character_none, character_there}
use Rattle.sentences.proofs.find.character_at.Goals as goal

pub returns-then-s-c : goal.returns-then-s-c
returns-then-s-c c = character_none c.cursor_at-c.ensures c.if-s-c.true

pub returns : goal.returns
returns c = character_there c.cursor_at-c.ensures c.if-s-c.false c.step-d.ensures
