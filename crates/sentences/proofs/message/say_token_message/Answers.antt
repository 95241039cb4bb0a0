use mathlib.Core.Path.{sym}
use Rattle.definition.specs.Ascii.{ascii}
use Rattle.definition.specs.Sentence.{compose, token_messages, token_meaning, character_of, token_sentence}
use Rattle.sentences.proofs.Saying.{told_last}
use Rattle.sentences.proofs.message.say_token_message.Goals as goal

pub returns-in-UnknownCharacter : goal.returns-in-UnknownCharacter
unfolding compose token_messages token_meaning character_of token_sentence ascii
returns-in-UnknownCharacter c = rw (c.in-UnknownCharacter.is, sym c.character_at.ensures) (told_last c.say_all-in-UnknownCharacter.ensures c.say_all-in-UnknownCharacter-2.ensures)
