use Rattle.definition.specs.Ascii.{ascii}
use Rattle.definition.specs.Sentence.{compose, parser_messages, parser_sentence}
use Rattle.sentences.proofs.Saying.{told_then, told_last}
use Rattle.sentences.proofs.message.say_parser_message.Goals as goal

pub returns-in-TopLevel : goal.returns-in-TopLevel
unfolding compose parser_messages parser_sentence ascii
returns-in-TopLevel c = rw c.in-TopLevel.is (told_last c.say_all.ensures c.say_token.ensures)

pub returns-in-Expected : goal.returns-in-Expected
unfolding compose parser_messages parser_sentence ascii
returns-in-Expected c = rw c.in-Expected.is (told_then c.say_all-in-Expected.ensures (told_then c.say_name.ensures (told_last c.say_all-in-Expected-2.ensures c.say_token-in-Expected.ensures)))

pub returns-in-ExpectedAtEnd : goal.returns-in-ExpectedAtEnd
unfolding compose parser_messages parser_sentence ascii
returns-in-ExpectedAtEnd c = rw c.in-ExpectedAtEnd.is (told_then c.say_all-in-ExpectedAtEnd.ensures (told_then c.say_name-in-ExpectedAtEnd.ensures c.say_all-in-ExpectedAtEnd-2.ensures))

pub returns-in-Expression : goal.returns-in-Expression
unfolding compose parser_messages parser_sentence ascii
returns-in-Expression c = rw c.in-Expression.is (told_last c.say_all-in-Expression.ensures c.say_token-in-Expression.ensures)

pub returns-in-Type : goal.returns-in-Type
unfolding compose parser_messages parser_sentence ascii
returns-in-Type c = rw c.in-Type.is (told_last c.say_all-in-Type.ensures c.say_token-in-Type.ensures)

pub returns-in-TypeAtEnd : goal.returns-in-TypeAtEnd
unfolding compose parser_messages parser_sentence ascii
returns-in-TypeAtEnd c = rw c.in-TypeAtEnd.is c.say_all-in-TypeAtEnd.ensures

pub returns-in-BodyAtEnd : goal.returns-in-BodyAtEnd
unfolding compose parser_messages parser_sentence ascii
returns-in-BodyAtEnd c = rw c.in-BodyAtEnd.is c.say_all-in-BodyAtEnd.ensures

pub returns-in-ListAtEnd : goal.returns-in-ListAtEnd
unfolding compose parser_messages parser_sentence ascii
returns-in-ListAtEnd c = rw c.in-ListAtEnd.is c.say_all-in-ListAtEnd.ensures

pub returns-in-InList : goal.returns-in-InList
unfolding compose parser_messages parser_sentence ascii
returns-in-InList c = rw c.in-InList.is (told_then c.say_all-in-InList.ensures (told_then c.say_token-in-InList.ensures c.say_all-in-InList-2.ensures))

pub returns-in-NameAfterType : goal.returns-in-NameAfterType
unfolding compose parser_messages parser_sentence ascii
returns-in-NameAfterType c = rw c.in-NameAfterType.is c.say_all-in-NameAfterType.ensures

pub returns-in-PathAfterUse : goal.returns-in-PathAfterUse
unfolding compose parser_messages parser_sentence ascii
returns-in-PathAfterUse c = rw c.in-PathAfterUse.is c.say_all-in-PathAfterUse.ensures

pub returns-in-CompoundAtEnd : goal.returns-in-CompoundAtEnd
unfolding compose parser_messages parser_sentence ascii
returns-in-CompoundAtEnd c = rw c.in-CompoundAtEnd.is c.say_all-in-CompoundAtEnd.ensures

pub returns-in-Compound : goal.returns-in-Compound
unfolding compose parser_messages parser_sentence ascii
returns-in-Compound c = rw c.in-Compound.is (told_last c.say_all-in-Compound.ensures c.say_token-in-Compound.ensures)

pub returns-in-CharacterLost : goal.returns-in-CharacterLost
unfolding compose parser_messages parser_sentence ascii
returns-in-CharacterLost c = rw c.in-CharacterLost.is c.say_all-in-CharacterLost.ensures

pub returns-in-AssemblyNotClosed : goal.returns-in-AssemblyNotClosed
unfolding compose parser_messages parser_sentence ascii
returns-in-AssemblyNotClosed c = rw c.in-AssemblyNotClosed.is c.say_all-in-AssemblyNotClosed.ensures
