-- The numbers of the parser's errors (docs/FORMAT.md, Errors of the parser), and of losses. Assumes nothing.
use Rattle.std.specs.Prelude.{ℕ}

abbrev pub TopLevel : ℕ
TopLevel = 1

abbrev pub Expected : ℕ
Expected = 2

abbrev pub ExpectedAtEnd : ℕ
ExpectedAtEnd = 3

abbrev pub Identifier : ℕ
Identifier = 4

abbrev pub EndOfFile : ℕ
EndOfFile = 5

abbrev pub StatementAtEnd : ℕ
StatementAtEnd = 6

abbrev pub Expression : ℕ
Expression = 7

abbrev pub ExpressionAtEnd : ℕ
ExpressionAtEnd = 8

abbrev pub ArraySize : ℕ
ArraySize = 9

abbrev pub ArraySizePositive : ℕ
ArraySizePositive = 10

abbrev pub Type' : ℕ
Type' = 11

abbrev pub TypeAtEnd : ℕ
TypeAtEnd = 12

abbrev pub BodyAtEnd : ℕ
BodyAtEnd = 13

abbrev pub ListAtEnd : ℕ
ListAtEnd = 14

abbrev pub InList : ℕ
InList = 15

abbrev pub NameAfterType : ℕ
NameAfterType = 16

abbrev pub PathAfterUse : ℕ
PathAfterUse = 17

abbrev pub CompoundAtEnd : ℕ
CompoundAtEnd = 18

abbrev pub Compound : ℕ
Compound = 19

abbrev pub CharacterLost : ℕ
CharacterLost = 20

abbrev pub AssemblyNotClosed : ℕ
AssemblyNotClosed = 21
