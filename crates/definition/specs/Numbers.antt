-- The numbers of the code's enums, by the names that the definitions use. Assumes nothing.
use Rattle.std.specs.Prelude.{◌≡◌, Bool, true, false, ◌||◌, ℕ, ◌<◌, ◌≤◌, Result, Ok, Err, MatchResult}
use Rattle.definition.specs.Classes.{between}
use Rattle.definition.specs.Kind as K
use Rattle.definition.specs.TokenError as E
use Rattle.definition.specs.Tag as T
use Rattle.definition.specs.ParseError as P
use Rattle.definition.specs.declared.kind.Kind.{Kind}
use Rattle.definition.specs.declared.kind.NoKind.{NoKind}
use Rattle.definition.specs.declared.token_error.TokenError.{TokenError}
use Rattle.definition.specs.declared.token_error.NoTokenError.{NoTokenError}
use Rattle.definition.specs.declared.refusal.Refusal.{Refusal}
use Rattle.definition.specs.declared.tag.Tag.{Tag}
use Rattle.definition.specs.declared.tag.NoTag.{NoTag}
use Rattle.definition.specs.declared.parse_error.ParseError.{ParseError}

-- ---- kinds of tokens

abbrev pub kind_number : Kind → ℕ
kind_number Kind.End = K.End
kind_number Kind.Identifier = K.Identifier
kind_number Kind.Integer = K.Integer
kind_number Kind.String = K.String
kind_number Kind.KwFn = K.KwFn
kind_number Kind.KwVar = K.KwVar
kind_number Kind.KwReturn = K.KwReturn
kind_number Kind.KwLoop = K.KwLoop
kind_number Kind.KwWhile = K.KwWhile
kind_number Kind.KwBreak = K.KwBreak
kind_number Kind.KwIf = K.KwIf
kind_number Kind.KwElse = K.KwElse
kind_number Kind.KwTrue = K.KwTrue
kind_number Kind.KwFalse = K.KwFalse
kind_number Kind.KwAs = K.KwAs
kind_number Kind.KwType = K.KwType
kind_number Kind.KwStruct = K.KwStruct
kind_number Kind.KwSizeof = K.KwSizeof
kind_number Kind.KwUse = K.KwUse
kind_number Kind.KwExtern = K.KwExtern
kind_number Kind.KwDistinct = K.KwDistinct
kind_number Kind.KwInternal = K.KwInternal
kind_number Kind.Plus = K.Plus
kind_number Kind.Minus = K.Minus
kind_number Kind.Star = K.Star
kind_number Kind.ForwardSlash = K.ForwardSlash
kind_number Kind.Equals = K.Equals
kind_number Kind.DoubleEquals = K.DoubleEquals
kind_number Kind.Ampersand = K.Ampersand
kind_number Kind.DoubleAmpersand = K.DoubleAmpersand
kind_number Kind.Bar = K.Bar
kind_number Kind.Caret = K.Caret
kind_number Kind.Tilde = K.Tilde
kind_number Kind.Bang = K.Bang
kind_number Kind.Dot = K.Dot
kind_number Kind.DotStar = K.DotStar
kind_number Kind.LeftShift = K.LeftShift
kind_number Kind.RightShift = K.RightShift
kind_number Kind.Hash = K.Hash
kind_number Kind.LBrace = K.LBrace
kind_number Kind.RBrace = K.RBrace
kind_number Kind.LParen = K.LParen
kind_number Kind.RParen = K.RParen
kind_number Kind.LBracket = K.LBracket
kind_number Kind.RBracket = K.RBracket
kind_number Kind.LAngle = K.LAngle
kind_number Kind.LAngleEquals = K.LAngleEquals
kind_number Kind.RAngle = K.RAngle
kind_number Kind.RAngleEquals = K.RAngleEquals
kind_number Kind.Colon = K.Colon
kind_number Kind.Semicolon = K.Semicolon
kind_number Kind.RArrow = K.RArrow
kind_number Kind.LArrow = K.LArrow
kind_number Kind.Comma = K.Comma
kind_number Kind.InlineAssemblyFragment = K.InlineAssemblyFragment

abbrev pub KindNumber : Kind → ℕ → Type 0
KindNumber kind n = n ≡ kind_number kind

-- the kind with a number, or that no kind has it
abbrev pub KindOf : ℕ → Result Kind NoKind → Type 0
KindOf n r = MatchResult r (λ kind. (kind_number kind ≡ n) × (n ≤ 54)) (λ e. (e.0 ≡ n) × (54 < n))

-- ---- token errors

abbrev pub token_error_number : TokenError → ℕ
token_error_number TokenError.UnknownEscape = E.UnknownEscape
token_error_number TokenError.UnclosedString = E.UnclosedString
token_error_number TokenError.NoAssembly = E.NoAssembly
token_error_number TokenError.UnknownCharacter = E.UnknownCharacter

abbrev pub TokenErrorNumber : TokenError → ℕ → Type 0
TokenErrorNumber error n = n ≡ token_error_number error

-- the token error with a number, or that none has it
abbrev pub TokenErrorOf : ℕ → Result TokenError NoTokenError → Type 0
TokenErrorOf n r =
    MatchResult r (λ error. (token_error_number error ≡ n) × (between 1 4 n ≡ true))
    (λ e. (e.0 ≡ n) × (between 1 4 n ≡ false))

-- ---- refusals (docs/FORMAT.md, Operations and refusals)

abbrev pub refusal_number : Refusal → ℕ
refusal_number Refusal.ScriptLength = 1
refusal_number Refusal.NotUtf8 = 2
refusal_number Refusal.SliceLength = 3
refusal_number Refusal.ForeignCharacter = 4
refusal_number Refusal.MinusAtEnd = 5
refusal_number Refusal.Tokens = 6
refusal_number Refusal.TokenErrors = 7
refusal_number Refusal.BadRecord = 8
refusal_number Refusal.NoTokens = 9
refusal_number Refusal.Nesting = 10
refusal_number Refusal.EndAfterWord = 11
refusal_number Refusal.Errors = 12
refusal_number Refusal.SentenceLength = 13
refusal_number Refusal.BadField = 14
refusal_number Refusal.BadTree = 15

abbrev pub RefusalNumber : Refusal → ℕ → Type 0
RefusalNumber refusal n = n ≡ refusal_number refusal

-- the number and the count of an answer
abbrev pub number_in : Result ℕ Refusal → ℕ
number_in (Ok count) = 0
number_in (Err refusal) = refusal_number refusal

abbrev pub count_in : Result ℕ Refusal → ℕ
count_in (Ok count) = count
count_in (Err refusal) = 0

-- ---- tags of fields

abbrev pub tag_number : Tag → ℕ
tag_number Tag.Name = T.Name
tag_number Tag.Void = T.Void
tag_number Tag.Pointer = T.Pointer
tag_number Tag.Array = T.Array
tag_number Tag.Struct = T.Struct
tag_number Tag.NamedType = T.NamedType
tag_number Tag.Identifier = T.Identifier
tag_number Tag.Integer = T.Integer
tag_number Tag.Boolean = T.Boolean
tag_number Tag.String = T.String
tag_number Tag.Call = T.Call
tag_number Tag.Index = T.Index
tag_number Tag.Cast = T.Cast
tag_number Tag.PointerTake = T.PointerTake
tag_number Tag.PointerDereference = T.PointerDereference
tag_number Tag.FieldAccess = T.FieldAccess
tag_number Tag.BitwiseNot = T.BitwiseNot
tag_number Tag.BooleanNot = T.BooleanNot
tag_number Tag.BooleanAnd = T.BooleanAnd
tag_number Tag.ArithmeticBinOp = T.ArithmeticBinOp
tag_number Tag.ComparisonBinOp = T.ComparisonBinOp
tag_number Tag.Sizeof = T.Sizeof
tag_number Tag.CompoundArray = T.CompoundArray
tag_number Tag.CompoundStruct = T.CompoundStruct
tag_number Tag.CompoundField = T.CompoundField
tag_number Tag.NoValue = T.NoValue
tag_number Tag.AssignedValue = T.AssignedValue
tag_number Tag.CompoundValue = T.CompoundValue
tag_number Tag.Block = T.Block
tag_number Tag.Expression = T.Expression
tag_number Tag.VariableDeclaration = T.VariableDeclaration
tag_number Tag.Assignment = T.Assignment
tag_number Tag.CompoundAssignment = T.CompoundAssignment
tag_number Tag.Return = T.Return
tag_number Tag.Loop = T.Loop
tag_number Tag.While = T.While
tag_number Tag.Break = T.Break
tag_number Tag.If = T.If
tag_number Tag.InlineAssembly = T.InlineAssembly
tag_number Tag.FunctionDefinition = T.FunctionDefinition
tag_number Tag.TypeAlias = T.TypeAlias
tag_number Tag.Use = T.Use
tag_number Tag.TopLevelVariable = T.TopLevelVariable
tag_number Tag.TopLevelAssembly = T.TopLevelAssembly
tag_number Tag.Module = T.Module
tag_number Tag.ReportedError = T.ReportedError
tag_number Tag.FullError = T.FullError
tag_number Tag.TokenError = T.TokenError

abbrev pub TagNumber : Tag → ℕ → Type 0
TagNumber tag n = n ≡ tag_number tag

abbrev pub is_tag : ℕ → Bool
is_tag n =
    between T.Name T.NamedType n || between T.Identifier T.Sizeof n || between T.CompoundArray T.CompoundValue n
    || between T.Block T.InlineAssembly n || between T.FunctionDefinition T.TopLevelAssembly n || between T.Module T.TokenError n

-- the tag with a number, or that none has it
abbrev pub TagOf : ℕ → Result Tag NoTag → Type 0
TagOf n r =
    MatchResult r (λ tag. (tag_number tag ≡ n) × (is_tag n ≡ true)) (λ e. (e.0 ≡ n) × (is_tag n ≡ false))

-- ---- the parser's errors

abbrev pub parse_error_number : ParseError → ℕ
parse_error_number ParseError.TopLevel = P.TopLevel
parse_error_number ParseError.Expected = P.Expected
parse_error_number ParseError.ExpectedAtEnd = P.ExpectedAtEnd
parse_error_number ParseError.Identifier = P.Identifier
parse_error_number ParseError.EndOfFile = P.EndOfFile
parse_error_number ParseError.StatementAtEnd = P.StatementAtEnd
parse_error_number ParseError.Expression = P.Expression
parse_error_number ParseError.ExpressionAtEnd = P.ExpressionAtEnd
parse_error_number ParseError.ArraySize = P.ArraySize
parse_error_number ParseError.ArraySizePositive = P.ArraySizePositive
parse_error_number ParseError.Type = P.Type'
parse_error_number ParseError.TypeAtEnd = P.TypeAtEnd
parse_error_number ParseError.BodyAtEnd = P.BodyAtEnd
parse_error_number ParseError.ListAtEnd = P.ListAtEnd
parse_error_number ParseError.InList = P.InList
parse_error_number ParseError.NameAfterType = P.NameAfterType
parse_error_number ParseError.PathAfterUse = P.PathAfterUse
parse_error_number ParseError.CompoundAtEnd = P.CompoundAtEnd
parse_error_number ParseError.Compound = P.Compound
parse_error_number ParseError.CharacterLost = P.CharacterLost
parse_error_number ParseError.AssemblyNotClosed = P.AssemblyNotClosed

abbrev pub ParseErrorNumber : ParseError → ℕ → Type 0
ParseErrorNumber error n = n ≡ parse_error_number error
