-- The tags of a tree file's fields (docs/FORMAT.md, Records by tag). Assumes nothing.
use Rattle.std.specs.Prelude.{ℕ}

-- ---- types

abbrev pub Name : ℕ
Name = 0x10

abbrev pub Void : ℕ
Void = 0x11

abbrev pub Pointer : ℕ
Pointer = 0x12

abbrev pub Array : ℕ
Array = 0x13

abbrev pub Struct : ℕ
Struct = 0x14

abbrev pub NamedType : ℕ
NamedType = 0x15

-- ---- expressions

abbrev pub Identifier : ℕ
Identifier = 0x20

abbrev pub Integer : ℕ
Integer = 0x21

abbrev pub Boolean : ℕ
Boolean = 0x22

abbrev pub String : ℕ
String = 0x23

abbrev pub Call : ℕ
Call = 0x24

abbrev pub Index : ℕ
Index = 0x25

abbrev pub Cast : ℕ
Cast = 0x26

abbrev pub PointerTake : ℕ
PointerTake = 0x27

abbrev pub PointerDereference : ℕ
PointerDereference = 0x28

abbrev pub FieldAccess : ℕ
FieldAccess = 0x29

abbrev pub BitwiseNot : ℕ
BitwiseNot = 0x2A

abbrev pub BooleanNot : ℕ
BooleanNot = 0x2B

abbrev pub BooleanAnd : ℕ
BooleanAnd = 0x2C

abbrev pub ArithmeticBinOp : ℕ
ArithmeticBinOp = 0x2D

abbrev pub ComparisonBinOp : ℕ
ComparisonBinOp = 0x2E

abbrev pub Sizeof : ℕ
Sizeof = 0x2F

-- ---- compounds, and the initial value of a declaration

abbrev pub CompoundArray : ℕ
CompoundArray = 0x30

abbrev pub CompoundStruct : ℕ
CompoundStruct = 0x31

abbrev pub CompoundField : ℕ
CompoundField = 0x32

abbrev pub NoValue : ℕ
NoValue = 0x33

abbrev pub AssignedValue : ℕ
AssignedValue = 0x34

abbrev pub CompoundValue : ℕ
CompoundValue = 0x35

-- ---- statements

abbrev pub Block : ℕ
Block = 0x40

abbrev pub Expression : ℕ
Expression = 0x41

abbrev pub VariableDeclaration : ℕ
VariableDeclaration = 0x42

abbrev pub Assignment : ℕ
Assignment = 0x43

abbrev pub CompoundAssignment : ℕ
CompoundAssignment = 0x44

abbrev pub Return : ℕ
Return = 0x45

abbrev pub Loop : ℕ
Loop = 0x46

abbrev pub While : ℕ
While = 0x47

abbrev pub Break : ℕ
Break = 0x48

abbrev pub If : ℕ
If = 0x49

abbrev pub InlineAssembly : ℕ
InlineAssembly = 0x4A

-- ---- items, and the module

abbrev pub FunctionDefinition : ℕ
FunctionDefinition = 0x50

abbrev pub TypeAlias : ℕ
TypeAlias = 0x51

abbrev pub Use : ℕ
Use = 0x52

abbrev pub TopLevelVariable : ℕ
TopLevelVariable = 0x53

abbrev pub TopLevelAssembly : ℕ
TopLevelAssembly = 0x54

abbrev pub Module : ℕ
Module = 0x5F

-- ---- errors

abbrev pub ReportedError : ℕ
ReportedError = 0x60

abbrev pub FullError : ℕ
FullError = 0x61

abbrev pub TokenError : ℕ
TokenError = 0x62
