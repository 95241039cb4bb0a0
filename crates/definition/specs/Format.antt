-- The tables of docs/FORMAT.md (Records by tag, Error fields), as a value: the parts of each field's body, and the kinds
-- of a record's children as `node.rs` types them. Assumes nothing.
use Rattle.std.specs.Prelude.{true, false, List, [], ◌∷◌, ◌++◌, ℕ, ◌-◌, eqb, replicate}
use Rattle.std.proofs.Math.Option.{Option, none, some}
use Rattle.definition.specs.Tag as T
use Rattle.definition.specs.Node as N
use Rattle.definition.specs.Node.{Num, Rec}

-- A part of a body: a place; a place or 0:0; a number in one byte, within two bounds; the base of an Integer, in one
-- byte; a count, in two bytes; a number in eight bytes; a text, up to the end of the body
pub data Part : Type 0 where
  place place_or_nowhere : Part
  byte : ℕ → ℕ → Part
  base count eight text : Part

-- ---- the kinds of nodes, each numbered by its first tag

abbrev pub type : ℕ
type = T.Name

-- a parameter, or a field of a struct type
abbrev pub named_type : ℕ
named_type = T.NamedType

abbrev pub expression : ℕ
expression = T.Identifier

abbrev pub compound : ℕ
compound = T.CompoundArray

abbrev pub compound_field : ℕ
compound_field = T.CompoundField

abbrev pub initial_value : ℕ
initial_value = T.NoValue

abbrev pub statement : ℕ
statement = T.Block

abbrev pub item : ℕ
item = T.FunctionDefinition

-- ---- the table

-- A node of a kind; the root, which is the module; or an error of a list: 1 that of the tokenizer, 2 the reported one,
-- 3 the full one, in the order in which they follow the module
pub data Sort : Type 0 where
  node : ℕ → Sort
  root : Sort
  error : ℕ → Sort

-- The row of a tag: its sort, the parts of its body, and the kinds of its children, for the body's byte b and count c
pub record Row : Type 0 where
  pub tag : ℕ
  pub sort : Sort
  pub body : List Part
  pub children : ℕ → ℕ → List ℕ

row : ℕ → Sort → List Part → (ℕ → ℕ → List ℕ) → Row
row t s ps f = record { tag = t; sort = s; body = ps; children = f }

unfoldable pub rows : List Row
unfolding row
rows =
    row T.Name (node type) (place ∷ text ∷ []) (λ b c. []) ∷
    row T.Void (node type) (place ∷ []) (λ b c. []) ∷
    row T.Pointer (node type) (place ∷ []) (λ b c. type ∷ []) ∷
    row T.Array (node type) (place ∷ eight ∷ []) (λ b c. type ∷ []) ∷
    row T.Struct (node type) (place ∷ count ∷ []) (λ b c. replicate c named_type) ∷
    row T.NamedType (node named_type) (text ∷ []) (λ b c. type ∷ []) ∷
    row T.Identifier (node expression) (place ∷ text ∷ []) (λ b c. []) ∷
    row T.Integer (node expression) (place ∷ base ∷ text ∷ []) (λ b c. []) ∷
    row T.Boolean (node expression) (place ∷ byte 0 1 ∷ []) (λ b c. []) ∷
    row T.String (node expression) (place ∷ text ∷ []) (λ b c. []) ∷
    row T.Call (node expression) (place ∷ count ∷ []) (λ b c. expression ∷ replicate c expression) ∷
    row T.Index (node expression) (place ∷ []) (λ b c. expression ∷ expression ∷ []) ∷
    row T.Cast (node expression) (place ∷ []) (λ b c. expression ∷ type ∷ []) ∷
    row T.PointerTake (node expression) (place ∷ []) (λ b c. expression ∷ []) ∷
    row T.PointerDereference (node expression) (place ∷ []) (λ b c. expression ∷ []) ∷
    row T.FieldAccess (node expression) (place ∷ text ∷ []) (λ b c. expression ∷ []) ∷
    row T.BitwiseNot (node expression) (place ∷ []) (λ b c. expression ∷ []) ∷
    row T.BooleanNot (node expression) (place ∷ []) (λ b c. expression ∷ []) ∷
    row T.BooleanAnd (node expression) (place ∷ []) (λ b c. expression ∷ expression ∷ []) ∷
    row T.ArithmeticBinOp (node expression) (place ∷ byte 0 7 ∷ []) (λ b c. expression ∷ expression ∷ []) ∷
    row T.ComparisonBinOp (node expression) (place ∷ byte 0 4 ∷ []) (λ b c. expression ∷ expression ∷ []) ∷
    row T.Sizeof (node expression) (place ∷ []) (λ b c. type ∷ []) ∷
    row T.CompoundArray (node compound) (place ∷ count ∷ []) (λ b c. replicate c expression) ∷
    row T.CompoundStruct (node compound) (place ∷ count ∷ []) (λ b c. replicate c compound_field) ∷
    row T.CompoundField (node compound_field) (place ∷ text ∷ []) (λ b c. expression ∷ []) ∷
    row T.NoValue (node initial_value) [] (λ b c. []) ∷
    row T.AssignedValue (node initial_value) [] (λ b c. expression ∷ []) ∷
    row T.CompoundValue (node initial_value) [] (λ b c. compound ∷ []) ∷
    row T.Block (node statement) (place ∷ count ∷ []) (λ b c. replicate c statement) ∷
    row T.Expression (node statement) (place ∷ []) (λ b c. expression ∷ []) ∷
    row T.VariableDeclaration (node statement) (place ∷ text ∷ []) (λ b c. type ∷ initial_value ∷ []) ∷
    row T.Assignment (node statement) (place ∷ []) (λ b c. expression ∷ expression ∷ []) ∷
    row T.CompoundAssignment (node statement) (place ∷ []) (λ b c. expression ∷ compound ∷ []) ∷
    row T.Return (node statement) (place ∷ byte 0 1 ∷ []) (λ b c. replicate b expression) ∷
    row T.Loop (node statement) (place ∷ []) (λ b c. statement ∷ []) ∷
    row T.While (node statement) (place ∷ []) (λ b c. expression ∷ statement ∷ []) ∷
    row T.Break (node statement) (place ∷ []) (λ b c. []) ∷
    row T.If (node statement) (place ∷ byte 2 3 ∷ []) (λ b c. expression ∷ replicate (b - 1) statement) ∷
    row T.InlineAssembly (node statement) (place ∷ text ∷ []) (λ b c. []) ∷
    row T.FunctionDefinition (node item) (place ∷ byte 0 1 ∷ count ∷ text ∷ [])
    (λ b c. replicate c named_type ++ (type ∷ replicate (1 - b) statement)) ∷
    row T.TypeAlias (node item) (place ∷ byte 0 3 ∷ text ∷ []) (λ b c. type ∷ []) ∷
    row T.Use (node item) (place ∷ text ∷ []) (λ b c. []) ∷
    row T.TopLevelVariable (node item) (place ∷ text ∷ []) (λ b c. type ∷ initial_value ∷ []) ∷
    row T.TopLevelAssembly (node item) (place ∷ text ∷ []) (λ b c. []) ∷
    row T.Module root (count ∷ []) (λ b c. replicate c item) ∷
    row T.TokenError (error 1) (byte 1 4 ∷ place ∷ byte 0 0 ∷ byte 0 0 ∷ []) (λ b c. []) ∷
    row T.ReportedError (error 2) (byte 1 19 ∷ place_or_nowhere ∷ byte 0 54 ∷ byte 0 54 ∷ []) (λ b c. []) ∷
    row T.FullError (error 3) (byte 1 21 ∷ place_or_nowhere ∷ byte 0 54 ∷ byte 0 54 ∷ []) (λ b c. []) ∷
    []

-- the row of a tag
unfoldable pub find : ℕ → List Row → Option Row
find t [] = none
find t (r ∷ rs) = elim (eqb t r.tag) [ true ↦ some r | false ↦ find t rs ]

-- ---- the children of a record

-- the last byte and the last count of a body, 0 if it has none
pub record Numbers : Type 0 where
  pub byte : ℕ
  pub count : ℕ

abbrev pub no_numbers : Numbers
no_numbers = record { byte = 0; count = 0 }

-- those of a record's numbers, where n is what came before
abbrev pub numbers_of : List Num → Numbers → Numbers
numbers_of [] n = n
numbers_of (N.byte b ∷ ns) n = numbers_of ns (record { byte = b; count = n.count })
numbers_of (N.two c ∷ ns) n = numbers_of ns (record { byte = n.byte; count = c })
numbers_of (N.eight x ∷ ns) n = numbers_of ns n

-- the kinds of a record's children
abbrev pub children_of : Row → Rec → List ℕ
children_of w r = let n = numbers_of r.numbers no_numbers in w.children n.byte n.count

-- the module's record, which comes last
abbrev pub module_rec : ℕ → Rec
module_rec n = record { tag = T.Module; place = none; numbers = N.two n ∷ []; text = [] }
