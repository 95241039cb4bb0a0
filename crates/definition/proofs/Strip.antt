-- Stripped tokens: what the tree tells of the tokens that demand 3 (docs/FORMAT.md) does not strike. Assumes nothing.
use mathlib.Core.Bool.{Bool, ◌||◌}
use mathlib.Core.List.{List, [], ◌∷◌, ◌++◌}
use Prim.Native.Nat.{ℕ}
use lib.Dec.{eqb}
use Rattle.definition.specs.Choice.{pick}
use Rattle.definition.specs.Kind as K
use Rattle.definition.specs.Token.{Tok, number}
use Rattle.definition.specs.Act.{Role, plain, group, final, size, Consumed}
use Rattle.definition.specs.Demand.{is_modifier}

-- a kind without text; a kind with its text; an integer with its base and text; an array's size with its value
pub data Norm : Type 0 where
  symbol : ℕ → Norm
  named : ℕ → List ℕ → Norm
  integer : ℕ → List ℕ → Norm
  sized : ℕ → ℕ → Norm

-- the kinds with a text, apart from Integer
abbrev pub is_named : ℕ → Bool
is_named k = eqb k K.Identifier || eqb k K.String || eqb k K.InlineAssemblyFragment

abbrev pub spelling : Tok → Norm
spelling t =
    pick (is_named t.kind) (named t.kind t.text)
    (pick (eqb t.kind K.Integer) (integer t.base t.text) (symbol t.kind))

-- the stripped form of a token in its role: none if it is struck
abbrev pub norm : Role → Tok → List Norm
norm plain t = pick (is_modifier t.kind) [] (spelling t ∷ [])
norm group t = []
norm final t = []
norm size t = pick (is_modifier t.kind) [] (sized t.kind (number t.base 0 t.text) ∷ [])

unfoldable pub strip : List Consumed → List Norm
strip [] = []
strip (c ∷ cs) = norm c.role c.tok ++ strip cs
