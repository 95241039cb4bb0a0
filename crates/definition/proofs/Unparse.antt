-- A stack machine that runs over the records of a tree and rebuilds the stripped tokens. Assumes nothing.
use mathlib.Core.Path.{◌≡◌, refl, ap}
use mathlib.Core.Bool.{true, false}
use mathlib.Core.Option.{Option, none, some}
use mathlib.Core.List.{List, [], ◌∷◌, ◌++◌}
use Prim.Native.Nat.{ℕ, zero, suc}
use lib.Dec.{eqb}
use lib.ListN.{get_or}
use Rattle.definition.specs.Tag as Tag
use Rattle.definition.specs.Choice.{pick}
use Rattle.definition.specs.Kind as K
use Rattle.definition.specs.Source.{Place, nowhere, same_place}
use Rattle.definition.specs.Node.{Num, byte, two, eight, Rec}
use Rattle.definition.proofs.Strip.{Norm, symbol, named, integer, sized}

-- the place and the tokens of a subtree
pub record Entry : Type 0 where
  pub place : Place
  pub toks : List Norm

abbrev pub entry : Place → List Norm → Entry
entry p ts = record { place = p; toks = ts }

abbrev pub place_of : Option Place → Place
place_of none = nowhere
place_of (some p) = p

abbrev pub value : Num → ℕ
value (byte n) = n
value (two n) = n
value (eight n) = n

-- number i of a record
abbrev pub number_at : ℕ → List Num → ℕ
number_at i [] = 0
number_at zero (n ∷ ns) = value n
number_at (suc i) (n ∷ ns) = number_at i ns

-- entries popped from the stack and joined, with a separator between them; the stack left
pub record Gathered : Type 0 where
  pub toks : List Norm
  pub rest : List Entry

abbrev pub gathered : List Norm → List Entry → Gathered
gathered ts st = record { toks = ts; rest = st }

abbrev pub add : List Norm → Entry → Gathered → Gathered
add sep e g = gathered (g.toks ++ sep ++ e.toks) g.rest

-- pops n entries; the first of them is the deepest
abbrev pub gather : List Norm → ℕ → List Entry → Gathered
gather sep zero st = gathered [] st
gather sep (suc n) [] = gathered [] []
gather sep (suc zero) (e ∷ st) = gathered e.toks st
gather sep (suc (suc n)) (e ∷ st) = add sep e (gather sep (suc n) st)

abbrev pub sym1 : ℕ → List Norm
sym1 k = symbol k ∷ []

abbrev pub comma : List Norm
comma = sym1 K.Comma

-- pushes an entry for a record without children, and with one, two, three children or a list of them
abbrev pub leaf : Place → List Norm → List Entry → List Entry
leaf p ts st = entry p ts ∷ st

abbrev pub on1 : Place → (Entry → List Norm) → List Entry → List Entry
on1 p f [] = []
on1 p f (e ∷ st) = entry p (f e) ∷ st

abbrev pub on2 : Place → (List Norm → List Norm → List Norm) → List Entry → List Entry
on2 p f [] = []
on2 p f (b ∷ []) = []
on2 p f (b ∷ a ∷ st) = entry p (f a.toks b.toks) ∷ st

abbrev pub on3 : Place → (List Norm → List Norm → List Norm → List Norm) → List Entry → List Entry
on3 p f [] = []
on3 p f (c ∷ []) = []
on3 p f (c ∷ b ∷ []) = []
on3 p f (c ∷ b ∷ a ∷ st) = entry p (f a.toks b.toks c.toks) ∷ st

abbrev pub on_list : Place → (List Norm → List Norm) → Gathered → List Entry
on_list p f g = entry p (f g.toks) ∷ g.rest

-- a call: the arguments are on the stack above what is called
abbrev pub on_call : Place → Gathered → List Entry
on_call p g = on1 p (λ e. e.toks ++ sym1 K.LParen ++ g.toks ++ sym1 K.RParen) g.rest

-- a function: its keyword and name, parameters, `->` and the return type if it is not void, then a body or `;`
abbrev pub returning : List Norm → List Norm
returning [] = []
returning (t ∷ ts) = sym1 K.RArrow ++ (t ∷ ts)

abbrev pub on_function : Place → List Norm → (List Norm → List Norm) → List Norm → Gathered → List Entry
on_function p before after ret g = entry p (before ++ sym1 K.LParen ++ g.toks ++ sym1 K.RParen ++ after (returning ret)) ∷ g.rest

abbrev pub with_body : Place → List ℕ → ℕ → List Entry → List Entry
with_body p name n [] = []
with_body p name n (b ∷ []) = []
with_body p name n (b ∷ r ∷ st) =
    on_function p (sym1 K.KwFn ++ (named K.Identifier name ∷ [])) (λ ret. ret ++ b.toks) r.toks
    (gather comma n st)

abbrev pub external : Place → List ℕ → ℕ → List Entry → List Entry
external p name n [] = []
external p name n (r ∷ st) =
    on_function p (sym1 K.KwExtern ++ sym1 K.KwFn ++ (named K.Identifier name ∷ []))
    (λ ret. ret ++ sym1 K.Semicolon) r.toks (gather comma n st)

-- `*e` if the operand has the place of the record, else `e.*`
abbrev pub dereference : Place → Entry → List Norm
dereference p e = pick (same_place e.place p) (sym1 K.Star ++ e.toks) (e.toks ++ sym1 K.DotStar)

-- the kinds of the operators by their numbers
abbrev pub arithmetic : ℕ → ℕ
arithmetic n = get_or (K.Plus ∷ K.Minus ∷ K.Star ∷ K.Ampersand ∷ K.Caret ∷ K.Bar ∷ K.LeftShift ∷ K.RightShift ∷ []) n 0

abbrev pub comparison : ℕ → ℕ
comparison n = get_or (K.DoubleEquals ∷ K.RAngle ∷ K.RAngleEquals ∷ K.LAngle ∷ K.LAngleEquals ∷ []) n 0

-- what the machine does for a tag
pub record Handler : Type 0 where
  pub tag : ℕ
  pub act : List Entry → List Entry

abbrev pub at : ℕ → (List Entry → List Entry) → Handler
at t f = record { tag = t; act = f }

-- the table of the machine, for a record with this place, numbers and text
unfoldable pub handlers : Place → List Num → List ℕ → List Handler
handlers p ns tx =
    at Tag.Name (leaf p (named K.Identifier tx ∷ [])) ∷
    at Tag.Void (leaf p []) ∷
    at Tag.Pointer (on1 p (λ e. sym1 K.Star ++ e.toks)) ∷
    at Tag.Array
    (on1 p (λ e. sym1 K.LBracket ++ (sized K.Integer (number_at 0 ns) ∷ []) ++ sym1 K.RBracket ++ e.toks)) ∷
    at Tag.Struct (λ st. on_list p (λ ts. sym1 K.KwStruct ++ sym1 K.LBrace ++ ts ++ sym1 K.RBrace)
    (gather comma (number_at 0 ns) st)) ∷
    at Tag.NamedType (on1 p (λ e. (named K.Identifier tx ∷ []) ++ sym1 K.Colon ++ e.toks)) ∷
    at Tag.Identifier (leaf p (named K.Identifier tx ∷ [])) ∷
    at Tag.Integer (leaf p (integer (number_at 0 ns) tx ∷ [])) ∷
    at Tag.Boolean (leaf p (sym1 (pick (eqb (number_at 0 ns) 1) K.KwTrue K.KwFalse))) ∷
    at Tag.String (leaf p (named K.String tx ∷ [])) ∷
    at Tag.Call (λ st. on_call p (gather comma (number_at 0 ns) st)) ∷
    at Tag.Index (on2 p (λ a b. a ++ sym1 K.LBracket ++ b ++ sym1 K.RBracket)) ∷
    at Tag.Cast (on2 p (λ a b. a ++ sym1 K.KwAs ++ b)) ∷
    at Tag.PointerTake (on1 p (λ e. sym1 K.Ampersand ++ e.toks)) ∷
    at Tag.PointerDereference (on1 p (dereference p)) ∷
    at Tag.FieldAccess (on1 p (λ e. e.toks ++ sym1 K.Dot ++ (named K.Identifier tx ∷ []))) ∷
    at Tag.BitwiseNot (on1 p (λ e. sym1 K.Tilde ++ e.toks)) ∷
    at Tag.BooleanNot (on1 p (λ e. sym1 K.Bang ++ e.toks)) ∷
    at Tag.BooleanAnd (on2 p (λ a b. a ++ sym1 K.DoubleAmpersand ++ b)) ∷
    at Tag.ArithmeticBinOp (on2 p (λ a b. a ++ sym1 (arithmetic (number_at 0 ns)) ++ b)) ∷
    at Tag.ComparisonBinOp (on2 p (λ a b. a ++ sym1 (comparison (number_at 0 ns)) ++ b)) ∷
    at Tag.Sizeof (on1 p (λ e. sym1 K.KwSizeof ++ sym1 K.LParen ++ e.toks ++ sym1 K.RParen)) ∷
    at Tag.CompoundArray (λ st. on_list p (λ ts. sym1 K.Hash ++ sym1 K.LBracket ++ ts ++ sym1 K.RBracket)
    (gather comma (number_at 0 ns) st)) ∷
    at Tag.CompoundStruct (λ st. on_list p (λ ts. sym1 K.Hash ++ sym1 K.LBrace ++ ts ++ sym1 K.RBrace)
    (gather comma (number_at 0 ns) st)) ∷
    at Tag.CompoundField (on1 p (λ e. (named K.Identifier tx ∷ []) ++ sym1 K.Equals ++ e.toks)) ∷
    at Tag.NoValue (leaf p []) ∷
    at Tag.AssignedValue (on1 p (λ e. sym1 K.Equals ++ e.toks)) ∷
    at Tag.CompoundValue (on1 p (λ e. sym1 K.LArrow ++ e.toks)) ∷
    at Tag.Block (λ st. on_list p (λ ts. sym1 K.LBrace ++ ts ++ sym1 K.RBrace) (gather [] (number_at 0 ns) st)) ∷
    at Tag.Expression (on1 p (λ e. e.toks ++ sym1 K.Semicolon)) ∷
    at Tag.VariableDeclaration
    (on2 p (λ a b. sym1 K.KwVar ++ (named K.Identifier tx ∷ []) ++ sym1 K.Colon ++ a ++ b ++ sym1 K.Semicolon)) ∷
    at Tag.Assignment (on2 p (λ a b. a ++ sym1 K.Equals ++ b ++ sym1 K.Semicolon)) ∷
    at Tag.CompoundAssignment (on2 p (λ a b. a ++ sym1 K.LArrow ++ b ++ sym1 K.Semicolon)) ∷
    at Tag.Return (λ st. pick (eqb (number_at 0 ns) 0) (leaf p (sym1 K.KwReturn ++ sym1 K.Semicolon) st)
    (on1 p (λ e. sym1 K.KwReturn ++ e.toks ++ sym1 K.Semicolon) st)) ∷
    at Tag.Loop (on1 p (λ e. sym1 K.KwLoop ++ e.toks)) ∷
    at Tag.While (on2 p (λ a b. sym1 K.KwWhile ++ a ++ b)) ∷
    at Tag.Break (leaf p (sym1 K.KwBreak ++ sym1 K.Semicolon)) ∷
    at Tag.If (λ st. pick (eqb (number_at 0 ns) 2) (on2 p (λ a b. sym1 K.KwIf ++ a ++ b) st)
    (on3 p (λ a b c. sym1 K.KwIf ++ a ++ b ++ sym1 K.KwElse ++ c) st)) ∷
    at Tag.InlineAssembly (leaf p (named K.InlineAssemblyFragment tx ∷ [])) ∷
    at Tag.FunctionDefinition (λ st. pick (eqb (number_at 0 ns) 0) (with_body p tx (number_at 1 ns) st)
    (external p tx (number_at 1 ns) st)) ∷
    at Tag.TypeAlias
    (on1 p (λ e. sym1 K.KwType ++ (named K.Identifier tx ∷ []) ++ sym1 K.Equals ++ e.toks ++ sym1 K.Semicolon)) ∷
    at Tag.Use (leaf p (sym1 K.KwUse ++ (named K.String tx ∷ []) ++ sym1 K.Semicolon)) ∷
    at Tag.TopLevelVariable
    (on2 p (λ a b. sym1 K.KwVar ++ (named K.Identifier tx ∷ []) ++ sym1 K.Colon ++ a ++ b ++ sym1 K.Semicolon)) ∷
    at Tag.TopLevelAssembly (leaf p (named K.InlineAssemblyFragment tx ∷ [])) ∷ []

-- runs the handler of a tag; without one the stack is emptied
unfoldable pub handle : ℕ → List Handler → List Entry → List Entry
handle t [] st = []
handle t (h ∷ hs) st = elim (eqb t h.tag) [ true ↦ h.act st | false ↦ handle t hs st ]

-- one step: a record pops the entries of its children and pushes its own
unfoldable pub step : Rec → List Entry → List Entry
unfolding handle handlers
step r st = handle r.tag (handlers (place_of r.place) r.numbers r.text) st

unfoldable pub unparse : List Rec → List Entry → List Entry
unparse [] st = st
unparse (r ∷ rs) st = unparse rs (step r st)

pub unparse_append : (xs ys : List Rec) (st : List Entry) → unparse (xs ++ ys) st ≡ unparse ys (unparse xs st)
unfolding unparse
unparse_append [] ys st = refl
unparse_append (x ∷ xs) ys st = unparse_append xs ys (step x st)

-- the tokens with those of one more item
abbrev pub extend : List Norm → ℕ → List Norm → List Norm → List Norm
extend sep zero ts us = us
extend sep (suc n) ts us = ts ++ sep ++ us

-- gathering one more entry adds its tokens
pub gather_one_more : (sep : List Norm) (n : ℕ) (e : Entry) (st st₀ : List Entry) (ts : List Norm)
    → gather sep n st ≡ gathered ts st₀ → gather sep (suc n) (e ∷ st) ≡ gathered (extend sep n ts e.toks) st₀
gather_one_more sep zero e st st₀ ts h = ap (λ (g : Gathered). gathered e.toks g.rest) h
gather_one_more sep (suc n) e st st₀ ts h = ap (λ (g : Gathered). add sep e g) h
