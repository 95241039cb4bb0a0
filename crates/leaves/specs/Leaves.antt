-- What the functions of `leaves` ensure. Assumes nothing.
use Rattle.std.specs.Prelude.{◌≡◌, Bool, ◌&&◌, ◌||◌, not, List, [], ◌∷◌, ◌++◌, ℕ, ◌+◌, ◌^◌, ◌≤◌, eqb, ltb, get_or, Option, Some, None}
use Rattle.definition.specs.Tag as T
use Rattle.definition.specs.Choice.{pick}
use Rattle.definition.specs.Fallible.{Err}
use Rattle.definition.specs.Token.{next_token, dashed, number}
use Rattle.definition.specs.Act as A
use Rattle.definition.specs.Act.{Items, done, loop, ListOf, Consumed, refused}
use Rattle.definition.specs.Kind as K
use Rattle.definition.specs.Parser as P
use Rattle.definition.specs.Ascii.{ascii}
use Rattle.definition.specs.Numbers.{kind_number, tag_number}
use Rattle.definition.specs.declared.tag.Tag.{Tag}
use Rattle.definition.specs.Go.{go}
use Rattle.node.specs.declared.Numbers.TheVariants as Numbers
use Rattle.node.specs.Put.{placed}
use Rattle.definition.specs.Node.{Rec}
use Rattle.fallible.specs.declared.error.Error.{Error}
use Rattle.fallible.specs.declared.parser.State.{State}
use Rattle.fallible.specs.Answer.{Status, Done, Fatal, Refused, Answer}
use Rattle.fallible.specs.Lists.{errs}
use Rattle.steps.specs.declared.tokens.Token.{Token}
use Rattle.steps.specs.Tokens.{rest}
use Rattle.steps.specs.Shows.{st_of, Asked, Moved, Expects}
use Rattle.leaves.specs.declared.Listed.{Listed}
use Rattle.leaves.specs.declared.Listed.TheVariants as I
use Rattle.leaves.specs.declared.Level.{Level}
use Rattle.leaves.specs.declared.Level.TheVariants as Lv

-- ---- lists

abbrev pub listed_of : Listed → A.Listed
listed_of I.Parameters = A.Parameters
listed_of I.Arguments = A.Arguments
listed_of I.StructFields = A.StructFields
listed_of I.ArrayValues = A.ArrayValues
listed_of I.StructValues = A.StructValues

abbrev pub count_of : Status → ℕ → ℕ
count_of Done n = n + 1
count_of Fatal n = n
count_of (Refused m) n = n

pub record Counted (h : Status) (n r : ℕ) : Type 0 where
  pub is : r ≡ count_of h n
  pub low : n ≤ r
  pub high : r ≤ n + 1

-- the items with the errors es added
abbrev pub with_errors : Items → List Err → Items
with_errors i es = record { count = i.count; recs = i.recs; errors = i.errors ++ es }

-- the list continues after an item and its separator
pub record Next (w x : List ℕ) (n : ℕ) (k : A.Listed) (r f : List Error) (s : State) (r' f' : List Error) (s' : State) (d : ℕ) (rd : List Consumed) (i : Items) : Type 0 where
  pub errors : List Err
  pub read : List Consumed
  pub is : go d (P.after_item k i) (st_of w x n f rd s) ≡ go d (loop (ListOf k (with_errors i errors)) done) (st_of w x n f' read s')
  pub reported : errs r' s'.reported ≡ errs r s.reported ++ errors

abbrev pub CommasOf : Status → List ℕ → List ℕ → ℕ → A.Listed → List Error → List Error → State → List Error → List Error → State → ℕ → List Consumed → Items → Type 0
CommasOf Done w x n k r f s r' f' s' d rd i = Next w x n k r f s r' f' s' d rd i
CommasOf Fatal w x n k r f s r' f' s' d rd i = ⊥
CommasOf (Refused m) w x n k r f s r' f' s' d rd i = go d (P.after_item k i) (st_of w x n f rd s) ≡ refused m

pub record Commas (w : List ℕ) (n : ℕ) (r f : List Error) (s : State) (close : ℕ) (r' f' : List Error) (a : Answer) : Type 0 where
  pub moved : Moved w n s.pos s.reported s a.state
  pub pos : a.state.pos ≡ s.pos
  pub is : (x : List ℕ) (k : A.Listed) → P.closer k ≡ close → (d : ℕ) (rd : List Consumed) (i : Items) → CommasOf a.status w x n k r f s r' f' a.state d rd i

-- ---- array sizes

-- the text is negative or does not fit 64 bits
abbrev pub unfit : ℕ → List ℕ → Bool
unfit base t = dashed t || not (ltb (number base 0 t) (2 ^ 64))

-- the size, if it fits
abbrev pub size_in : ℕ → List ℕ → Option ℕ
size_in base t = pick (unfit base t) None (Some (number base 0 t))

-- ---- operators

abbrev pub level_of : Level → A.Level
level_of Lv.BitwiseOr = A.BitOr
level_of Lv.BitwiseXor = A.BitXor
level_of Lv.BitwiseAnd = A.BitAnd
level_of Lv.BitShift = A.Shift
level_of Lv.AddSub = A.AddSub
level_of Lv.Mul = A.Mul

-- the levels, the tightest first
abbrev pub levels : List Level
levels = Lv.Mul ∷ Lv.AddSub ∷ Lv.BitShift ∷ Lv.BitwiseAnd ∷ Lv.BitwiseXor ∷ Lv.BitwiseOr ∷ []

abbrev pub level_at : ℕ → A.Level
level_at k = level_of (get_or levels k Lv.BitwiseOr)

-- the number that a table of operators gives a kind, if it has the kind
abbrev pub operator_of : List P.Op → ℕ → Option ℕ
operator_of [] k = None
operator_of (o ∷ os) k = pick (eqb k o.kind) (Some o.op) (operator_of os k)

-- the kind k is an operator of a level
abbrev pub is_arithmetic : ℕ → Bool
is_arithmetic k = eqb k K.Bar || eqb k K.Caret || eqb k K.Ampersand || eqb k K.LeftShift || eqb k K.RightShift || eqb k K.Plus || eqb k K.Minus || eqb k K.Star

-- the prefix operators, and their tags as numbers
abbrev pub prefixes : List P.Op
prefixes = P.on K.Ampersand T.PointerTake ∷ P.on K.Star T.PointerDereference ∷ P.on K.Tilde T.BitwiseNot ∷ P.on K.Bang T.BooleanNot ∷ []

-- the number of a tag, if there is one
abbrev pub number_of : Option Tag → Option ℕ
number_of None = None
number_of (Some tag) = Some (tag_number tag)

-- ---- literals, groups

-- the answer after the token t is consumed
abbrev pub there : State → Token → Answer
there s t = record { status = Done; state = record { at = t.next; pos = s.pos; reported = s.reported; full = s.full }; place = t.place; count = 0 }

-- the record of an identifier
abbrev pub identifier : Token → Rec
identifier t = placed t.place Tag.Identifier Numbers.None t.text.now

-- the name that a token gives
abbrev pub name_in : Token → List ℕ
name_in t = pick (eqb (kind_number t.kind) K.Identifier) t.text.now (ascii "<?>")

-- an identifier, and the next token neither a suffix nor the `(` of a call
abbrev pub is_name_alone : ℕ → ℕ → Bool
is_name_alone k next = eqb k K.Identifier && not (eqb next K.Dot) && not (eqb next K.DotStar) && not (eqb next K.LBracket) && not (eqb next K.LParen)

-- the next token is not `(`
pub record Literal (w x : List ℕ) (n : ℕ) (o : List ℕ) (r f : List Error) (s : State) : Type 0 where
  pub asked : Asked w n o r f s
  pub bare : (next_token (rest w x n s.at)).kind ≡ K.LParen → ⊥

-- a group: a is the answer inside it, b that of its `)`
abbrev pub ClosingOf : Status → Answer → Answer → Answer → Type 0
ClosingOf Done a b y = y ≡ record { status = a.status; state = b.state; place = a.place; count = a.count }
ClosingOf Fatal a b y = y ≡ record { status = a.status; state = b.state; place = a.place; count = a.count }
ClosingOf (Refused m) a b y = y ≡ b

pub record Closing (w : List ℕ) (n : ℕ) (r f : List Error) (a : Answer) (r' f' : List Error) (y : Answer) : Type 0 where
  pub b : Answer
  pub expects : Expects w n (λ role. P.expect_as role K.RParen) r f a.state r' f' b
  pub is : ClosingOf b.status a b y

abbrev pub ClosedOf : Status → List ℕ → ℕ → List Error → List Error → Answer → List Error → List Error → Answer → Type 0
ClosedOf Done w n r f a r' f' y = Closing w n r f a r' f' y
ClosedOf Fatal w n r f a r' f' y = Closing w n r f a r' f' y
ClosedOf (Refused m) w n r f a r' f' y = (y ≡ a) × ((r' ≡ r) × (f' ≡ f))

pub record Closed (w : List ℕ) (n : ℕ) (r f : List Error) (a : Answer) (r' f' : List Error) (y : Answer) : Type 0 where
  pub moved : Moved w n a.state.pos a.state.reported a.state y.state
  pub pos : y.state.pos ≡ a.state.pos
  pub is : ClosedOf a.status w n r f a r' f' y
