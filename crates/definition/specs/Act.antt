-- The steps of a function of the parser, its answers, and what the steps do to the state: the terms of `Parser.antt`.
-- Assumes nothing.
use Rattle.std.specs.Prelude.{Bool, true, false, List, [], ◌∷◌, ◌++◌, ℕ, ltb, length}
use Rattle.definition.specs.Source.{Place}
use Rattle.definition.specs.Node.{Rec}
use Rattle.definition.specs.Fallible.{Err, Fallible, Ans, ok, fatal}
use Rattle.definition.specs.Token.{Tok, next_token, tail}

-- a node of the tree, as the functions above it see it: its place, and its records, children first
pub record Node : Type 0 where
  pub place : Place
  pub recs : List Rec

-- `Fallible<Vec<T>>`: the number of nodes, their records, and the errors reported
pub record Items : Type 0 where
  pub count : ℕ
  pub recs : List Rec
  pub errors : List Err

-- The four functions whose open calls are counted
pub data Goal : Type 0 where
  Statement Expression Unary Type' : Goal

-- The lists of `parse_bounded_list_of`
pub data Listed : Type 0 where
  Parameters Arguments StructFields ArrayValues StructValues : Listed

-- The levels of `parse_arithmetic_binop`, the loosest first
pub data Level : Type 0 where
  BitOr BitXor BitAnd Shift AddSub Mul : Level

pub record Words : Type 0 where
  pub distinct : ℕ
  pub internal : ℕ

-- the loops of the parser, each with the variables that it changes
pub data Loop : Type 0 where
  Module : Items → Loop
  Body : Items → Loop
  ListOf : Listed → Items → Loop
  Operators : Level → Fallible Node → Loop
  Casts : Fallible Node → Loop
  Suffixes : Fallible Node → Loop
  Modifiers : Words → Loop

-- the result of a loop
abbrev pub Left : Loop → Type 0
Left (Module i) = Items
Left (Body i) = Items
Left (ListOf k i) = Items
Left (Operators l e) = Ans Node
Left (Casts e) = Ans Node
Left (Suffixes e) = Ans Node
Left (Modifiers w) = Words

-- the role of a token: a grouping parenthesis, a comma right before the end of its list, an array's size, or none
pub data Role : Type 0 where
  plain group final size : Role

-- the next step of a function
pub data Act (A : Type 0) : Type 0 where
  done : A → Act A  -- return
  peek : (Tok → Act A) → Act A  -- self.tokens.peek()
  consume : (Tok → Role) → (Tok → Act A) → Act A  -- self.tokens.next(); the next token decides its role
  make : Err → Act A → Act A  -- ParseError::new(..)
  when◌then◌else◌ : Bool → Act A → Act A → Act A
  call : Goal → (Ans Node → Act A) → Act A  -- a call of one of the four
  loop : (l : Loop) → (Left l → Act A) → Act A  -- a loop, or its next turn
  panic : Act A  -- where the Rust panics

infix 10 when◌then◌else◌
abbrev pub next_as : {A : Type 0} → Role → (Tok → Act A) → Act A
next_as r k = consume (λ _. r) k

abbrev pub next : {A : Type 0} → (Tok → Act A) → Act A
next k = next_as plain k

infixr 20 ◌>>=◌
unfoldable pub ◌>>=◌ : {A B : Type 0} → Act A → (A → Act B) → Act B
done a >>= f = f a
peek k >>= f = peek (λ t. k t >>= f)
consume r k >>= f = consume r (λ t. k t >>= f)
make e m >>= f = make e (m >>= f)
when◌then◌else◌ b m n >>= f = when b then (m >>= f) else (n >>= f)
call g k >>= f = call g (λ a. k a >>= f)
loop l k >>= f = loop l (λ a. k a >>= f)
panic >>= f = panic

-- `m()?`: a fatal answer is returned, with its own errors only
abbrev pub or_return : {A B : Type 0} → (Fallible A → Act (Ans B)) → Ans A → Act (Ans B)
or_return f (ok x) = f x
or_return f (fatal es) = done (fatal es)

infixr 20 ◌>>?◌
abbrev pub ◌>>?◌ : {A B : Type 0} → Act (Ans A) → (Fallible A → Act (Ans B)) → Act (Ans B)
m >>? f = m >>= or_return f

-- the state: the tokens left, the tokens read with the role of each, and the full list
pub record Consumed : Type 0 where
  pub tok : Tok
  pub role : Role

pub record St : Type 0 where
  pub tokens : List Tok
  pub read : List Consumed
  pub full : List Err

-- the state that the parser begins in, with these entries in the full list
abbrev pub begin : List Err → List Tok → St
begin full ts = record { tokens = ts; read = []; full = full }

-- what is read of the tokens left: the first one, or nothing at the end
abbrev pub now_read : (Tok → Role) → List Tok → List Consumed
now_read r [] = []
now_read r (t ∷ ts) = record { tok = t; role = r (next_token ts) } ∷ []

abbrev pub advance : (Tok → Role) → St → St
advance r s = record { tokens = tail s.tokens; read = s.read ++ now_read r s.tokens; full = s.full }

abbrev pub push : Err → St → St
push e s = record { tokens = s.tokens; read = s.read; full = s.full ++ (e ∷ []) }

-- an answer and the state after it, or a refusal
pub data Res (A : Type 0) : Type 0 where
  gives : A → St → Res A
  refused : ℕ → Res A

abbrev pub after : {A B : Type 0} → Res A → (A → St → Res B) → Res B
after (gives a s) f = f a s
after (refused n) f = refused n

-- runs an act, where c and o give the results of calls and of loops
unfoldable pub run : {A : Type 0} → (Goal → St → Res (Ans Node)) → ((l : Loop) → St → Res (Left l)) → Act A → St → Res A
run c o (done a) s = gives a s
run c o (peek k) s = run c o (k (next_token s.tokens)) s
run c o (consume r k) s = run c o (k (next_token s.tokens)) (advance r s)
run c o (make e m) s = elim (ltb (length s.full) 255) [ true ↦ run c o m (push e s) | false ↦ refused 12 ]
run c o (when◌then◌else◌ b m n) s = elim b [ true ↦ run c o m s | false ↦ run c o n s ]
run c o (call g k) s = after (c g s) (λ a s'. run c o (k a) s')
run c o (loop l k) s = after (o l s) (λ a s'. run c o (k a) s')
run c o panic s = refused 11
