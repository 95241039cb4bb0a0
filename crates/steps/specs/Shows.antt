-- How an answer of the code represents an answer of the definition. Assumes nothing.
-- Variables, here and in the laws: w, x and n are the token words, the text and the count of tokens; o, r and f the
-- file, the reported and the full list, o', r' and f' at exit; s is a state, a and y are answers; i and j are the
-- file offset and the count of reported errors where a construct began; d more counted calls may be opened.
use Rattle.std.specs.Prelude.{◌≡◌, List, [], ◌++◌, ℕ, ◌+◌, ◌*◌, ◌≤◌, length, take}
use Rattle.definition.specs.Node.{Rec, recs_bytes}
use Rattle.definition.specs.Fallible.{Err, Fallible, Ans, ok, fatal}
use Rattle.definition.specs.Token.{Tok, next_token}
use Rattle.definition.specs.Act.{Act, Consumed, Items, Node, Role, St, Res, gives, refused, after, or_return}
use Rattle.definition.specs.Parser as P
use Rattle.definition.specs.Go.{go}
use Rattle.definition.specs.Places.{place_of}
use Rattle.definition.specs.declared.place.Place.{Place}
use Rattle.std.proofs.Math.Option.{some}
use Rattle.node.specs.Put.{Wrote, size_of}
use Rattle.fallible.specs.declared.error.Error.{Error}
use Rattle.fallible.specs.declared.parser.State.{State}
use Rattle.fallible.specs.Answer.{Status, Done, Fatal, Refused, done_of, Answer}
use Rattle.fallible.specs.Lists.{errs}
use Rattle.fallible.specs.Answers.{Abandoned}
use Rattle.steps.specs.Tokens.{rest, budget, present}

-- ---- states

abbrev pub st_of : List ℕ → List ℕ → ℕ → List Error → List Consumed → State → St
st_of w x n f rd s = record { tokens = rest w x n s.at; read = rd; full = errs f s.full }

-- what each function requires of a state; those that write also require room
pub record Asks (n : ℕ) (r f : List Error) (s : State) : Type 0 where
  pub at : s.at ≤ n
  pub reported : s.reported ≤ s.full
  pub few : s.full ≤ 255
  pub reps : 256 ≤ length r
  pub fulls : 256 ≤ length f

pub record Asked (w : List ℕ) (n : ℕ) (o : List ℕ) (r f : List Error) (s : State) : Type 0 where
  pub asks : Asks n r f s
  pub room : s.pos + budget w n s.at + 16 ≤ length o

-- how the numbers change from one state to a later one, in a construct that began at i and j
pub record Moved (w : List ℕ) (n i j : ℕ) (s s' : State) : Type 0 where
  pub at : s.at ≤ s'.at
  pub end : s'.at ≤ n
  pub pos : i ≤ s'.pos
  pub room : s'.pos + budget w n s'.at ≤ s.pos + budget w n s.at
  pub reported : j ≤ s'.reported
  pub less : s'.reported + s.full ≤ s.reported + s'.full
  pub full : s.full ≤ s'.full
  pub few : s'.full ≤ 255

-- ---- answers

-- how an item is represented: its records, and what the place and the count of the answer say of it
pub record View (A : Type 0) : Type 1 where
  pub recs : A → List Rec
  pub fine : Place → ℕ → A → Type 0

-- a good answer q of the definition: after T the file has the records rs of the construct so far and those of the
-- item; after E the errors es and those of the item
pub record Good {A : Type 0} (K : View A) (T : List ℕ) (E : List Err) (rs : List Rec) (es : List Err) (w x : List ℕ) (n : ℕ) (o : List ℕ) (r f : List Error) (a : Answer) (q : Res (Ans A)) : Type 0 where
  pub item : A
  pub errors : List Err
  pub read : List Consumed
  pub is : q ≡ gives (ok (record { item = item; errors = errors })) (st_of w x n f read a.state)
  pub tree : take a.state.pos o ≡ T ++ recs_bytes (rs ++ K.recs item)
  pub reported : errs r a.state.reported ≡ E ++ (es ++ errors)
  pub holds : K.fine a.place a.count item

-- a fatal answer: the file is T, and after E come only its errors
pub record Bad {A : Type 0} (T : List ℕ) (E : List Err) (w x : List ℕ) (n : ℕ) (o : List ℕ) (r f : List Error) (a : Answer) (q : Res (Ans A)) : Type 0 where
  pub errors : List Err
  pub read : List Consumed
  pub is : q ≡ gives (fatal errors) (st_of w x n f read a.state)
  pub tree : take a.state.pos o ≡ T
  pub reported : errs r a.state.reported ≡ E ++ errors

abbrev pub ShowsOf : Status → {A : Type 0} → View A → List ℕ → List Err → List Rec → List Err → List ℕ → List ℕ → ℕ → List ℕ → List Error → List Error → Answer → Res (Ans A) → Type 0
ShowsOf Done K T E rs es w x n o r f a q = Good K T E rs es w x n o r f a q
ShowsOf Fatal K T E rs es w x n o r f a q = Bad T E w x n o r f a q
ShowsOf (Refused m) K T E rs es w x n o r f a q = q ≡ refused m

-- the answer a of the code represents the answer q of the definition
pub record Shows {A : Type 0} (K : View A) (T : List ℕ) (E : List Err) (rs : List Rec) (es : List Err) (w x : List ℕ) (n : ℕ) (o : List ℕ) (r f : List Error) (a : Answer) (q : Res (Ans A)) : Type 0 where
  pub told : ShowsOf a.status K T E rs es w x n o r f a q

-- ---- items

-- a node, with its place
abbrev pub node : View Node
node = record { recs = λ y. y.recs; fine = λ p k y. y.place ≡ place_of p }

-- a token, with its place
abbrev pub token : Tok → View Tok
token t = record { recs = λ y. []; fine = λ p k y. (y ≡ t) × (t.place ≡ place_of p) }

-- a typed identifier with the given name
abbrev pub typed : List ℕ → View P.Typed
typed name = record { recs = λ y. y.type; fine = λ p k y. y.name ≡ name }

-- the items of a list, and how many
abbrev pub items : View Items
items = record { recs = λ y. y.recs; fine = λ p k y. y.count ≡ k }

-- ---- functions

-- a function that parses by the act m, where d more counted calls may be opened
pub record Reads {A : Type 0} (K : View A) (w x : List ℕ) (n d : ℕ) (m : Act (Ans A)) (o : List ℕ) (r f : List Error) (s : State) (o' : List ℕ) (r' f' : List Error) (a : Answer) : Type 0 where
  pub moved : Moved w n s.pos s.reported s a.state
  pub on : s.at + present n s.at ≤ a.state.at
  pub is : (rd : List Consumed) → Shows K (take s.pos o) (errs r s.reported) [] [] w x n o' r' f' a (go d m (st_of w x n f rd s))

-- a function that continues the answer a by k, with the answer y, in a construct that began at i and j
pub record Goes {A B : Type 0} (K : View A) (L : View B) (w x : List ℕ) (n d : ℕ) (k : Fallible A → Act (Ans B)) (i j : ℕ) (o : List ℕ) (r f : List Error) (a : Answer) (o' : List ℕ) (r' f' : List Error) (y : Answer) : Type 0 where
  pub moved : Moved w n i j a.state y.state
  pub is : (T : List ℕ) (E : List Err) (q : Res (Ans A)) → length T ≡ i → length E ≡ j → Shows K T E [] [] w x n o r f a q → Shows L T E [] [] w x n o' r' f' y (after q (λ z S. go d (or_return k z) S))

pub record GoesOn (w : List ℕ) (n : ℕ) (o : List ℕ) (r f : List Error) (a : Answer) (i j : ℕ) : Type 0 where
  pub asked : Asked w n o r f a.state
  pub pos : i ≤ a.state.pos
  pub reported : j ≤ a.state.reported

-- ---- `expect`

-- `m` consumes one token, whatever the text and the file hold, in any role and at any nesting
pub record Expects (w : List ℕ) (n : ℕ) (m : Role → Act (Ans Tok)) (r f : List Error) (s : State) (r' f' : List Error) (a : Answer) : Type 0 where
  pub moved : Moved w n s.pos s.reported s a.state
  pub pos : a.state.pos ≡ s.pos
  pub on : s.at + present n s.at ≤ a.state.at
  pub pays : budget w n a.state.at + 16 * done_of a.status ≤ budget w n s.at
  pub kept : a.status ≡ Done → (a.state.reported ≡ s.reported) × (errs r' a.state.reported ≡ errs r s.reported)
  pub is : (x : List ℕ) (role : Role) (d : ℕ) (rd : List Consumed) (o : List ℕ) → Shows (token (next_token (rest w x n s.at))) (take s.pos o) (errs r s.reported) [] [] w x n o r' f' a (go d (m role) (st_of w x n f rd s))

-- what a function requires of an answer, in a construct that began at i and j
pub record Follows (n : ℕ) (r f : List Error) (a : Answer) (i j : ℕ) : Type 0 where
  pub asks : Asks n r f a.state
  pub pos : i ≤ a.state.pos
  pub reported : j ≤ a.state.reported

-- `expect(..)?` after an answer, in a construct that began at i and j: b is the answer of `expect`, c that of `?`
pub record Followed (w : List ℕ) (n k i j : ℕ) (r f : List Error) (a : Answer) (r' f' : List Error) (y : Answer) : Type 0 where
  pub b : Answer
  pub c : Answer
  pub between : List Error
  pub expects : Expects w n (λ role. P.expect_as role k) r f a.state between f' b
  pub abandoned : Abandoned between b i j a.state.reported r' c
  pub status : y.status ≡ c.status
  pub state : y.state ≡ c.state
  pub numbers : y.status ≡ Done → (y.place ≡ a.place) × (y.count ≡ a.count)

abbrev pub ExpectedOf : Status → List ℕ → ℕ → ℕ → ℕ → ℕ → List Error → List Error → Answer → List Error → List Error → Answer → Type 0
ExpectedOf Done w n k i j r f a r' f' y = Followed w n k i j r f a r' f' y
ExpectedOf Fatal w n k i j r f a r' f' y = (y ≡ a) × ((r' ≡ r) × (f' ≡ f))
ExpectedOf (Refused m) w n k i j r f a r' f' y = (y ≡ a) × ((r' ≡ r) × (f' ≡ f))

pub record Expected (w : List ℕ) (n k i j : ℕ) (r f : List Error) (a : Answer) (r' f' : List Error) (y : Answer) : Type 0 where
  pub moved : Moved w n i j a.state y.state
  pub high : y.state.pos ≤ a.state.pos
  pub pays : budget w n y.state.at + 16 * done_of y.status ≤ budget w n a.state.at
  pub is : ExpectedOf a.status w n k i j r f a r' f' y

-- ---- a record after an answer

abbrev pub NodeWrittenOf : Status → List ℕ → Answer → Rec → List ℕ → Answer → Type 0
NodeWrittenOf Done o a v o' y = (y.status ≡ Done) × (Wrote o a.state.pos v o' y.state.pos × (some (place_of y.place) ≡ v.place))
NodeWrittenOf Fatal o a v o' y = (y ≡ a) × (o' ≡ o)
NodeWrittenOf (Refused m) o a v o' y = (y ≡ a) × (o' ≡ o)

pub record NodeWritten (o : List ℕ) (a : Answer) (v : Rec) (o' : List ℕ) (y : Answer) : Type 0 where
  pub at : y.state.at ≡ a.state.at
  pub reported : y.state.reported ≡ a.state.reported
  pub full : y.state.full ≡ a.state.full
  pub low : a.state.pos ≤ y.state.pos
  pub high : y.state.pos ≤ a.state.pos + size_of v
  pub is : NodeWrittenOf a.status o a v o' y
