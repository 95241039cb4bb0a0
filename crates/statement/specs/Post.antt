-- What the functions of `statement` ensure beyond `Reads`. Assumes nothing.
use Rattle.std.specs.Prelude.{◌≡◌, List, [], ℕ, ◌+◌, ◌*◌, ◌≤◌, length, take}
use Rattle.definition.specs.Kind as K
use Rattle.definition.specs.Numbers.{kind_number}
use Rattle.definition.specs.declared.tag.Tag.{Tag}
use Rattle.definition.specs.Fallible.{Ans}
use Rattle.definition.specs.Token.{next_token}
use Rattle.definition.specs.Act.{Items, Node, Act, done, loop, Body, Consumed, ◌>>=◌}
use Rattle.definition.specs.Parser as P
use Rattle.definition.specs.Go.{go}
use Rattle.fallible.specs.declared.error.Error.{Error}
use Rattle.fallible.specs.declared.parser.State.{State}
use Rattle.fallible.specs.Answer.{nowhere, Done, Fatal, done_of, Answer}
use Rattle.fallible.specs.Lists.{errs}
use Rattle.steps.specs.declared.tokens.Token.{Token}
use Rattle.steps.specs.Tokens.{rest, budget, present, Seen}
use Rattle.steps.specs.Shows.{st_of, Moved, Shows, Reads, node, typed, items}
use Rattle.statement.specs.declared.declarations.Tags.{Tags}
use Rattle.expression_laws.specs.Post.{name_of, as_answer}

-- the state with k more file bytes: the cost of records that no token accounts for
abbrev pub up : ℕ → State → State
up k s = record { at = s.at; pos = s.pos + k; reported = s.reported; full = s.full }

-- ---- statements

-- a function that parses by the act m, after a token whose share pays for the record
pub record ReadsPaid (w x : List ℕ) (n d : ℕ) (m : Act (Ans Node)) (o : List ℕ) (r f : List Error) (s : State) (o' : List ℕ) (r' f' : List Error) (a : Answer) : Type 0 where
  pub moved : Moved w n s.pos s.reported (up 16 s) a.state
  pub is : (rd : List Consumed) → Shows node (take s.pos o) (errs r s.reported) [] [] w x n o' r' f' a (go d m (st_of w x n f rd s))

-- ---- an optional value

-- an expression after `=`, a compound after `<-`, or nothing
pub data Given : Type 0 where
  Expression Compound Nothing : Given

abbrev pub given_tag : Given → Tags → Tag
given_tag Expression g = g.expression
given_tag Compound g = g.compound
given_tag Nothing g = g.nothing

-- the token t, and after it the value with the answer a
abbrev pub ValueOf : Given → List ℕ → List ℕ → ℕ → ℕ → Token → List ℕ → List Error → List Error → State → List ℕ → List Error → List Error → Answer → Type 0
ValueOf Expression w x n d t o r f s o' r' f' a =
    (kind_number t.kind ≡ K.Equals) × Reads node w x n d P.parse_expression o r f (record { at = t.next; pos = s.pos; reported = s.reported; full = s.full }) o' r' f' a
ValueOf Compound w x n d t o r f s o' r' f' a =
    (kind_number t.kind ≡ K.LArrow) × Reads node w x n d P.parse_compound o r f (record { at = t.next; pos = s.pos; reported = s.reported; full = s.full }) o' r' f' a
ValueOf Nothing w x n d t o r f s o' r' f' a =
    ((kind_number t.kind ≡ K.Equals → ⊥) × (kind_number t.kind ≡ K.LArrow → ⊥)) × ((a ≡ record { status = Done; state = s; place = nowhere; count = 0 })
    × ((o' ≡ o) × ((r' ≡ r) × (f' ≡ f))))

-- a function that parses one of them, with its tag
pub record Valued (w x : List ℕ) (n d : ℕ) (tags : Tags) (o : List ℕ) (r f : List Error) (s : State) (o' : List ℕ) (r' f' : List Error) (a : Answer) (tag : Tag) : Type 0 where
  pub moved : Moved w n s.pos s.reported s a.state
  pub given : Given
  pub t : Token
  pub seen : Seen w x n s.at t
  pub tagged : tag ≡ given_tag given tags
  pub is : ValueOf given w x n d t o r f s o' r' f' a

-- ---- declarations

pub record ReadsDeclared (w x : List ℕ) (n d : ℕ) (o : List ℕ) (r f : List Error) (s : State) (o' : List ℕ) (r' f' : List Error) (a : Answer) : Type 0 where
  pub moved : Moved w n s.pos s.reported s a.state
  pub on : s.at + present n s.at ≤ a.state.at
  pub spare : a.state.pos + budget w n a.state.at + 16 * done_of a.status + length (next_token (rest w x n s.at)).text ≤ s.pos + budget w n s.at
  pub is : (rd : List Consumed) → Shows (typed (name_of (next_token (rest w x n s.at)))) (take s.pos o) (errs r s.reported) [] [] w x n o' r' f' a (go d P.parse_var_like_declaration (st_of w x n f rd s))

-- ---- bodies

pub record ReadsBody (w x : List ℕ) (n d : ℕ) (o : List ℕ) (r f : List Error) (s : State) (o' : List ℕ) (r' f' : List Error) (a : Answer) : Type 0 where
  pub moved : Moved w n s.pos s.reported s a.state
  pub on : s.at + present n s.at ≤ a.state.at
  pub spare : a.state.pos + budget w n a.state.at + 16 * present n s.at ≤ s.pos + budget w n s.at
  pub never : a.status ≡ Fatal → ⊥
  pub is : (rd : List Consumed) → Shows items (take s.pos o) (errs r s.reported) [] [] w x n o' r' f' a (go d (P.parse_body >>= as_answer) (st_of w x n f rd s))

-- the loop of a body
abbrev pub statements_on : Items → Act Items
statements_on i = loop (Body i) done
