-- What the functions of `expression` ensure beyond `Reads` and `Goes`. Assumes nothing.
use Rattle.std.specs.Prelude.{◌≡◌, List, [], ◌++◌, ℕ, zero, suc, ◌+◌, ◌*◌, ◌≤◌, eqb, length, take}
use Rattle.definition.specs.Ascii.{ascii}
use Rattle.definition.specs.Choice.{pick}
use Rattle.definition.specs.Node.{recs_bytes}
use Rattle.definition.specs.Fallible.{Err, Fallible, Ans, ok}
use Rattle.definition.specs.Kind as K
use Rattle.definition.specs.Token.{Tok, next_token}
use Rattle.definition.specs.Act as A
use Rattle.definition.specs.Act.{Items, Node, Act, done, loop, ListOf, Casts, Suffixes, Operators, Consumed, ◌>>=◌, ◌>>?◌}
use Rattle.definition.specs.Parser as P
use Rattle.definition.specs.Go.{go}
use Rattle.node.specs.Put.{Wrote, bare_of}
use Rattle.node.specs.declared.Numbers.TheVariants.{None}
use Rattle.fallible.specs.declared.error.Error.{Error}
use Rattle.fallible.specs.declared.parser.State.{State}
use Rattle.fallible.specs.Answer.{nowhere, Status, Done, Fatal, Refused, done_of, Answer}
use Rattle.fallible.specs.Lists.{errs}
use Rattle.steps.specs.Tokens.{rest, budget, present}
use Rattle.leaves.specs.Leaves.{level_at}
use Rattle.steps.specs.Shows.{st_of, Moved, Shows, typed, items}

-- ---- loops after an operand

abbrev pub operators_on : A.Level → Fallible Node → Act (Ans Node)
operators_on l e = loop (Operators l e) done

-- an operand after the loops of the k tightest levels
unfoldable pub levels_at : ℕ → Act (Ans Node)
levels_at zero = P.parse_cast
levels_at (suc k) = levels_at k >>? operators_on (level_at k)

abbrev pub casts_on : Fallible Node → Act (Ans Node)
casts_on e = loop (Casts e) done

abbrev pub suffixes_on : Fallible Node → Act (Ans Node)
suffixes_on e = loop (Suffixes e) done

-- ---- names

-- the name in a token's place: its text, or `<?>` if it is no identifier
abbrev pub name_of : Tok → List ℕ
name_of t = pick (eqb t.kind K.Identifier) t.text (ascii "<?>")

pub record NameRoom (w x : List ℕ) (n : ℕ) (o : List ℕ) (a : Answer) (at : ℕ) : Type 0 where
  pub within : at ≤ n
  pub room : a.state.pos + 19 * done_of a.status + length (next_token (rest w x n at)).text ≤ length o

abbrev pub BareNamedOf : Status → List ℕ → List ℕ → ℕ → List ℕ → Answer → ℕ → ℕ → List ℕ → Answer → Type 0
BareNamedOf Done w x n o a tag at o' y = (y.status ≡ Done) × (Wrote o a.state.pos (bare_of tag None (name_of (next_token (rest w x n at)))) o' y.state.pos × (y.place ≡ nowhere))
BareNamedOf Fatal w x n o a tag at o' y = (y ≡ a) × (o' ≡ o)
BareNamedOf (Refused m) w x n o a tag at o' y = (y ≡ a) × (o' ≡ o)

pub record BareNamed (w x : List ℕ) (n : ℕ) (o : List ℕ) (a : Answer) (tag p : ℕ) (o' : List ℕ) (y : Answer) : Type 0 where
  pub at : y.state.at ≡ a.state.at
  pub reported : y.state.reported ≡ a.state.reported
  pub full : y.state.full ≡ a.state.full
  pub low : a.state.pos ≤ y.state.pos
  pub high : y.state.pos ≤ a.state.pos + 6 * done_of a.status + length (next_token (rest w x n p)).text
  pub is : BareNamedOf a.status w x n o a tag p o' y

-- ---- typed identifiers

pub record ReadsTyped (w x : List ℕ) (n d : ℕ) (o : List ℕ) (r f : List Error) (s : State) (o' : List ℕ) (r' f' : List Error) (a : Answer) : Type 0 where
  pub moved : Moved w n s.pos s.reported s a.state
  pub on : s.at + present n s.at ≤ a.state.at
  pub spare : a.state.pos + budget w n a.state.at + 32 * done_of a.status + length (next_token (rest w x n s.at)).text ≤ s.pos + budget w n s.at
  pub is : (rd : List Consumed) → Shows (typed (name_of (next_token (rest w x n s.at)))) (take s.pos o) (errs r s.reported) [] [] w x n o' r' f' a (go d P.parse_typed_identifier (st_of w x n f rd s))

-- after the name, in a construct whose errors begin at j
pub record TypedOn (w x : List ℕ) (n d j : ℕ) (o : List ℕ) (r f : List Error) (s : State) (o' : List ℕ) (r' f' : List Error) (a : Answer) : Type 0 where
  pub moved : Moved w n s.pos j s a.state
  pub spare : a.state.pos + budget w n a.state.at + 16 * done_of a.status ≤ s.pos + budget w n s.at
  pub is : (rd : List Consumed) (name : List ℕ) (E es : List Err) → length E ≡ j → errs r s.reported ≡ E ++ es
      → Shows (typed name) (take s.pos o) E [] [] w x n o' r' f' a (go d (P.typed name es) (st_of w x n f rd s))

-- ---- lists

-- the items of a list as an answer
abbrev pub as_answer : Items → Act (Ans Items)
as_answer i = done (ok (record { item = i; errors = i.errors }))

pub record ReadsList (w x : List ℕ) (n d : ℕ) (k : A.Listed) (o : List ℕ) (r f : List Error) (s : State) (o' : List ℕ) (r' f' : List Error) (a : Answer) : Type 0 where
  pub moved : Moved w n s.pos s.reported s a.state
  pub on : s.at + present n s.at ≤ a.state.at
  pub spare : a.state.pos + budget w n a.state.at + 16 * present n s.at ≤ s.pos + budget w n s.at
  pub never : a.status ≡ Fatal → ⊥
  pub is : (rd : List Consumed) → Shows items (take s.pos o) (errs r s.reported) [] [] w x n o' r' f' a (go d (P.parse_list k >>= as_answer) (st_of w x n f rd s))

-- ---- loops that collect items

-- the loop `on`, after `count` items
pub record LoopOn (on : Items → Act Items) (w x : List ℕ) (n d : ℕ) (count : ℕ) (o : List ℕ) (r f : List Error) (s : State) (o' : List ℕ) (r' f' : List Error) (a : Answer) : Type 0 where
  pub moved : Moved w n s.pos s.reported s a.state
  pub never : a.status ≡ Fatal → ⊥
  pub is : (rd : List Consumed) (T : List ℕ) (E : List Err) (i : Items) → take s.pos o ≡ T ++ recs_bytes i.recs → errs r s.reported ≡ E ++ i.errors → i.count ≡ count
      → Shows items T E [] [] w x n o' r' f' a (go d (on i >>= as_answer) (st_of w x n f rd s))

-- the loop of a list
abbrev pub listed_on : A.Listed → Items → Act Items
listed_on k i = loop (ListOf k i) done
