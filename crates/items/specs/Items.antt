-- What the functions of `items` ensure beyond `Reads`. Assumes nothing.
use Rattle.std.specs.Prelude.{◌≡◌, Bool, true, false, List, [], ℕ, ◌+◌, ◌*◌, ◌≤◌, length, take}
use Rattle.definition.specs.Numbers.{kind_number}
use Rattle.definition.specs.Source.{Place}
use Rattle.definition.specs.Fallible.{Err, Ans}
use Rattle.definition.specs.Act as A
use Rattle.definition.specs.Act.{Items, done, loop, Consumed, begin, Res, gives, after, or_return, ◌>>=◌}
use Rattle.definition.specs.Parser as P
use Rattle.definition.specs.Go.{go}
use Rattle.fallible.specs.declared.error.Error.{Error}
use Rattle.fallible.specs.declared.parser.State.{State}
use Rattle.fallible.specs.Answer.{Fatal, Answer}
use Rattle.fallible.specs.Lists.{errs}
use Rattle.steps.specs.declared.tokens.Token.{Token}
use Rattle.steps.specs.Tokens.{rest, budget, Seen}
use Rattle.steps.specs.Shows.{st_of, Asked, Moved, Shows, node, items}
use Rattle.expression_laws.specs.Post.{as_answer}
use Rattle.statement.specs.Post.{up}
use Rattle.items.specs.declared.others.Modifiers.{Modifiers}
use Rattle.items.specs.Rules.{return_rule, signature_rule, function_on, items_on}

-- ---- functions

abbrev pub flag : Bool → ℕ
flag false = 0
flag true = 1

-- 7 bytes more: no token accounts for the record of a void type
pub record ReadsType (w x : List ℕ) (n d : ℕ) (p : Place) (o : List ℕ) (r f : List Error) (s : State) (o' : List ℕ) (r' f' : List Error) (a : Answer) : Type 0 where
  pub moved : Moved w n s.pos s.reported (up 7 s) a.state
  pub is : (rd : List Consumed) → Shows node (take s.pos o) (errs r s.reported) [] [] w x n o' r' f' a (go d (return_rule p) (st_of w x n f rd s))

pub record ReadsSignature (w x : List ℕ) (n d : ℕ) (p : Place) (o : List ℕ) (r f : List Error) (s : State) (o' : List ℕ) (r' f' : List Error) (a : Answer) : Type 0 where
  pub moved : Moved w n s.pos s.reported (up 7 s) a.state
  pub is : (rd : List Consumed) → Shows items (take s.pos o) (errs r s.reported) [] [] w x n o' r' f' a (go d (signature_rule p) (st_of w x n f rd s))

-- what the rest of a function requires: room for its own records, for which `fn` and the name account
pub record FunctionAsked (w : List ℕ) (n : ℕ) (o : List ℕ) (r f : List Error) (name : List ℕ) (a : Answer) (i j : ℕ) : Type 0 where
  pub asked : Asked w n o r f a.state
  pub room : a.state.pos + budget w n a.state.at + 41 + length name ≤ length o
  pub pos : i ≤ a.state.pos
  pub reported : j ≤ a.state.reported

pub record FunctionOn (w x : List ℕ) (n d external : ℕ) (p : Place) (name : List ℕ) (i j : ℕ) (o : List ℕ) (r f : List Error) (a : Answer) (o' : List ℕ) (r' f' : List Error) (y : Answer) : Type 0 where
  pub moved : Moved w n i j (up (19 + length name) a.state) y.state
  pub is : (T : List ℕ) (E : List Err) (q : Res (Ans Items)) → length T ≡ i → length E ≡ j → Shows items T E [] [] w x n o r f a q
      → Shows node T E [] [] w x n o' r' f' y (after q (λ z S. go d (or_return (function_on p external name) z) S))

-- ---- aliases and paths

-- the token that names an item, in the state s of the parser, and the state s' after it
pub record NamedBy (w x : List ℕ) (n k : ℕ) (r f : List Error) (s : State) (r' f' : List Error) (s' : State) (t : Token) : Type 0 where
  pub seen : Seen w x n s.at t
  pub kind : kind_number t.kind ≡ k
  pub state : s' ≡ record { at = t.next; pos = s.pos; reported = s.reported; full = s.full }
  pub reported : r' ≡ r
  pub full : f' ≡ f

-- the modifiers of an alias, as the definition counts them
abbrev pub words_of : Bool → Bool → A.Words
words_of distinct internal = record { distinct = flag distinct; internal = 2 * flag internal }

-- the number of its record
abbrev pub sum : Modifiers → ℕ
sum m = flag m.distinct + 2 * flag m.internal

-- the loop over the modifiers, whatever the text holds and at any nesting: from v on it gives v', and the index of the
-- token after them
pub record Modifies (w : List ℕ) (n : ℕ) (v : A.Words) (at : ℕ) (v' : A.Words) (next : ℕ) : Type 0 where
  pub up : at ≤ next
  pub end : next ≤ n
  pub room : budget w n next ≤ budget w n at
  pub read : List ℕ → List Consumed → List Consumed
  pub is : (x : List ℕ) (d : ℕ) (rd : List Consumed) (es : List Err)
      → go d (loop (A.Modifiers v) done) (record { tokens = rest w x n at; read = rd; full = es })
      ≡ gives v' (record { tokens = rest w x n next; read = read x rd; full = es })

-- the same of those that the code has
abbrev pub Modified : List ℕ → ℕ → Bool → Bool → ℕ → Modifiers → Type 0
Modified w n distinct internal at m = Modifies w n (words_of distinct internal) at (words_of m.distinct m.internal) m.next

-- ---- the module

-- after all n tokens, from a full list on: the records from the file's first byte on, both lists, and the count of items
pub record ReadsModule (w x : List ℕ) (n d : ℕ) (full : List Err) (o : List ℕ) (r f : List Error) (a : Answer) : Type 0 where
  pub room : a.state.pos ≤ budget w n 0
  pub reported : a.state.reported ≤ a.state.full
  pub few : a.state.full ≤ 255
  pub never : a.status ≡ Fatal → ⊥
  pub is : Shows items [] [] [] [] w x n o r f a (go d (items_on (P.no_items []) >>= as_answer) (begin full (rest w x n 0)))
