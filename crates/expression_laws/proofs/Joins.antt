-- What follows an operand: nothing; another operand and the record of both; or these and the next turn of a loop.
-- Assumes nothing.
use mathlib.Core.Path.{◌≡◌, refl, sym, ap, ◌∙◌}
use mathlib.Core.Option.{some}
use mathlib.Core.List.{List, []}
use Prim.Native.Nat.{ℕ, min, ◌*◌, ◌≤◌}
use native.Mathlib.Omega.{arith}
use lib.ListN.{length}
use Rattle.definition.specs.Numbers.{kind_number}
use Rattle.definition.specs.Source.{Place}
use Rattle.definition.specs.Node.{Rec, Num}
use Rattle.definition.specs.Fallible.{Err, Fallible, Ans, ok}
use Rattle.definition.specs.Act.{Act, done, Node, Consumed, Res, gives, after, or_return, ◌>>?◌}
use Rattle.definition.specs.Go.{go}
use Rattle.definition.proofs.Flat.{go_bind}
use Rattle.fallible.proofs.Grown.{errs_length}
use Rattle.fallible.specs.declared.parser.State.{State}
use Rattle.fallible.specs.Answer.{Done, Answer}
use Rattle.fallible.specs.Answers.{Abandoned}
use Rattle.node.specs.Put.{size_of}
use Rattle.steps.specs.declared.tokens.Token.{Token}
use Rattle.steps.specs.Tokens.{budget, Seen}
use Rattle.steps.specs.Shows.{st_of, Asked, Moved, View, Good, Shows, Reads, Goes, GoesOn, node, NodeWritten}
use Rattle.steps.proofs.Records.{fore}
use Rattle.steps.proofs.Moves.{asked_moved, moved_trans}
use Rattle.steps.proofs.Answers.{Stopped, say, good_of, is_good, stops, follows, abandons, wrapped, writes_node}
use Rattle.steps.proofs.Constructs.{seam, then_goes}
use Rattle.fallible.specs.declared.error.Error.{Error}

-- a function, and the one that continues its answer
pub then_asked : {A B : Type 0} {K : View A} {L : View B} {w x : List ℕ} {n d : ℕ} {m : Act (Ans A)}
    (k : Fallible A → Act (Ans B)) {o : List ℕ} {r f : List Error} {o1 : List ℕ} {r1 f1 : List Error} {o2 : List ℕ} {r2 f2 : List Error} {s : State} {a y : Answer}
    → Asked w n o r f s → Reads K w x n d m o r f s o1 r1 f1 a
    → Goes K L w x n d k s.pos s.reported o1 r1 f1 a o2 r2 f2 y
    → Reads L w x n d (m >>? k) o r f s o2 r2 f2 y
then_asked k q u v = then_goes k u (omega arith) (omega arith) v

-- what the continuation requires of the answer
pub goes_on : {A : Type 0} {K : View A} {w x : List ℕ} {n d : ℕ} {m : Act (Ans A)} {o : List ℕ} {r f : List Error} {o1 : List ℕ} {r1 f1 : List Error} {s : State}
    {a : Answer}
    → Asked w n o r f s → Reads K w x n d m o r f s o1 r1 f1 a → length o1 ≡ length o → length r1 ≡ length r
    → length f1 ≡ length f → GoesOn w n o1 r1 f1 a s.pos s.reported
goes_on q u a b c = record { asked = asked_moved q u.moved a b c; pos = u.moved.pos; reported = u.moved.reported }

-- ---- nothing follows

module _ {w : List ℕ} {n i j : ℕ} {o : List ℕ} {r f : List Error} {a : Answer} (q : GoesOn w n o r f a i j) where
  stays_on : Moved w n i j a.state a.state
  stays_on =
      record {
        at = omega arith;
        end = q.asked.asks.at;
        pos = q.pos;
        room = omega arith;
        reported = q.reported;
        less = omega arith;
        full = omega arith;
        few = q.asked.asks.few;
      }

  -- a fatal or refused answer is returned
  pub goes_stops : {A B : Type 0} {K : View A} {L : View B} {x : List ℕ} {d : ℕ} {k : Fallible A → Act (Ans B)} → Stopped a
      → Goes K L w x n d k i j o r f a o r f a
  goes_stops {d = d} {k = k} nd = record { moved = stays_on; is = λ T E p li lj h. stops d k p nd h }

  -- a good answer is returned, where the continuation gives it unchanged
  pub goes_none : {A : Type 0} {K : View A} {x : List ℕ} {d : ℕ} {k : Fallible A → Act (Ans A)} → a.status ≡ Done
      → ((e : Fallible A) (rd : List Consumed)
      → go d (k e) (st_of w x n f rd a.state) ≡ gives (ok e) (st_of w x n f rd a.state))
      → Goes K K w x n d k i j o r f a o r f a
  goes_none {d = d} {k = k} z step = record {
    moved = stays_on;
    is =
        λ T E p li lj h. let g = good_of z h in
        say (follows d k g.is ∙ step _ _) (is_good z (record {
          item = g.item;
          errors = g.errors;
          read = g.read;
          is = refl;
          tree = g.tree;
          reported = g.reported;
          holds = g.holds;
        }));
  }

-- ---- another operand, and the record of both

module _ {A : Type 0} {K : View A} {w x : List ℕ} {n d i j : ℕ} {o : List ℕ} {r f : List Error} {o1 : List ℕ} {r1 f1 r2 : List Error} {o2 : List ℕ} {a b c y : Answer} {t : Token} {v : Rec} {m : Act (Ans A)}
    (q : GoesOn w n o r f a i j) (u : Seen w x n a.state.at t) (B : Reads K w x n d m o r f (fore a.state t) o1 r1 f1 b) (C : Abandoned r1 b i j a.state.reported r2 c) (F : NodeWritten o1 c v o2 y) (paid : size_of v ≤ 16 * min (kind_number t.kind) 1) where
  pub joined_moved : Moved w n i j a.state y.state
  joined_moved =
      let e : budget w n y.state.at ≡ budget w n b.state.at = ap (λ (k : ℕ). budget w n k) (F.at ∙ C.at) in
      record {
        at = omega (arith, F.at, C.at, u.up, B.moved);
        end = omega (arith, F.at, C.at, B.moved);
        pos = omega (arith, F.low, C.low);
        room = omega (arith, F.high, C.high, B.moved, u.pays);
        reported = omega (arith, F.reported, C.first);
        less = omega (arith, F.reported, F.full, C.last, C.full, B.moved);
        full = omega (arith, F.full, C.full, B.moved);
        few = omega (arith, F.full, C.full, B.moved);
      }

  -- the next turn may continue it
  pub joined_on : length o2 ≡ length o → length r2 ≡ length r → length f1 ≡ length f → GoesOn w n o2 r2 f1 y i j
  joined_on e g h = record { asked = asked_moved q.asked joined_moved e g h; pos = joined_moved.pos; reported = joined_moved.reported }

-- After the answer a, the token t is read and the act m gives b; c is what `?` makes of b; y has the record v.
module _ {A : Type 0} {K : View A} {w x : List ℕ} {n d i j : ℕ} {o : List ℕ} {r f : List Error} {o1 : List ℕ} {r1 f1 r2 : List Error} {o2 : List ℕ} {a b c y : Answer} {t : Token} {v : Rec} {m : Act (Ans A)} (p : Place) (ns : List Num)
    (q : GoesOn w n o r f a i j) (z : a.status ≡ Done) (u : Seen w x n a.state.at t)
    (B : Reads K w x n d m o r f (fore a.state t) o1 r1 f1 b)
    (C : Abandoned r1 b i j a.state.reported r2 c) (F : NodeWritten o1 c v o2 y)
    (paid : size_of v ≤ 16 * min (kind_number t.kind) 1) (made : v ≡ record { tag = v.tag; place = some p; numbers = ns; text = [] }) where
  -- the node of the operand e and the other
  abbrev pub both : Fallible Node → Fallible A → Act (Ans Node)
  both e = wrapped K e.item.recs e.errors (v.tag) (λ _. p) (λ _. ns) []

  -- the joined answer represents the second operand and the record of both
  pub joined : {T : List ℕ} {E : List Err} {h : Res (Ans Node)} → length T ≡ i → length E ≡ j
      → (g : Good node T E [] [] w x n o r f a h) (rd : List Consumed)
      → Shows node T E [] [] w x n o2 r2 f1 y
      (go d (m >>? both (record { item = g.item; errors = g.errors })) (st_of w x n f rd (fore a.state t)))
  joined {T} {E} li lj g rd =
      say (go_bind d m (or_return (both (record { item = g.item; errors = g.errors }))) _)
      (writes_node d (λ _. p) (λ _. ns) [] F (λ _ _. made)
      (abandons {T = T} {E = E} g.tree g.reported li lj (errs_length r a.state.reported (omega arith)) C
      (omega (arith, q.pos, B.moved.pos)) (omega (arith, q.reported, B.moved.reported)) (B.is rd)))

  module _ {k : Fallible Node → Act (Ans Node)} (past : List Consumed → List Consumed) where
    -- the continuation ends there
    pub goes_joined : ((e : Fallible Node) (rd : List Consumed)
        → go d (k e) (st_of w x n f rd a.state)
        ≡ go d (m >>? both e) (st_of w x n f (past rd) (fore a.state t)))
        → Goes node node w x n d k i j o r f a o2 r2 f1 y
    goes_joined step =
        record {
          moved = joined_moved q u B C F paid;
          is = λ T E h li lj u. let g = good_of z u in
              say (follows d k g.is ∙ step _ _) (joined li lj g (past g.read));
        }

    -- the continuation goes on with the next turn
    pub goes_turn : {o3 : List ℕ} {r3 f3 : List Error} {y' : Answer} (bin : Fallible Node → Fallible A → Fallible Node)
        → ((e : Fallible Node) (b : Fallible A) → both e b ≡ done (ok (bin e b)))
        → ((e : Fallible Node) (rd : List Consumed)
        → go d (k e) (st_of w x n f rd a.state)
        ≡ go d (m >>? λ b. k (bin e b)) (st_of w x n f (past rd) (fore a.state t)))
        → Goes node node w x n d k i j o2 r2 f1 y o3 r3 f3 y' → Goes node node w x n d k i j o r f a o3 r3 f3 y'
    goes_turn bin is-bin step G = record {
      moved = moved_trans (joined_moved q u B C F paid) G.moved;
      is = λ T E h li lj u.
          let g = good_of z u in
          let e : Fallible Node = record { item = g.item; errors = g.errors } in
          say (follows d k g.is ∙ step e g.read ∙ go_bind d m (or_return (λ b. k (bin e b))) _
          ∙ seam d (both e) k (bin e) (is-bin e) (go d m (st_of w x n f (past g.read) (fore a.state t)))
          ∙ ap (λ (p : Res (Ans Node)). after p (λ z S. go d (or_return k z) S))
          (sym (go_bind d m (or_return (both e)) _)))
          (G.is T E _ li lj (joined li lj g (past g.read)));
    }

-- ---- what the steps require

-- what the next turn requires, after a turn that moved on, and after one that continued the answer by k
pub turn_on : {w : List ℕ} {n i j : ℕ} {o : List ℕ} {r f : List Error} {o2 : List ℕ} {r2 f2 : List Error} {a y : Answer} → GoesOn w n o r f a i j
    → Moved w n i j a.state y.state → length o2 ≡ length o → length r2 ≡ length r → length f2 ≡ length f
    → GoesOn w n o2 r2 f2 y i j
turn_on q m a b c = record { asked = asked_moved q.asked m a b c; pos = m.pos; reported = m.reported }

pub goes_further : {A B : Type 0} {K : View A} {L : View B} {w x : List ℕ} {n d i j : ℕ} {k : Fallible A → Act (Ans B)}
    {o : List ℕ} {r f : List Error} {o2 : List ℕ} {r2 f2 : List Error} {a y : Answer}
    → GoesOn w n o r f a i j → Goes K L w x n d k i j o r f a o2 r2 f2 y → length o2 ≡ length o
    → length r2 ≡ length r → length f2 ≡ length f → GoesOn w n o2 r2 f2 y i j
goes_further q g a b c = turn_on q g.moved a b c
