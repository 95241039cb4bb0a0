-- Steps that types, names and lists share; one law for each return of `ty` and `array`. Assumes nothing.
use mathlib.Core.Path.{◌≡◌, refl, sym, ap, ◌∙◌}
use mathlib.Core.Bool.{Bool, true, false}
use mathlib.Core.Option.{some}
use mathlib.Core.List.{List, [], ◌∷◌, ◌++◌, append-nil}
use Prim.Native.Nat.{ℕ, zero, suc, ◌+◌, ◌*◌, ◌-◌, ◌≤◌, ◌<◌}
use native.Mathlib.Omega.{arith}
use lib.Dec.{ltb}
use lib.ListN.{length, take, drop, get_or, length-take}
use lib.Seq.{take_at}
use borrow.Author.Tests.{ltb-true, ltb-false}
use Rattle.definition.specs.Numbers.{kind_number}
use Rattle.definition.specs.declared.place.Place.{Place}
use Rattle.definition.specs.Source as S
use Rattle.std.specs.Prelude as Std
use Rattle.leaves.proofs.Values.{size_fits, size_none}
use Rattle.definition.specs.Node.{Rec, Num, two, eight}
use Rattle.definition.specs.Fallible.{Err, Fallible, Ans}
use Rattle.definition.specs.Token.{Tok, next_token, number}
use Rattle.definition.specs.Act.{Node, Items, Type', StructFields, Act, Role, plain, size, Consumed, St, Res, gives, refused, after, or_return, now_read, run, ◌>>=◌, ◌>>?◌}
use Rattle.definition.specs.Parser as P
use Rattle.definition.specs.Go.{go}
use Rattle.definition.specs.Places.{place_of}
use Rattle.definition.proofs.Flat.{go_bind}
use Rattle.definition.specs.declared.tag.Tag.{Tag}
use Rattle.node.specs.Put.{placed, size_of}
use Rattle.node.specs.declared.Numbers.TheVariants.{None, Two, Eight}
use Rattle.fallible.specs.declared.parser.State.{State}
use Rattle.fallible.specs.Answer.{nowhere, Status, Done, Fatal, Refused, Answer}
use Rattle.fallible.specs.Lists.{err_of, error_at, errs}
use Rattle.fallible.specs.Answers.{refused_at, raised, Raised, silent}
use Rattle.fallible.proofs.Grown.{errs_length}
use Rattle.steps.specs.declared.tokens.Token.{Token}
use Rattle.steps.specs.Tokens.{rest, budget, present, Held, Seen}
use Rattle.steps.specs.Shows.{st_of, Asked, Moved, View, Good, ShowsOf, Shows, node, items, Reads, Expects, NodeWritten}
use Rattle.steps.proofs.Records.{rest_cons, rest_nil, budget_cons, budget_nil, yes, no, other, fore, adv}
use Rattle.steps.proofs.Moves.{fore_moved}
use Rattle.steps.proofs.Answers.{Stopped, say, good_of, stops, follows, errs_take, wrapped, writes_node, raise_same}
use Rattle.steps.proofs.Constructs.{deep, down, seam}
use Rattle.leaves.specs.Leaves.{there, size_in}
use Rattle.leaves.proofs.Errors.{raise_reads}
use Rattle.leaves.proofs.Atoms.{leaf_reads}
use Rattle.expression_laws.specs.Post.{as_answer, ReadsList}
use Rattle.fallible.specs.declared.error.Error.{Error}

-- ---- numbers

-- a part of a construct that began earlier
pub moved_onward : {w : List ℕ} {n i j : ℕ} {s t u : State} → Moved w n i j s t → Moved w n t.pos t.reported t u
    → Moved w n i j s u
moved_onward p q =
    record {
      at = omega arith;
      end = q.end;
      pos = omega arith;
      room = omega arith;
      reported = omega arith;
      less = omega arith;
      full = omega arith;
      few = q.few;
    }

-- the tokens read, with the token at `at`
abbrev pub past_as : Role → List ℕ → List ℕ → ℕ → ℕ → List Consumed → List Consumed
past_as role w x n at rd = rd ++ now_read (λ _. role) (rest w x n at)

abbrev pub past : List ℕ → List ℕ → ℕ → ℕ → List Consumed → List Consumed
past w x n at rd = past_as plain w x n at rd

-- no token is left, or one is
either : {C : Type 0} (n i : ℕ) → (n ≤ i → C) → (i < n → C) → C
either {C} n i p q = one (ltb i n) (λ e. ltb-true i n e) (λ e. ltb-false i n e)
  where
    one : (b : Bool) → (b ≡ true → i < n) → (b ≡ false → n ≤ i) → C
    one true g h = q (g refl)
    one false g h = p (h refl)

-- the budget does not grow as tokens are read
passed : (w : List ℕ) (n i k : ℕ) → budget w n (i + k) ≤ budget w n i
passed w n i zero = let e : i + 0 ≡ i = omega arith in rw e (omega arith)
passed w n i (suc k) =
    let e : i + suc k ≡ i + 1 + k = omega arith in
    either n i (λ h. rw (budget_nil w n (i + suc k) (omega arith)) (omega arith))
    (λ h. rw e (omega (arith, budget_cons w n i h, passed w n (i + 1) k)))

-- after the token at i its part of the budget is used up
pub paid : {w : List ℕ} {n : ℕ} (i j : ℕ) → Held w n → i + present n i ≤ j
    → (x : List ℕ) → budget w n j + 16 * present n i + length (next_token (rest w x n i)).text ≤ budget w n i
unfolding present
paid {w} {n} i j q h x = either n i end on
  where
    end : n ≤ i → budget w n j + 16 * present n i + length (next_token (rest w x n i)).text ≤ budget w n i
    end g = rw (rest_nil w x n i g) (omega (arith, budget_nil w n j (omega arith)))

    on : i < n → budget w n j + 16 * present n i + length (next_token (rest w x n i)).text ≤ budget w n i
    on g =
        let e : i + 1 + (j - (i + 1)) ≡ j = omega arith in
        let p : budget w n j ≤ budget w n (i + 1) = rw (← e) (passed w n (i + 1) (j - (i + 1))) in
        let l = length-take (get_or w (8 * i + 4) 0) (drop (get_or w (8 * i + 3) 0) x) in
        rw (rest_cons w x n i g) (omega (arith, budget_cons w n i g, (q.each i g).real, l))

-- the same, where nothing was written or reported in between
pub shown_from : {A : Type 0} {K : View A} {w x : List ℕ} {n d p : ℕ} {E : List Err} {m : Act (Ans A)}
    {o : List ℕ} {r f : List Error} {o' : List ℕ} {r' f' : List Error} {s : State} {a : Answer}
    → Reads K w x n d m o r f s o' r' f' a → s.pos ≡ p → errs r s.reported ≡ E
    → (rd : List Consumed) → Shows K (take p o) E [] [] w x n o' r' f' a (go d m (st_of w x n f rd s))
shown_from u e h rd = rw (← e, ← h) (u.is rd)

-- ---- a record after one answer

-- how the state moves, where the budget has room for the record
pub node_written_moved : {w : List ℕ} {n i j : ℕ} {o o' : List ℕ} {s : State} {a y : Answer} {v : Rec}
    → Moved w n i j s a.state
    → a.state.pos + budget w n a.state.at + size_of v ≤ s.pos + budget w n s.at
    → NodeWritten o a v o' y → Moved w n i j s y.state
node_written_moved {w} {n} m h u =
    let b = ap (λ (k : ℕ). budget w n k) u.at in
    record {
      at = omega arith;
      end = omega arith;
      pos = omega arith;
      room = omega arith;
      reported = omega arith;
      less = omega arith;
      full = omega arith;
      few = omega arith;
    }

-- For an act m that comes down to the answer b and the record v after it.
module _ {A : Type 0} {K : View A} {w x : List ℕ} {n d : ℕ} {m : Act (Ans Node)} {o : List ℕ} {r f : List Error} {o1 : List ℕ} {r1 f1 : List Error} {o2 : List ℕ}
    {s : State} {b y : Answer} {v : Rec} (p : S.Place) (ns : A → List Num) (text : List ℕ)
    (F : NodeWritten o1 b v o2 y) where
  -- the act reads a node
  pub record_reads : Moved w n s.pos s.reported s b.state
      → s.at + present n s.at ≤ b.state.at
      → b.state.pos + budget w n b.state.at + size_of v ≤ s.pos + budget w n s.at
      → ((i : A) → K.fine b.place b.count i → v ≡ record { tag = v.tag; place = some p; numbers = ns i; text = text })
      → (q : List Consumed → Res (Ans A))
      → ((rd : List Consumed)
      → go d m (st_of w x n f rd s)
      ≡ after (q rd) (λ z S. go d (or_return (wrapped K [] [] (v.tag) (λ _. p) ns text) z) S))
      → ((rd : List Consumed) → Shows K (take s.pos o) (errs r s.reported) [] [] w x n o1 r1 f1 b (q rd))
      → Reads node w x n d m o r f s o2 r1 f1 y
  record_reads mv on paid e q step h =
      record {
        moved = node_written_moved mv paid F;
        on = omega (arith, F.at);
        is = λ rd. say (step rd) (writes_node d (λ _. p) ns text F e (h rd));
      }

-- ---- the answer of a list

-- continuing the items of m with k is continuing the answer of `m >>= as_answer` with h
pub through : {B : Type 0} (d : ℕ) (m : Act Items) (k : Items → Act (Ans B)) (h : Fallible Items → Act (Ans B))
    → ((i : Items) → k i ≡ h (record { item = i; errors = i.errors })) → (S : St)
    → go d (m >>= k) S ≡ after (go d (m >>= as_answer) S) (λ z T. go d (or_return h z) T)
unfolding go run
through d m k h e S =
    go_bind d m k S ∙ one (go d m S)
    ∙ ap (λ (q : Res (Ans Items)). after q (λ z T. go d (or_return h z) T)) (sym (go_bind d m as_answer S))
  where
    one : (q : Res Items) → after q (λ i T. go d (k i) T) ≡ after (after q (λ i T. go d (as_answer i) T)) (λ z T. go d (or_return h z) T)
    one (gives i T) = ap (λ (a : Act (Ans _)). go d a T) (e i)
    one (refused n) = refl

-- the errors of the answer are dropped
pub drops : {A : Type 0} {K : View A} {T : List ℕ} {E : List Err} {w x : List ℕ} {n j : ℕ} {o : List ℕ} {r f : List Error} {a : Answer}
    {q : Res (Ans A)} (d : ℕ)
    → (a.status ≡ Fatal → ⊥) → length E ≡ j → j ≤ a.state.reported → Shows K T E [] [] w x n o r f a q
    → Shows K T E [] [] w x n o r f (silent a j) (after q (λ z S. go d (or_return (λ y. P.good y.item []) z) S))
unfolding go run
drops {A} {K} {T} {E} {w} {x} {n} {j} {o} {r} {f} {a} {q} d nf le hj v = record { told = one a.status nf v.told }
  where
    one : (h : Status) → (h ≡ Fatal → ⊥) → ShowsOf h K T E [] [] w x n o r f a q
        → ShowsOf h K T E [] [] w x n o r f (silent a j)
        (after q (λ z S. go d (or_return (λ y. P.good y.item []) z) S))
    one Done nf g =
        record {
          item = g.item;
          errors = [];
          read = g.read;
          is = rw g.is;
          tree = g.tree;
          reported = errs_take r j a.state.reported hj ∙ ap (λ (l : List Err). take j l) g.reported
              ∙ take_at E g.errors j le ∙ sym (append-nil E);
          holds = g.holds;
        }
    one Fatal nf g = absurd (nf refl)
    one (Refused u) nf g = rw g

-- dropping the errors is what the definition does
pub dropping : {B : Type 0} (d : ℕ) (m : Act Items) (k : Items → Act (Ans B)) (h : Fallible Items → Act (Ans B))
    → ((i : Items) → k i ≡ h (record { item = i; errors = [] })) → (S : St)
    → go d (m >>= k) S
    ≡ after (after (go d (m >>= as_answer) S) (λ z T. go d (or_return (λ y. P.good y.item []) z) T))
    (λ z T. go d (or_return h z) T)
dropping d m k h e S =
    through d m k (λ y. h (record { item = y.item; errors = [] })) e S
    ∙ seam d (λ y. P.good y.item []) h (λ y. record { item = y.item; errors = [] }) (λ y. refl)
    (go d (m >>= as_answer) S)

-- ---- `ty`

module _ {w x : List ℕ} {n d : ℕ} {o : List ℕ} {r f : List Error} {s : State} (q : Asked w n o r f s) where
  pub type_deep : {a : Answer} → d ≡ 0 → a ≡ refused_at n s 10 → Reads node w x n d P.parse_type o r f s o r f a
  type_deep z e = deep Type' q.asks z e

  module _ {t : Token} (nz : d ≡ 0 → ⊥) (v : Seen w x n s.at t) where
    pub type_name : {o' : List ℕ} {y : Answer} → kind_number t.kind ≡ 1 → NodeWritten o (there s t) (placed t.place Tag.Name None t.text.now) o' y
        → Reads node w x n d P.parse_type o r f s o' r f y
    unfolding go run P.type_rule
    type_name z u =
        down Type' nz
        (leaf_reads q.asks v [] (next_token (rest w x n s.at)).text u (omega arith) (rw (v.place, v.text))
        (d - 1) (λ rd. rw (run, yes v z)))

    -- the continuation after `*`
    abbrev star_on : Fallible Node → Act (Ans Node)
    star_on e = wrapped node [] [] 18 (λ _. (next_token (rest w x n s.at)).place) (λ _. []) [] e

    pub type_star : {o1 : List ℕ} {r1 f1 : List Error} {o2 : List ℕ} {b y : Answer} → kind_number t.kind ≡ 24
        → Reads node w x n (d - 1) P.parse_type o r f (fore s t) o1 r1 f1 b
        → NodeWritten o1 b (placed t.place Tag.Pointer None []) o2 y → Reads node w x n d P.parse_type o r f s o2 r1 f1 y
    unfolding go run P.type_rule
    type_star z u F = down Type' nz
        (record_reads (next_token (rest w x n s.at)).place (λ _. []) [] F (moved_onward (fore_moved q.asks v) u.moved) (omega (arith, v.present, v.on, u.moved.at)) (omega arith) (λ _ _. rw v.place)
        (λ rd. go (d - 1) P.parse_type (st_of w x n f (past w x n s.at rd) (fore s t)))
        (λ rd. rw (run, other v z 1 refl, yes v z)
        (ap (λ (S : St). go (d - 1) (P.parse_type >>? star_on) S) (adv s v (λ _. plain) f rd _)) ∙ go_bind
        (d - 1) P.parse_type (or_return star_on) _)
        (λ rd. u.is (past w x n s.at rd)))

    pub type_array : {o1 : List ℕ} {r1 f1 : List Error} {b : Answer} → kind_number t.kind ≡ 43
        → Reads node w x n (d - 1) (P.parse_array_type (place_of t.place)) o r f (fore s t) o1
        r1 f1 b
        → Reads node w x n d P.parse_type o r f s o1 r1 f1 b
    unfolding go run P.type_rule
    type_array z u = down Type' nz (record {
      moved = moved_onward (fore_moved q.asks v) u.moved;
      on = omega (arith, v.present, v.on, u.moved.at);
      is =
          λ rd. say (rw (run, other v z 1 refl, other v z 24 refl, yes v z, v.place)
          (ap (λ (S : St). go (d - 1) (P.parse_array_type (place_of t.place)) S)
          (adv s v (λ _. plain) f rd _))) (u.is (past w x n s.at rd));
    })

    -- the continuation after the fields
    abbrev struct_on : Fallible Items → Act (Ans Node)
    struct_on e = wrapped items [] [] 20 (λ _. (next_token (rest w x n s.at)).place) (λ i. two i.count ∷ []) [] e

    pub type_struct : {o1 : List ℕ} {r1 f1 : List Error} {o2 : List ℕ} {a y : Answer} → kind_number t.kind ≡ 16
        → ReadsList w x n (d - 1) StructFields o r f (fore s t) o1 r1 f1 a
        → NodeWritten o1 (silent a s.reported) (placed t.place Tag.Struct (Two a.count) []) o2 y
        → Reads node w x n d P.parse_type o r f s o2 r1 f1 y
    unfolding go run P.type_rule
    type_struct {o1} {r1} {f1} {o2} {a} {y} z u F =
        let mv = moved_onward (fore_moved q.asks v) u.moved in
        down Type' nz
        (record_reads {K = items} (next_token (rest w x n s.at)).place (λ i. two i.count ∷ []) [] F (record { at = mv.at; end = mv.end; pos = mv.pos; room = mv.room; reported = omega arith; less = omega arith; full = mv.full; few = mv.few }) (omega (arith, v.present, v.on, u.moved.at)) (omega arith) (λ i h. rw (v.place, h))
        (λ rd. after (go (d - 1) (P.parse_list StructFields >>= as_answer)
        (st_of w x n f (past w x n s.at rd) (fore s t)))
        (λ z S. go (d - 1) (or_return (λ y. P.good y.item []) z) S))
        (λ rd. rw (run, other v z 1 refl, other v z 24 refl, other v z 43 refl, yes v z) (ap (λ (S : St). go (d - 1)
        (P.parse_list StructFields >>= λ i. struct_on (record { item = i; errors = [] })) S)
        (adv s v (λ _. plain) f rd _)) ∙ dropping (d - 1) (P.parse_list StructFields) _ struct_on
        (λ i. refl) (st_of w x n f (past w x n s.at rd) (fore s t)))
        (λ rd. drops (d - 1) u.never (errs_length r s.reported (omega arith)) u.moved.reported
        (u.is (past w x n s.at rd))))

    module _ {e : Error} {r' f' : List Error} {y : Answer} where
      pub type_end : kind_number t.kind ≡ 0 → err_of e ≡ error_at 12 nowhere 0 0
          → Raised (raised n (fore s t)) r f (fore s t) e r' f' y
          → Reads node w x n d P.parse_type o r f s o r' f' y
      unfolding go run P.type_rule
      type_end z i g =
          down Type' nz (raise_reads q.asks v plain g (d - 1)
          (λ rd. rw (run, other v z 1 refl, other v z 24 refl, other v z 43 refl, other v z 16 refl, yes v z)
          (raise_same (d - 1) (sym i) (adv s v (λ _. plain) f rd _))))

      pub type_other : (kind_number t.kind ≡ 1 → ⊥) → (kind_number t.kind ≡ 24 → ⊥) → (kind_number t.kind ≡ 43 → ⊥)
          → (kind_number t.kind ≡ 16 → ⊥) → (kind_number t.kind ≡ 0 → ⊥) → err_of e ≡ error_at 11 t.place 0 (kind_number t.kind)
          → Raised (raised n (fore s t)) r f (fore s t) e r' f' y
          → Reads node w x n d P.parse_type o r f s o r' f' y
      unfolding go run P.type_rule
      type_other m1 m24 m43 m16 z i g =
          down Type' nz (raise_reads q.asks v plain g (d - 1)
          (λ rd. rw (run, no v m1, no v m24, no v m43, no v m16, no v z)
          (raise_same (d - 1) (rw (v.place, v.kind) (sym i)) (adv s v (λ _. plain) f rd _))))

-- ---- `array`, after `[`; with the place of the type

module _ {w x : List ℕ} {n : ℕ} (place : Place) {o : List ℕ} {r f : List Error} {s : State} {t : Token}
    (q : Asked w n o r f s) (v : Seen w x n s.at t) where
  pub array_no_integer : {d : ℕ} {e : Error} {r' f' : List Error} {y : Answer} → (kind_number t.kind ≡ 2 → ⊥) → err_of e ≡ error_at 9 place 0 0
      → Raised (raised n (fore s t)) r f (fore s t) e r' f' y
      → Reads node w x n d (P.parse_array_type (place_of place)) o r f s o r' f' y
  unfolding go run P.parse_array_type
  array_no_integer {d} m i g =
      raise_reads q.asks v size g d
      (λ rd. rw (run, no v m) (raise_same d (sym i) (adv s v (λ _. size) f rd _)))

  module _ (z : kind_number t.kind ≡ 2) where
    pub array_no_size : {d : ℕ} {e : Error} {r' f' : List Error} {y : Answer} → Std.None ≡ size_in t.base t.text.now → err_of e ≡ error_at 10 place 0 0
        → Raised (raised n (fore s t)) r f (fore s t) e r' f' y
        → Reads node w x n d (P.parse_array_type (place_of place)) o r f s o r' f' y
    unfolding go run P.parse_array_type
    array_no_size {d} m i g =
        raise_reads q.asks v size g d
        (λ rd. rw (run, yes v z, v.text, v.base, size_none t.base t.text.now m) (raise_same d (sym i) (adv s v (λ _. size) f rd _)))

    module _ {k : ℕ} {r1 f1 : List Error} {a : Answer} (fits : Std.Some k ≡ size_in t.base t.text.now)
        (e : Expects w n (λ role. P.expect_as role 44) r f (fore s t) r1 f1 a) where
      -- the continuations after the type, and after `]`
      abbrev array_on : Fallible Node → Act (Ans Node)
      array_on b =
          wrapped node [] [] 19 (λ _. place_of place)
          (λ _. eight (number (next_token (rest w x n s.at)).base 0 (next_token (rest w x n s.at)).text) ∷ []) [] b

      abbrev bracket_on : Fallible Tok → Act (Ans Node)
      bracket_on _ = P.parse_type >>? array_on

      bracket : (d : ℕ) (rd : List Consumed)
          → go d (P.parse_array_type (place_of place)) (st_of w x n f rd s)
          ≡ after (go d (P.expect 44) (st_of w x n f (past_as size w x n s.at rd) (fore s t)))
          (λ z S. go d (or_return bracket_on z) S)
      unfolding go run P.parse_array_type
      bracket d rd =
          rw (run, yes v z, v.text, v.base, (size_fits t.base t.text.now fits).0)
          (ap (λ (S : St). go d (P.expect 44 >>? bracket_on) S) (adv s v (λ _. size) f rd _))
          ∙ go_bind d (P.expect 44) (or_return bracket_on)
          (st_of w x n f (past_as size w x n s.at rd) (fore s t))

      pub array_open : {d : ℕ} → Stopped a → Reads node w x n d (P.parse_array_type (place_of place)) o r f s o r1 f1 a
      array_open {d} nd =
          record {
            moved = moved_onward (fore_moved q.asks v) e.moved;
            on = omega (arith, v.present, v.on, e.moved.at);
            is = λ rd. say (bracket d rd)
                (stops d bracket_on _ nd (e.is x plain d (past_as size w x n s.at rd) o));
          }

      pub array_done : {d : ℕ} {o2 : List ℕ} {r2 f2 : List Error} {o3 : List ℕ} {b y : Answer} → a.status ≡ Done
          → Reads node w x n d P.parse_type o r1 f1 a.state o2 r2 f2 b
          → NodeWritten o2 b (placed place Tag.Array (Eight k) []) o3 y
          → Reads node w x n d (P.parse_array_type (place_of place)) o r f s o3 r2 f2 y
      array_done {d} {o2} {r2} {f2} {o3} {b} {y} za c F =
          let g : (rd : List Consumed) → Good _ _ _ [] [] w x n o r1 f1 a (go d (P.expect 44) (st_of w x n f (past_as size w x n s.at rd) (fore s t))) =
          λ rd. good_of za (e.is x plain d (past_as size w x n s.at rd) o) in
          record_reads {K = node} (place_of place)
          (λ _. eight (number (next_token (rest w x n s.at)).base 0 (next_token (rest w x n s.at)).text) ∷ []) [] F
          (moved_onward (fore_moved q.asks v) (moved_onward e.moved c.moved))
          (omega (arith, v.present, v.on, e.moved.at, c.moved.at)) (omega arith)
          (λ _ _. rw (v.text, v.base, (size_fits t.base t.text.now fits).1))
          (λ rd. go d P.parse_type (st_of w x n f1 (g rd).read a.state))
          (λ rd. bracket d rd ∙ follows d bracket_on (g rd).is ∙ go_bind d P.parse_type (or_return array_on) _)
          (λ rd. shown_from c e.pos (e.kept za).1 (g rd).read)
