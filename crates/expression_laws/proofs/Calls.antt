-- The laws of prefix operators, calls, `sizeof` and groups. Assumes nothing.
use mathlib.Core.Path.{◌≡◌, refl, sym, ap, ◌∙◌, subst}
use mathlib.Core.Option.{some}
use mathlib.Core.List.{List, [], ◌∷◌, ◌++◌, append-nil}
use Prim.Native.Nat.{ℕ, min, ◌+◌, ◌*◌, ◌-◌, ◌≤◌}
use native.Mathlib.Omega.{arith}
use lib.ListN.{length, take}
use lib.Seq.{length-take-le}
use Rattle.definition.specs.Numbers.{kind_number, tag_number}
use Rattle.definition.specs.Source.{Place}
use Rattle.definition.specs.Node.{Num, two, Rec, recs_bytes}
use Rattle.definition.specs.Fallible.{Err, Fallible, Ans, ok, fatal}
use Rattle.definition.specs.Kind as K
use Rattle.definition.specs.Token.{Tok, next_token, ◌is◌}
use Rattle.definition.specs.Act as A
use Rattle.definition.specs.Act.{Act, done, Node, Unary, Arguments, Consumed, Role, plain, group, St, Res, gives, refused, after, or_return, run, now_read, ◌>>=◌, ◌>>?◌}
use Rattle.definition.specs.Parser as P
use Rattle.definition.specs.Go.{go}
use Rattle.definition.proofs.Flat.{go_bind}
use Rattle.definition.specs.declared.tag.Tag.{Tag}
use Rattle.fallible.proofs.Grown.{errs_length}
use Rattle.fallible.specs.declared.parser.State.{State}
use Rattle.fallible.specs.Answer.{Status, Done, Fatal, Refused, Answer}
use Rattle.fallible.specs.Lists.{errs}
use Rattle.fallible.specs.Answers.{silent}
use Rattle.node.specs.Put.{placed, size_of}
use Rattle.node.specs.declared.Numbers.TheVariants.{None, Two}
use Rattle.steps.specs.declared.tokens.Token.{Token}
use Rattle.steps.specs.Tokens.{rest, budget, Seen}
use Rattle.steps.specs.Shows.{st_of, Asked, Moved, View, Good, Bad, ShowsOf, Shows, Reads, Goes, GoesOn, node, items, token, Expects, Follows, Expected, NodeWritten}
use Rattle.steps.proofs.Records.{yes, no, fore, adv}
use Rattle.steps.proofs.Moves.{asks_moved, fore_moved, moved_trans}
use Rattle.steps.proofs.Answers.{Stopped, say, good_of, stops, follows, wrapped, writes_node, tree_join, errs_join}
use Rattle.steps.proofs.Constructs.{down}
use Rattle.steps.proofs.Following.{expecting, expects_after}
use Rattle.std.specs.Prelude.{Option, Some}
use Rattle.std.specs.Prelude as Std
use Rattle.leaves.proofs.Choices.{none_found, one_found, operator_real, unary_finds}
use Rattle.leaves.specs.Leaves.{operator_of, number_of, prefixes, ClosingOf, Closing, ClosedOf, Closed}
use Rattle.expression_laws.specs.Post.{ReadsList}
use Rattle.expression_laws.proofs.Types.{past, drops, dropping}
use Rattle.expression_laws.proofs.Joins.{goes_none}
use Rattle.fallible.specs.declared.error.Error.{Error}

-- ---- a token, an operand, and the record after them

module _ {A : Type 0} {K : View A} {w x : List ℕ} {n d : ℕ} {o : List ℕ} {r f : List Error} {o1 : List ℕ} {r1 f1 : List Error} {o2 : List ℕ} {s : State} {b y : Answer} {t : Token} {v : Rec} {m : Act (Ans A)} {M : Act (Ans Node)} (p : A → Place) (ns : A → List Num) (text : List ℕ)
    (q : Asked w n o r f s) (u : Seen w x n s.at t) (B : Reads K w x n d m o r f (fore s t) o1 r1 f1 b) (F : NodeWritten o1 b v o2 y)
    (paid : size_of v ≤ 16 * min (kind_number t.kind) 1 + length t.text.now) (made : (i : A) → K.fine b.place b.count i → v ≡ record { tag = v.tag; place = some (p i); numbers = ns i; text = text }) where
  -- an act that reads the token t, then m, and writes the record v, reads a node
  pub wraps_token : (rd' : List Consumed → List Consumed)
      → ((rd : List Consumed)
      → go d M (st_of w x n f rd s)
      ≡ go d (m >>? wrapped K [] [] (v.tag) p ns text) (st_of w x n f (rd' rd) (fore s t)))
      → Reads node w x n d M o r f s o2 r1 f1 y
  wraps_token rd' step =
      let e : budget w n y.state.at ≡ budget w n b.state.at = ap (λ (k : ℕ). budget w n k) F.at in
      record {
        moved =
            record {
              at = omega (arith, F.at, u.up, B.moved);
              end = omega (arith, F.at, B.moved);
              pos = omega (arith, F.low, B.moved);
              room = omega (arith, F.high, B.moved, u.pays);
              reported = omega (arith, F.reported, B.moved);
              less = omega (arith, F.reported, F.full, B.moved);
              full = omega (arith, F.full, B.moved);
              few = omega (arith, F.full, B.moved);
            };
        on = omega (arith, F.at, u.on, u.present, B.moved.at);
        is =
            λ rd. say (step rd ∙ go_bind d m (or_return (wrapped K [] [] (v.tag) p ns text)) _)
            (writes_node d p ns text F made (B.is (rd' rd)));
      }

-- ---- prefixes

module _ {w x : List ℕ} {n d : ℕ} {o : List ℕ} {r f : List Error} {s : State} {t : Token} {tag : Option Tag} (q : Asked w n o r f s)
    (nz : d ≡ 0 → ⊥) (u : Seen w x n s.at t) (k : number_of tag ≡ operator_of prefixes (kind_number t.kind)) where
  -- no prefix operator: a call; else the prefix, its operand and its record
  pub unary_none : {o1 : List ℕ} {r1 f1 : List Error} {a : Answer} → tag ≡ Std.None → Reads node w x n (d - 1) P.parse_call o r f s o1 r1 f1 a
      → Reads node w x n d P.parse_unary o r f s o1 r1 f1 a
  unary_none h B =
      down Unary nz (record {
        moved = B.moved;
        on = B.on;
        is = λ rd. say (unary_finds (d - 1) (st_of w x n f rd s) ∙ none_found (next_token (rest w x n s.at)) _ (u.kind x) P.prefix P.parse_call (d - 1) (st_of w x n f rd s) prefixes k (ap number_of h)) (B.is rd);
      })

  pub unary_prefix : {m : Tag} {o1 : List ℕ} {r1 f1 : List Error} {o2 : List ℕ} {a y : Answer} → tag ≡ Some m
      → Reads node w x n (d - 1) P.parse_unary o r f (fore s t) o1 r1 f1 a
      → NodeWritten o1 a (placed a.place m None []) o2 y
      → Reads node w x n d P.parse_unary o r f s o2 r1 f1 y
  unfolding go run P.prefix
  unary_prefix {m} {a = a} h B F =
      down Unary nz
      (wraps_token (λ i. i.place) (λ _. []) [] q u B F (omega (arith, operator_real prefixes (kind_number t.kind) refl k (ap number_of h))) (λ i e. rw e) (past w x n s.at)
      (λ rd. unary_finds (d - 1) (st_of w x n f rd s) ∙ one_found (next_token (rest w x n s.at)) _ (u.kind x) P.prefix P.parse_call (d - 1) (st_of w x n f rd s) prefixes k (ap number_of h) ∙
      (ap (λ (S : St). go (d - 1) (P.parse_unary >>? wrapped node [] [] (tag_number m) (λ i. i.place) (λ _. []) []) S)
      (adv s u (λ _. plain) f rd _))))

-- ---- calls: the arguments after what is called; their errors are dropped

-- the arguments and the record of a call, if `(` follows
abbrev pub call_on : Fallible Node → Act (Ans Node)
call_on e =
    A.peek λ t. A.when◌then◌else◌ (t is K.LParen) (P.parse_list Arguments >>= λ i. P.good
    (P.node (e.item.recs ++ i.recs) 0x24 e.item.place (two i.count ∷ []) []) e.errors)
    (done (ok e))

module _ {A : Type 0} {K : View A} {w x : List ℕ} {n : ℕ} {o : List ℕ} {r f : List Error} {b : Answer} {q : Res (Ans A)} (never : b.status ≡ Fatal → ⊥) where
  -- an answer that is not fatal, seen after what the construct has so far
  pub rebased : {T T' : List ℕ} {E E' : List Err} (rs : List Rec) (es : List Err) → T' ≡ T ++ recs_bytes rs → E' ≡ E ++ es
      → Shows K T' E' [] [] w x n o r f b q → Shows K T E rs es w x n o r f b q
  rebased {T} {T'} {E} {E'} rs es t e v = record { told = one b.status refl v.told }
    where
      one : (s : Status) → b.status ≡ s → ShowsOf s K T' E' [] [] w x n o r f b q → ShowsOf s K T E rs es w x n o r f b q
      one Done z g =
          record {
            item = g.item;
            errors = g.errors;
            read = g.read;
            is = g.is;
            tree = tree_join T rs (K.recs g.item) t g.tree;
            reported = errs_join E es g.errors e g.reported;
            holds = g.holds;
          }
      one Fatal z g = absurd (never z)
      one (Refused m) z g = g

module _ {w x : List ℕ} {n d i j : ℕ} {o : List ℕ} {r f : List Error} {a : Answer} {t : Token} (q : GoesOn w n o r f a i j)
    (z : a.status ≡ Done) (u : Seen w x n a.state.at t) where
  -- no `(` follows
  pub call_none : (kind_number t.kind ≡ 41 → ⊥) → Goes node node w x n d call_on i j o r f a o r f a
  unfolding go run
  call_none h = goes_none q z (λ e rd. rw (run, no u h))

  module _ {o1 : List ℕ} {r1 f1 : List Error} {o2 : List ℕ} {b y : Answer} (h : kind_number t.kind ≡ 41) (B : ReadsList w x n d Arguments o r f a.state o1 r1 f1 b)
      (F : NodeWritten o1 (silent b a.state.reported) (placed a.place Tag.Call (Two b.count) []) o2 y) where
    pub call_moved : Moved w n i j a.state y.state
    call_moved =
        let e : budget w n y.state.at ≡ budget w n b.state.at = ap (λ (k : ℕ). budget w n k) F.at in
        let s : (next_token (rest w x n a.state.at)).kind ≡ 41 = u.kind x ∙ h in
        record {
          at = omega (arith, F.at, B.moved);
          end = omega (arith, F.at, B.moved);
          pos = omega (arith, F.low, B.moved, q.pos);
          room = omega (arith, F.high, B.spare);
          reported = omega (arith, F.reported, q.reported);
          less = omega (arith, F.reported, F.full, B.moved);
          full = omega (arith, F.full, B.moved);
          few = omega (arith, F.full, B.moved);
        }

    -- `(` follows: the arguments and the record are read
    pub call_found : Goes node node w x n d call_on i j o r f a o2 r1 f1 y
    unfolding go run
    call_found = record {
      moved = call_moved;
      is = λ T E p li lj v.
          let g = good_of z v in
          say (follows d call_on g.is
          ∙ rw (run, yes u h) (dropping d (P.parse_list Arguments) _
          (wrapped items g.item.recs g.errors 0x24 (λ _. g.item.place) (λ i. two i.count ∷ []) [])
          (λ i. rw append-nil) (st_of w x n f g.read a.state)))
          (writes_node d (λ _. g.item.place) (λ i. two i.count ∷ []) [] F (λ i e. rw (e, g.holds))
          (rebased B.never g.item.recs g.errors g.tree g.reported
          (drops d B.never (errs_length r a.state.reported (omega arith)) B.moved.reported (B.is g.read))));
    }

-- ---- `sizeof`

-- `expect` after an item, then g: the same as continuing with `expecting`, then with g
pub expect_seam : {A B : Type 0} (d : ℕ) (role : Role) (k : ℕ) (g : Fallible A → Act (Ans B)) (q : Res (Ans A))
    → after q (λ z S. go d (or_return (λ e. P.expect_as role k >>? λ _. g e) z) S)
    ≡ after (after q (λ z S. go d (or_return (expecting role k) z) S)) (λ z S. go d (or_return g z) S)
unfolding go run
expect_seam d role k g (gives (ok y) S) =
    go_bind d (P.expect_as role k) (or_return (λ _. g y)) S ∙ one (go d (P.expect_as role k) S)
    ∙ sym (ap (λ (p : Res (Ans _)). after p (λ z S. go d (or_return g z) S))
    (go_bind d (P.expect_as role k) (or_return (λ _. done (ok y))) S))
  where
    one : (p : Res (Ans Tok))
        → after p (λ z S. go d (or_return (λ _. g y) z) S)
        ≡ after (after p (λ z S. go d (or_return (λ _. done (ok y)) z) S)) (λ z S. go d (or_return g z) S)
    one (gives (ok t) S) = refl
    one (gives (fatal es) S) = refl
    one (refused n) = refl
expect_seam d role k g (gives (fatal es) S) = refl
expect_seam d role k g (refused n) = refl

abbrev sized : Tok → Fallible Node → Act (Ans Node)
sized op ty = P.good (P.node ty.item.recs 0x2F op.place [] []) ty.errors

sizeof_step : {w y : List ℕ} {n : ℕ} {t : Token} (d : ℕ) (f : List Error) (s : State) → Seen w y n s.at t → kind_number t.kind ≡ 17
    → (rd : List Consumed) (x : List ℕ)
    → go d P.parse_sizeof (st_of w x n f rd s)
    ≡ after (go d (P.expect_as plain 41) (st_of w x n f (past w x n s.at rd) (fore s t))) (λ z S. go d
    (or_return (λ _. P.parse_type >>? λ ty. P.expect_as plain 42 >>? λ _. sized (next_token (rest w x n s.at)) ty) z)
    S)
unfolding go run P.parse_sizeof
sizeof_step {w} {n = n} d f s u h rd x =
    rw (run, yes u h) (ap
    (λ (S : St). go d (P.expect_as plain 41 >>? λ _. P.parse_type >>? λ ty. P.expect_as plain 42 >>? λ _. sized
    (next_token (rest w x n s.at)) ty) S) (adv s u (λ _. plain) f rd _)
    ∙ go_bind d (P.expect_as plain 41)
    (or_return (λ _. P.parse_type >>? λ ty. P.expect_as plain 42 >>? λ _. sized (next_token (rest w x n s.at)) ty))
    _)

module _ {w x : List ℕ} {n d : ℕ} {o : List ℕ} {r f : List Error} {s : State} {t : Token} (q : Asked w n o r f s) (u : Seen w x n s.at t) where
  -- no `sizeof` follows
  pub sizeof_other : {o1 : List ℕ} {r1 f1 : List Error} {a : Answer} → (kind_number t.kind ≡ 17 → ⊥)
      → Reads node w x n d P.parse_field_access_or_index o r f s o1 r1 f1 a
      → Reads node w x n d P.parse_sizeof o r f s o1 r1 f1 a
  unfolding go run P.parse_sizeof
  sizeof_other h B = record { moved = B.moved; on = B.on; is = λ rd. say (rw (run, no u h)) (B.is rd) }

  module _ {r1 f1 : List Error} {a : Answer} (h : kind_number t.kind ≡ 17) (X : Expects w n (λ role. P.expect_as role 41) r f (fore s t) r1 f1 a) where
    -- `sizeof` with no `(` after it
    pub sizeof_stop : Stopped a → Reads node w x n d P.parse_sizeof o r f s o r1 f1 a
    sizeof_stop nd =
        record {
          moved = omega (arith, X.moved, u.pays, u.up);
          on = omega (arith, X.moved.at, u.on, u.present);
          is = λ rd. say (sizeof_step d f s u h rd x) (stops d _ _ nd (X.is x plain d (past w x n s.at rd) o));
        }

    -- what `expect_after` requires after the type
    pub sizeof_asks : {o1 : List ℕ} {r2 f2 : List Error} {b : Answer} → a.status ≡ Done
        → Reads node w x n d P.parse_type o r1 f1 a.state o1 r2 f2 b → length r2 ≡ length r
        → length f2 ≡ length f → Follows n r2 f2 b s.pos s.reported
    sizeof_asks z B lr lf =
        record {
          asks = asks_moved q.asks (moved_trans (moved_trans (fore_moved q.asks u) X.moved) B.moved)
              lr lf;
          pos = omega (arith, B.moved, X.pos);
          reported = omega (arith, B.moved, (X.kept z).0);
        }

    -- `sizeof` with its type, `)` and record
    pub sizeof_done : {o1 : List ℕ} {r2 f2 r3 f3 : List Error} {o2 : List ℕ} {b c y : Answer} → a.status ≡ Done
        → Reads node w x n d P.parse_type o r1 f1 a.state o1 r2 f2 b → length r2 ≡ length r
        → length f2 ≡ length f → Expected w n 42 s.pos s.reported r2 f2 b r3 f3 c
        → NodeWritten o1 c (placed t.place Tag.Sizeof None []) o2 y
        → Reads node w x n d P.parse_sizeof o r f s o2 r3 f3 y
    sizeof_done {o1} {r2} {f2} {r3} {f3} {o2} {b} {c} {y} z B lr lf C F =
        let e : budget w n y.state.at ≡ budget w n c.state.at = ap (λ (k : ℕ). budget w n k) F.at in
        let kept = X.kept z in
        record {
          moved =
              record {
                at = omega (arith, F.at, C.moved, B.moved, X.moved, u.up);
                end = omega (arith, F.at, C.moved);
                pos = omega (arith, F.low, C.moved);
                room = omega (arith, F.high, C.moved, B.moved, X.moved, u.pays);
                reported = omega (arith, F.reported, C.moved);
                less = omega (arith, F.reported, F.full, C.moved, B.moved, X.moved);
                full = omega (arith, F.full, C.moved, B.moved, X.moved);
                few = omega (arith, F.full, C.moved);
              };
          on = omega (arith, F.at, C.moved.at, B.moved.at, X.moved.at, u.on, u.present);
          is = λ rd.
              let g = good_of z (X.is x plain d (past w x n s.at rd) o) in
              let T_is : take a.state.pos o ≡ take s.pos o = ap (λ (k : ℕ). take k o) X.pos in
              let v : Shows node (take s.pos o) (errs r s.reported) [] [] w x n o1 r2 f2 b (go d P.parse_type (st_of w x n f1 g.read a.state)) =
              subst (λ (T : List ℕ). Shows node T (errs r s.reported) [] [] w x n o1 r2 f2 b
              (go d P.parse_type (st_of w x n f1 g.read a.state))) T_is
              (subst (λ (E : List Err). Shows node (take a.state.pos o) E [] [] w x n o1 r2 f2 b
              (go d P.parse_type (st_of w x n f1 g.read a.state))) kept.1 (B.is g.read)) in
              say (sizeof_step d f s u h rd x ∙ follows d _ g.is
              ∙ go_bind d P.parse_type
              (or_return (λ ty. P.expect_as plain 42 >>? λ _. sized (next_token (rest w x n s.at)) ty))
              (st_of w x n f1 g.read a.state)
              ∙ expect_seam d plain 42 (sized (next_token (rest w x n s.at)))
              (go d P.parse_type (st_of w x n f1 g.read a.state)))
              (writes_node d (λ _. (next_token (rest w x n s.at)).place) (λ _. []) [] F (λ i _. rw u.place)
              (expects_after (sizeof_asks z B lr lf) C plain d (length-take-le s.pos o (omega arith))
              (errs_length r s.reported (omega arith)) v));
        }

-- ---- groups: both parentheses, without `?`

-- the closing parenthesis after the expression
abbrev pub closing : Ans Node → Act (Ans Node)
closing e = P.expect_as group 42 >>= λ c. done (P.both e c)

module _ {w x : List ℕ} {n : ℕ} {o : List ℕ} {r f r1 f1 : List Error} {a y : Answer} (d : ℕ) {T : List ℕ} {E : List Err} {q : Res (Ans Node)} where
  -- a good answer keeps its node, and the errors of the parenthesis are added
  pub closes_good : a.status ≡ Done → Good node T E [] [] w x n o r f a q → Closing w n r f a r1 f1 y
      → Shows node T E [] [] w x n o r1 f1 y (after q (λ z S. go d (closing z) S))
  unfolding go run
  closes_good z g v = one v.b.status refl v.is (v.expects.is x group d g.read o).told
    where
      S : St
      S = st_of w x n f g.read a.state

      step : after q (λ z S. go d (closing z) S)
          ≡ after (go d (P.expect_as group 42) S)
          (λ c S. go d (done (P.both (ok (record { item = g.item; errors = g.errors })) c)) S)
      step = rw g.is (go_bind d (P.expect_as group 42) (λ c. done (P.both (ok (record { item = g.item; errors = g.errors })) c)) S)

      more : (es : List Err) → errs r1 v.b.state.reported ≡ errs r a.state.reported ++ es
          → errs r1 v.b.state.reported ≡ E ++ (g.errors ++ es)
      more es e = errs_join E g.errors es g.reported e

      tree : take v.b.state.pos o ≡ T ++ recs_bytes g.item.recs
      tree = ap (λ (l : ℕ). take l o) v.expects.pos ∙ g.tree

      one : (h : Status) → v.b.status ≡ h → ClosingOf h a v.b y
          → ShowsOf h (token (next_token (rest w x n a.state.at))) (take a.state.pos o)
          (errs r a.state.reported) [] [] w x n o r1 f1 v.b (go d (P.expect_as group 42) S)
          → Shows node T E [] [] w x n o r1 f1 y (after q (λ z S. go d (closing z) S))
      one Done h m t =
          rw m (record {
            told = rw z (record {
              item = g.item;
              errors = g.errors ++ t.errors;
              read = t.read;
              is = step ∙ rw t.is;
              tree = tree;
              reported = more t.errors t.reported;
              holds = g.holds;
            });
          })
      one Fatal h m t =
          rw m (record {
            told = rw z (record {
              item = g.item;
              errors = g.errors ++ t.errors;
              read = t.read;
              is = step ∙ rw t.is;
              tree = tree;
              reported = more t.errors t.reported;
              holds = g.holds;
            });
          })
      one (Refused k) h m t = rw m (record { told = rw h (step ∙ rw t) })

  -- a fatal answer stays fatal, and they are added
  pub closes_bad : a.status ≡ Fatal → Bad T E w x n o r f a q → Closing w n r f a r1 f1 y
      → Shows node T E [] [] w x n o r1 f1 y (after q (λ z S. go d (closing z) S))
  unfolding go run
  closes_bad z g v = one v.b.status refl v.is (v.expects.is x group d g.read o).told
    where
      S : St
      S = st_of w x n f g.read a.state

      step : after q (λ z S. go d (closing z) S)
          ≡ after (go d (P.expect_as group 42) S) (λ c S. go d (done (P.both (fatal g.errors) c)) S)
      step = rw g.is (go_bind d (P.expect_as group 42) (λ c. done (P.both (fatal g.errors) c)) S)

      more : (es : List Err) → errs r1 v.b.state.reported ≡ errs r a.state.reported ++ es
          → errs r1 v.b.state.reported ≡ E ++ (g.errors ++ es)
      more es e = errs_join E g.errors es g.reported e

      tree : take v.b.state.pos o ≡ T
      tree = ap (λ (l : ℕ). take l o) v.expects.pos ∙ g.tree

      one : (h : Status) → v.b.status ≡ h → ClosingOf h a v.b y
          → ShowsOf h (token (next_token (rest w x n a.state.at))) (take a.state.pos o)
          (errs r a.state.reported) [] [] w x n o r1 f1 v.b (go d (P.expect_as group 42) S)
          → Shows node T E [] [] w x n o r1 f1 y (after q (λ z S. go d (closing z) S))
      one Done h m t =
          rw m (record {
            told = rw z (record {
              errors = g.errors ++ t.errors;
              read = t.read;
              is = step ∙ rw t.is;
              tree = tree;
              reported = more t.errors t.reported;
            });
          })
      one Fatal h m t =
          rw m (record {
            told = rw z (record {
              errors = g.errors ++ t.errors;
              read = t.read;
              is = step ∙ rw t.is;
              tree = tree;
              reported = more t.errors t.reported;
            });
          })
      one (Refused k) h m t = rw m (record { told = rw h (step ∙ rw t) })

  -- the same for every answer
  pub closes : Closed w n r f a r1 f1 y → Shows node T E [] [] w x n o r f a q
      → Shows node T E [] [] w x n o r1 f1 y (after q (λ z S. go d (closing z) S))
  unfolding go run
  closes v u = one a.status refl v.is u.told
    where
      one : (h : Status) → a.status ≡ h → ClosedOf h w n r f a r1 f1 y → ShowsOf h node T E [] [] w x n o r f a q
          → Shows node T E [] [] w x n o r1 f1 y (after q (λ z S. go d (closing z) S))
      one Done z m g = closes_good z g m
      one Fatal z m g = closes_bad z g m
      one (Refused k) z m g = rw (m.0, m.1.0, m.1.1) (record { told = rw (z, g) })

module _ {w x : List ℕ} {n d : ℕ} {o : List ℕ} {r f : List Error} {s : State} {t : Token} (q : Asked w n o r f s) (u : Seen w x n s.at t) where
  -- parse_atom of a group
  pub atom_group : {o1 : List ℕ} {r1 f1 r2 f2 : List Error} {a y : Answer} → kind_number t.kind ≡ 41
      → Reads node w x n d P.parse_expression o r f (fore s t) o1 r1 f1 a → Closed w n r1 f1 a r2 f2 y
      → Reads node w x n d P.parse_atom o r f s o1 r2 f2 y
  unfolding go run P.parse_atom P.parse_group
  atom_group h B C = record {
    moved = omega (arith, C.moved, C.pos, B.moved, u.pays, u.up);
    on = omega (arith, C.moved.at, B.moved.at, u.on, u.present);
    is =
        λ rd. say (rw (
          run,
          no {k = 2} u (λ e. omega arith),
          no {k = 1} u (λ e. omega arith),
          no {k = 3} u (λ e. omega arith),
          no {k = 12} u (λ e. omega arith),
          no {k = 13} u (λ e. omega arith),
          yes u h,
        ) (ap (λ (S : St). go d (P.parse_expression >>= closing) S) (adv s u (λ _. group) f rd _)
        ∙ go_bind d P.parse_expression closing _))
        (closes d C (B.is (rd ++ now_read (λ _. group) (rest w x n s.at))));
  }
