-- The loop of parse_field_access_or_index: `.name`, `.*`, `[index]`. Assumes nothing.
use mathlib.Core.Path.{◌≡◌, refl, sym, ap, ◌∙◌}
use mathlib.Core.Option.{some}
use mathlib.Core.List.{List, [], ◌∷◌, ◌++◌}
use Prim.Native.Nat.{ℕ}
use native.Mathlib.Omega.{arith}
use lib.ListN.{length, take}
use Rattle.node.specs.Put.{placed}
use Rattle.definition.specs.Numbers.{kind_number}
use Rattle.definition.specs.Source.{Place}
use Rattle.definition.specs.Fallible.{Err, Fallible, Ans, ok}
use Rattle.definition.specs.Kind as K
use Rattle.definition.specs.Token.{Tok, next_token, ◌is◌}
use Rattle.definition.specs.Act as Act
use Rattle.definition.specs.Act.{Act, Suffixes, Node, Consumed, plain, St, Res, gives, after, or_return, run, ◌>>?◌}
use Rattle.definition.specs.Parser as P
use Rattle.definition.specs.Go.{go}
use Rattle.definition.proofs.Flat.{go_bind, go_loop}
use Rattle.definition.specs.declared.tag.Tag.{Tag}
use Rattle.fallible.proofs.Grown.{errs_length}
use Rattle.fallible.specs.declared.parser.State.{State}
use Rattle.fallible.specs.Answer.{Done, Answer}
use Rattle.fallible.specs.Lists.{errs, err_of, error_at}
use Rattle.fallible.specs.Answers.{refused_at, noted, Raised, Abandoned}
use Rattle.node.specs.declared.Numbers.TheVariants.{None}
use Rattle.steps.specs.declared.tokens.Token.{Token}
use Rattle.steps.specs.Tokens.{rest, budget, Seen}
use Rattle.steps.specs.Shows.{st_of, Asks, Moved, Shows, Reads, Goes, GoesOn, node, Follows, Expected, NodeWritten}
use Rattle.steps.proofs.Records.{yes, no, other, fore, adv}
use Rattle.steps.proofs.Moves.{asks_fore, fore_moved, refused_moved, making_moved, moved_trans, asks_moved}
use Rattle.steps.proofs.Answers.{say, good_of, is_good, follows, abandons, wrapped, writes_node, errs_join}
use Rattle.steps.proofs.Constructs.{seam}
use Rattle.steps.proofs.Following.{expecting, expects_after}
use Rattle.leaves.proofs.Errors.{made_so, makes, makes_none}
use Rattle.expression_laws.specs.Post.{suffixes_on}
use Rattle.expression_laws.proofs.Types.{past}
use Rattle.expression_laws.proofs.Joins.{goes_none}
use Rattle.expression_laws.proofs.Calls.{expect_seam}
use Rattle.fallible.specs.declared.error.Error.{Error}
use Rattle.definition.specs.Node.{Rec}

-- two tokens are read
abbrev past_two : List ℕ → List ℕ → ℕ → ℕ → ℕ → List Consumed → List Consumed
past_two w x n at next rd = past w x n next (past w x n at rd)

-- the continuation after the dot, whose place is p
abbrev dotted : Place → Fallible Node → Tok → Act (Ans Node)
dotted p e n =
    Act.when◌then◌else◌ (n is K.End) Act.panic
    (Act.when◌then◌else◌ (n is K.Identifier) (suffixes_on (P.wrap 0x29 p n.text e))
    (Act.make (P.error 4 n.place 0 0) (P.good e.item (e.errors ++ (P.error 4 n.place 0 0 ∷ [])))))

dot_step : {w y : List ℕ} {n : ℕ} {t : Token} (d : ℕ) (f : List Error) (s : State) → Seen w y n s.at t → kind_number t.kind ≡ 34
    → (e : Fallible Node) (rd : List Consumed) (x : List ℕ)
    → go d (suffixes_on e) (st_of w x n f rd s)
    ≡ go d (Act.next (dotted (next_token (rest w x n s.at)).place e))
    (st_of w x n f (past w x n s.at rd) (fore s t))
unfolding go run P.suffixes_turn
dot_step {w} {n = n} d f s u h e rd x =
    go_loop d (Suffixes e) (st_of w x n f rd s)
    ∙ rw (run, yes u h)
    (ap (λ (S : St). go d (Act.next (dotted (next_token (rest w x n s.at)).place e)) S) (adv s u (λ _. plain) f rd _))

-- ---- a record after the operand alone, and the next turn

module _ {w x : List ℕ} {n d i j : ℕ} {o : List ℕ} {r f : List Error} {o2 o3 : List ℕ} {r3 f3 : List Error} {a y y' : Answer} {on : State} {v : Rec} (p : Place) (text : List ℕ) (q : GoesOn w n o r f a i j) (z : a.status ≡ Done)
    (F : NodeWritten o (record { status = a.status; state = on; place = a.place; count = a.count }) v o2 y) (made : v ≡ record { tag = v.tag; place = some p; numbers = []; text = text }) where
  -- the operand gets the record v, and the loop continues
  pub goes_wrapped : (rd' : List Consumed → List Consumed) → on.pos ≡ a.state.pos → on.reported ≡ a.state.reported
      → on.full ≡ a.state.full → Moved w n i j a.state y.state
      → ((e : Fallible Node) (rd : List Consumed)
      → go d (suffixes_on e) (st_of w x n f rd a.state)
      ≡ go d (suffixes_on (P.wrap (v.tag) p text e)) (st_of w x n f (rd' rd) on))
      → Goes node node w x n d suffixes_on i j o2 r f y o3 r3 f3 y'
      → Goes node node w x n d suffixes_on i j o r f a o3 r3 f3 y'
  unfolding go run
  goes_wrapped rd' e1 e2 e3 m step G = record {
    moved = moved_trans m G.moved;
    is = λ T E h li lj u.
        let g = good_of z u in
        say (follows d suffixes_on g.is ∙ step (record { item = g.item; errors = g.errors }) g.read)
        (G.is T E _ li lj (writes_node {K = node} {rs = []} {es = []} {q = gives (ok (record { item = g.item; errors = g.errors })) (st_of w x n f (rd' g.read) on)} d (λ _. p) (λ _. []) text F (λ _ _. made)
        (is_good {K = node} z (record {
          item = g.item;
          errors = g.errors;
          read = rd' g.read;
          is = refl;
          tree = ap (λ (k : ℕ). take k o) e1 ∙ g.tree;
          reported = ap (λ (k : ℕ). errs r k) e2 ∙ g.reported;
          holds = g.holds;
        }))));
  }

-- how the state moves in a turn without an index
module _ {w x : List ℕ} {n i j : ℕ} {o : List ℕ} {r f : List Error} {a : Answer} {t : Token} (q : GoesOn w n o r f a i j)
    (u : Seen w x n a.state.at t) where
  pub star_moved : {o2 : List ℕ} {y : Answer} → kind_number t.kind ≡ 35
      → NodeWritten o (record { status = a.status; state = fore a.state t; place = a.place; count = a.count }) (placed t.place Tag.PointerDereference None []) o2 y
      → Moved w n i j a.state y.state
  star_moved {y = y} k F =
      let e : budget w n y.state.at ≡ budget w n t.next = ap (λ (k : ℕ). budget w n k) F.at in
      record {
        at = omega (arith, F.at, u.up);
        end = omega (arith, F.at, u.end);
        pos = omega (arith, F.low, q.pos);
        room = omega (arith, F.high, u.pays);
        reported = omega (arith, F.reported, q.reported);
        less = omega (arith, F.reported, F.full);
        full = omega (arith, F.full);
        few = omega (arith, F.full, q.asked.asks.few);
      }

  pub dot_moved : {v : Token} {o2 : List ℕ} {y : Answer} → Seen w x n t.next v → kind_number v.kind ≡ 1
      → NodeWritten o (record { status = a.status; state = fore (fore a.state t) v; place = a.place; count = a.count }) (placed t.place Tag.FieldAccess None v.text.now) o2 y
      → Moved w n i j a.state y.state
  dot_moved {v} {y = y} s k F =
      let e : budget w n y.state.at ≡ budget w n v.next = ap (λ (k : ℕ). budget w n k) F.at in
      record {
        at = omega (arith, F.at, u.up, s.up);
        end = omega (arith, F.at, s.end);
        pos = omega (arith, F.low, q.pos);
        room = omega (arith, F.high, u.pays, s.pays);
        reported = omega (arith, F.reported, q.reported);
        less = omega (arith, F.reported, F.full);
        full = omega (arith, F.full);
        few = omega (arith, F.full, q.asked.asks.few);
      }

module _ {w x : List ℕ} {n d i j : ℕ} {o : List ℕ} {r f : List Error} {a : Answer} {t : Token} (q : GoesOn w n o r f a i j)
    (z : a.status ≡ Done) (u : Seen w x n a.state.at t) where
  -- no suffix follows
  pub suffix_none : (kind_number t.kind ≡ 34 → ⊥) → (kind_number t.kind ≡ 35 → ⊥) → (kind_number t.kind ≡ 43 → ⊥) → Goes node node w x n d suffixes_on i j o r f a o r f a
  unfolding go run P.suffixes_turn
  suffix_none h k l = goes_none q z (λ e rd. go_loop d (Suffixes e) (st_of w x n f rd a.state) ∙ rw (run, no u h, no u k, no u l))

  -- ---- `.*`

  pub suffix_star : {o2 o3 : List ℕ} {r3 f3 : List Error} {y y' : Answer} → kind_number t.kind ≡ 35
      → NodeWritten o (record { status = a.status; state = fore a.state t; place = a.place; count = a.count }) (placed t.place Tag.PointerDereference None []) o2 y
      → Goes node node w x n d suffixes_on i j o2 r f y o3 r3 f3 y' → Goes node node w x n d suffixes_on i j o r f a o3 r3 f3 y'
  unfolding go run P.suffixes_turn
  suffix_star k F G =
      goes_wrapped (next_token (rest w x n a.state.at)).place [] q z F (rw u.place) (past w x n a.state.at) refl refl refl
      (star_moved q u k F)
      (λ e rd. go_loop d (Suffixes e) (st_of w x n f rd a.state) ∙ rw (run, other u k 34 refl, yes u k)
      (ap (λ (S : St). go d (suffixes_on (P.wrap 0x28 (next_token (rest w x n a.state.at)).place [] e)) S)
      (adv a.state u (λ _. plain) f rd _))) G

  -- ---- `.name`

  module _ {v : Token} (h : kind_number t.kind ≡ 34) (s : Seen w x n t.next v) where
    -- the end after the dot is refused
    pub dot_end : {y : Answer} → kind_number v.kind ≡ 0 → y ≡ refused_at n a.state 11 → Goes node node w x n d suffixes_on i j o r f a o r f y
    unfolding go run P.suffixes_turn
    dot_end k e =
        rw e
        (record {
          moved =
              let m = refused_moved q.asked.asks 11 in
              record {
                at = m.at;
                end = m.end;
                pos = q.pos;
                room = m.room;
                reported = q.reported;
                less = m.less;
                full = m.full;
                few = m.few;
              };
          is =
              λ T E p li lj w. let g = good_of z w in
              record {
                told = follows d suffixes_on g.is
                    ∙ dot_step d f a.state u h (record { item = g.item; errors = g.errors }) g.read x
                    ∙ rw (run, yes s k);
              };
        })

    pub dot_name : {o2 o3 : List ℕ} {r3 f3 : List Error} {y y' : Answer} → kind_number v.kind ≡ 1
        → NodeWritten o (record { status = a.status; state = fore (fore a.state t) v; place = a.place; count = a.count }) (placed t.place Tag.FieldAccess None v.text.now) o2 y
        → Goes node node w x n d suffixes_on i j o2 r f y o3 r3 f3 y' → Goes node node w x n d suffixes_on i j o r f a o3 r3 f3 y'
    unfolding go run P.suffixes_turn
    dot_name k F G =
        goes_wrapped (next_token (rest w x n a.state.at)).place (next_token (rest w x n t.next)).text q z F
        (rw (u.place, s.text)) (past_two w x n a.state.at t.next) refl refl refl
        (dot_moved q u s k F)
        (λ e rd. dot_step d f a.state u h e rd x ∙ rw (run, other s k 0 refl, yes s k) (ap (λ (S : St). go d (suffixes_on
        (P.wrap 0x29 (next_token (rest w x n a.state.at)).place (next_token (rest w x n t.next)).text e)) S)
        (adv (fore a.state t) s (λ _. plain) f (past w x n a.state.at rd) _))) G

    -- another token than a name: error 4, and the loop ends
    pub dot_other : {e : Error} {r1 f1 : List Error} {b : Answer} → (kind_number v.kind ≡ 0 → ⊥) → (kind_number v.kind ≡ 1 → ⊥)
        → err_of e ≡ error_at 4 v.place 0 0
        → Raised (noted n (fore (fore a.state t) v)) r f (fore (fore a.state t) v) e r1 f1 b
        → Goes node node w x n d suffixes_on i j o r f a o r1 f1
        (record { status = b.status; state = b.state; place = a.place; count = a.count })
    unfolding go run P.suffixes_turn
    dot_other {e} {r1} {f1} {b} m k c g =
        let q2 : Asks n r f (fore (fore a.state t) v) = asks_fore (asks_fore q.asked.asks u) s in
        let mv : Moved w n a.state.pos a.state.reported a.state b.state = rw g.is
        (moved_trans (fore_moved q.asked.asks u)
        (moved_trans (fore_moved (asks_fore q.asked.asks u) s) (making_moved q2 Done))) in
        record {
          moved =
              record {
                at = mv.at;
                end = mv.end;
                pos = omega (arith, q.pos, mv.pos);
                room = mv.room;
                reported = omega (arith, q.reported, mv.reported);
                less = mv.less;
                full = mv.full;
                few = mv.few;
              };
          is = λ T E p li lj y.
              let h2 = good_of z y in
              say
              (follows d suffixes_on h2.is ∙ dot_step d f a.state u h (record { item = h2.item; errors = h2.errors }) h2.read x
              ∙ rw (run, no s m, no s k)
              (ap (λ (S : St). go d (Act.make (P.error 4 (next_token (rest w x n t.next)).place 0 0) (P.good h2.item (h2.errors ++ (P.error 4 (next_token (rest w x n t.next)).place 0 0 ∷ [])))) S) (adv (fore a.state t) s (λ _. plain) f (past w x n a.state.at h2.read) _)
              ∙ ap (λ (er : Err). go d (Act.make er (P.good h2.item (h2.errors ++ (er ∷ []))))
              (st_of w x n f (past_two w x n a.state.at t.next h2.read) (fore (fore a.state t) v)))
              (rw s.place (sym c))))
              (made_so Done n (fore (fore a.state t) v) (λ b. Shows node T E [] [] w x n o r1 f1 (record { status = b.status; state = b.state; place = a.place; count = a.count }) (go d (Act.make (err_of e) (P.good h2.item (h2.errors ++ (err_of e ∷ [])))) (st_of w x n f (past_two w x n a.state.at t.next h2.read) (fore (fore a.state t) v)))) g.is
              (λ l. record {
                told = record {
                  item = h2.item;
                  errors = h2.errors ++ (err_of e ∷ []);
                  read = past_two w x n a.state.at t.next h2.read;
                  is = makes q2 g d (P.good h2.item (h2.errors ++ (err_of e ∷ [])))
                      (past_two w x n a.state.at t.next h2.read) w x l;
                  tree = h2.tree;
                  reported = errs_join E h2.errors (err_of e ∷ []) h2.reported (g.reported l);
                  holds = h2.holds;
                };
              })
              (λ l. record {
                told = makes_none q2 g d (P.good h2.item (h2.errors ++ (err_of e ∷ [])))
                    (past_two w x n a.state.at t.next h2.read) w x l;
              }));
        }

  -- ---- `[index]`

  -- what `expect_after` requires after the index
  pub index_asks : {o1 : List ℕ} {r1 f1 r2 : List Error} {b c : Answer}
      → Reads node w x n d P.parse_expression o r f (fore a.state t) o1 r1 f1 b
      → Abandoned r1 b i j a.state.reported r2 c → length r2 ≡ length r → length f1 ≡ length f
      → Follows n r2 f1 c i j
  index_asks {b = b} {c = c} B C lr lf =
      let g : budget w n c.state.at ≡ budget w n b.state.at = ap (λ (k : ℕ). budget w n k) C.at in
      record {
        asks =
            asks_moved {w = w} {i = i} {j = j} q.asked.asks (record {
              at = omega (arith, C.at, u.up, B.moved);
              end = omega (arith, C.at, B.moved);
              pos = C.low;
              room = omega (arith, C.high, B.moved, u.pays);
              reported = C.first;
              less = omega (arith, C.last, C.full, B.moved);
              full = omega (arith, C.full, B.moved);
              few = omega (arith, C.full, B.moved);
            }) lr lf;
        pos = C.low;
        reported = C.first;
      }

  module _ {o1 : List ℕ} {r1 f1 r2 r3 f3 : List Error} {o2 : List ℕ} {b c d1 y : Answer} (h : kind_number t.kind ≡ 43) (B : Reads node w x n d P.parse_expression o r f (fore a.state t) o1 r1 f1 b) (C : Abandoned r1 b i j a.state.reported r2 c) (lr : length r2 ≡ length r) (lf : length f1 ≡ length f)
      (X : Expected w n 44 i j r2 f1 c r3 f3 d1) (F : NodeWritten o1 d1 (placed t.place Tag.Index None []) o2 y) where
    pub index_moved : Moved w n i j a.state y.state
    index_moved =
        let e : budget w n y.state.at ≡ budget w n d1.state.at = ap (λ (k : ℕ). budget w n k) F.at in
        let g : budget w n c.state.at ≡ budget w n b.state.at = ap (λ (k : ℕ). budget w n k) C.at in
        record {
          at = omega (arith, F.at, X.moved, C.at, u.up, B.moved);
          end = omega (arith, F.at, X.moved);
          pos = omega (arith, F.low, X.moved);
          room = omega (arith, F.high, X.moved, C.high, B.moved, u.pays);
          reported = omega (arith, F.reported, X.moved);
          less = omega (arith, F.reported, F.full, X.moved, C.last, C.full, B.moved);
          full = omega (arith, F.full, X.moved, C.full, B.moved);
          few = omega (arith, F.full, X.moved);
        }

    pub suffix_index : {o4 : List ℕ} {r4 f4 : List Error} {y' : Answer}
        → Goes node node w x n d suffixes_on i j o2 r3 f3 y o4 r4 f4 y'
        → Goes node node w x n d suffixes_on i j o r f a o4 r4 f4 y'
    unfolding go run P.suffixes_turn
    suffix_index G = record {
      moved = moved_trans index_moved G.moved;
      is = λ T E p li lj y.
          let g = good_of z y in
          let e : Fallible Node = record { item = g.item; errors = g.errors } in
          let pl : Place = (next_token (rest w x n a.state.at)).place in
          let S1 : St = st_of w x n f (past w x n a.state.at g.read) (fore a.state t) in
          let q1 : Res (Ans Node) = go d P.parse_expression S1 in
          say
          (follows d suffixes_on g.is ∙ go_loop d (Suffixes e) (st_of w x n f g.read a.state)
          ∙ rw (run, other u h 34 refl, other u h 35 refl, yes u h) (ap (λ (S : St). go d
          (P.parse_expression >>? λ x. P.expect_as plain 44 >>? λ _. suffixes_on (P.binary 0x25 [] pl e x)) S)
          (adv a.state u (λ _. plain) f g.read _))
          ∙ go_bind d P.parse_expression
          (or_return (λ x. P.expect_as plain 44 >>? λ _. suffixes_on (P.binary 0x25 [] pl e x))) S1
          ∙ expect_seam d plain 44 (λ x. suffixes_on (P.binary 0x25 [] pl e x)) q1
          ∙ seam d (wrapped node g.item.recs g.errors 0x25 (λ _. pl) (λ _. []) []) suffixes_on
          (λ x. P.binary 0x25 [] pl e x) (λ x. refl)
          (after q1 (λ z S. go d (or_return (expecting plain 44) z) S)))
          (G.is T E _ li lj
          (writes_node d (λ _. pl) (λ _. []) [] F (λ _ _. rw u.place)
          (expects_after (index_asks B C lr lf) X plain d li lj
          (abandons {T = T} {E = E} g.tree g.reported li lj (errs_length r a.state.reported (omega arith)) C
          (omega (arith, q.pos, B.moved.pos)) (omega (arith, q.reported, B.moved.reported))
          (B.is (past w x n a.state.at g.read))))));
    }
