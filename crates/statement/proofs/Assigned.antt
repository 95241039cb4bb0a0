-- Statements that begin with an expression: one law for each return of the functions. Assumes nothing.
use mathlib.Core.Path.{◌≡◌, refl, sym, ap, ◌∙◌, subst}
use mathlib.Core.Bool.{false}
use mathlib.Core.List.{List, [], ◌∷◌, ◌++◌, append-nil}
use Prim.Native.Nat.{ℕ, ◌+◌, ◌≤◌, ◌<◌}
use native.Mathlib.Omega.{arith}
use lib.ListN.{length, take, length-append}
use lib.Seq.{length-take-le}
use Rattle.definition.specs.Numbers.{kind_number, tag_number}
use Rattle.definition.specs.Source as S
use Rattle.definition.specs.declared.place.Place.{Place}
use Rattle.definition.specs.Node.{recs_bytes}
use Rattle.definition.specs.Fallible.{Err, Fallible, Ans, ok}
use Rattle.definition.specs.Act.{Act, done, when◌then◌else◌, Node, Consumed, plain, St, gives, or_return, run, ◌>>?◌}
use Rattle.definition.specs.Parser as P
use Rattle.definition.specs.Go.{go}
use Rattle.definition.specs.Places.{place_of}
use Rattle.definition.proofs.Flat.{go_bind}
use Rattle.definition.specs.declared.tag.Tag.{Tag}
use Rattle.fallible.proofs.Grown.{errs_length}
use Rattle.fallible.specs.declared.parser.State.{State}
use Rattle.fallible.specs.Answer.{Status, Done, done_of, Answer}
use Rattle.fallible.specs.Lists.{errs}
use Rattle.fallible.specs.Answers.{AbandonedOf, Abandoned}
use Rattle.node.specs.Put.{placed}
use Rattle.node.specs.declared.Numbers.TheVariants.{None}
use Rattle.steps.specs.declared.tokens.Token.{Token}
use Rattle.steps.specs.Tokens.{Parts, Seen}
use Rattle.steps.specs.Shows.{st_of, Asked, Moved, View, Shows, Reads, node, Follows, Expected, NodeWritten}
use Rattle.steps.proofs.Records.{yes, no, fore, adv}
use Rattle.steps.proofs.Moves.{fore_moved, moved_trans, asks_moved, abandoned_moved}
use Rattle.steps.proofs.Answers.{Stopped, say, good_of, is_good, follows, abandons, wrapped, writes_node}
use Rattle.steps.proofs.Constructs.{then_stops}
use Rattle.steps.proofs.Following.{expects_after}
use Rattle.expression_laws.proofs.Types.{node_written_moved, past}
use Rattle.expression_laws.proofs.Calls.{expect_seam}
use Rattle.statement.specs.declared.declarations.Tags.{Tags}
use Rattle.statement.specs.Post.{Given, given_tag, ValueOf, Valued}
use Rattle.statement.proofs.Spare.{written_moved, expression_spares}
use Rattle.fallible.specs.declared.error.Error.{Error}

-- ---- after the expression

-- an expression without errors, whose records begin at i, and what the rule k makes of it
pub record ReadsAfter (w x : List ℕ) (n d : ℕ) (k : Node → Act (Ans Node)) (i : ℕ) (o : List ℕ) (r f : List Error) (s : State) (o' : List ℕ) (r' f' : List Error) (y : Answer) : Type 0 where
  pub moved : Moved w n i s.reported s y.state
  pub is : (rd : List Consumed) (T : List ℕ) (e : Node) → length T ≡ i → take s.pos o ≡ T ++ recs_bytes e.recs
      → Shows node T (errs r s.reported) [] [] w x n o' r' f' y (go d (k e) (st_of w x n f rd s))

-- a node, at any place
abbrev any_node : View Node
any_node = record { recs = λ y. y.recs; fine = λ l c y. Unit {0} }

module _ {w x : List ℕ} {n d : ℕ} {o : List ℕ} {r f : List Error} {s : State} {t : Token} {i : ℕ} {place : Place}
    (q : Asked w n o r f s) (hi : i ≤ s.pos) (u : Seen w x n s.at t) where
  -- `=` or `<-`, a value parsed by m, `;`: X is what `expect(..)?` ensures, or that the call before it stopped
  module _ {o1 : List ℕ} {r1 f1 r2 r3 f2 : List Error} {o2 : List ℕ} {a b c y : Answer} {m : Act (Ans Node)} (tag : Tag) (B : Reads node w x n d m o r f (fore s t) o1 r1 f1 a) (C : Abandoned r1 a i s.reported s.reported r2 b) (lr : length r2 ≡ length r) (lf : length f1 ≡ length f)
      (X : Follows n r2 f1 b i s.reported → Expected w n 50 i s.reported r2 f1 b r3 f2 c) (F : NodeWritten o1 c (placed place tag None []) o2 y) where
    assigned_after : 0 < kind_number t.kind
        → ((e : Node) (rd : List Consumed)
        → go d (P.after_expression (place_of place) e) (st_of w x n f rd s)
        ≡ go d
        (m >>? λ v. P.expect 50 >>? λ _. wrapped node e.recs [] (tag_number tag) (λ _. place_of place) (λ _. []) [] v)
        (st_of w x n f (past w x n s.at rd) (fore s t)))
        → ReadsAfter w x n d (P.after_expression (place_of place)) i o r f s o2 r3 f2 y
    assigned_after k step =
        let M : Moved w n i s.reported (fore s t) b.state = abandoned_moved B.moved C in
        let p : Follows n r2 f1 b i s.reported = record {
          asks = asks_moved q.asks (moved_trans (fore_moved q.asks u) M) lr lf;
          pos = C.low;
          reported = C.first;
        } in
        let Y = X p in
        record {
          moved = node_written_moved (moved_trans (fore_moved q.asks u) (moved_trans M Y.moved))
              (omega (arith, Y.moved, M, u.pays, k)) F;
          is = λ rd T e li tree.
              let v : Fallible Node → Act (Ans Node) = wrapped node e.recs [] (tag_number tag) (λ _. place_of place) (λ _. []) [] in
              let lj : length (errs r s.reported) ≡ s.reported = errs_length r s.reported (omega (arith, q.asks)) in
              say (step e rd ∙ go_bind d m (or_return (λ z. P.expect 50 >>? λ _. v z)) _
              ∙ expect_seam d plain 50 v (go d m (st_of w x n f (past w x n s.at rd) (fore s t))))
              (writes_node d (λ _. place_of place) (λ _. []) [] F (λ _ _. refl)
              (expects_after p Y plain d li lj
              (abandons {T = T} {E = errs r s.reported} tree (sym (append-nil (errs r s.reported))) li lj
              lj C (omega (arith, B.moved.pos, hi)) B.moved.reported (B.is (past w x n s.at rd)))));
        }

  module _ {o1 : List ℕ} {r1 f1 r2 r3 f2 : List Error} {o2 : List ℕ} {a b c y : Answer} (h : kind_number t.kind ≡ 26) (B : Reads node w x n d P.parse_expression o r f (fore s t) o1 r1 f1 a) (C : Abandoned r1 a i s.reported s.reported r2 b) (lr : length r2 ≡ length r) (lf : length f1 ≡ length f)
      (X : Follows n r2 f1 b i s.reported → Expected w n 50 i s.reported r2 f1 b r3 f2 c) (F : NodeWritten o1 c (placed place Tag.Assignment None []) o2 y) where
    assignment_after : ReadsAfter w x n d (P.after_expression (place_of place)) i o r f s o2 r3 f2 y
    unfolding go run P.after_expression
    assignment_after =
        assigned_after Tag.Assignment B C lr lf X F (omega (arith, h)) (λ e rd. rw (run, yes u h)
        (ap (λ (S : St). go d (P.parse_expression >>? λ v. P.expect 50 >>? λ _. wrapped node e.recs [] 0x43
        (λ _. place_of place) (λ _. []) [] v) S) (adv s u (λ _. plain) f rd _)))

  module _ {o1 : List ℕ} {r1 f1 r2 r3 f2 : List Error} {o2 : List ℕ} {a b c y : Answer} (h : kind_number t.kind ≡ 52) (B : Reads node w x n d P.parse_compound o r f (fore s t) o1 r1 f1 a) (C : Abandoned r1 a i s.reported s.reported r2 b) (lr : length r2 ≡ length r) (lf : length f1 ≡ length f)
      (X : Follows n r2 f1 b i s.reported → Expected w n 50 i s.reported r2 f1 b r3 f2 c) (F : NodeWritten o1 c (placed place Tag.CompoundAssignment None []) o2 y) where
    compound_after : ReadsAfter w x n d (P.after_expression (place_of place)) i o r f s o2 r3 f2 y
    unfolding go run P.after_expression
    compound_after =
        assigned_after Tag.CompoundAssignment B C lr lf X F (omega (arith, h))
        (λ e rd. rw (run, no {k = 26} u (λ e. omega (arith, h)), yes u h)
        (ap (λ (S : St). go d (P.parse_compound >>? λ v. P.expect 50 >>? λ _. wrapped node e.recs [] 0x44
        (λ _. place_of place) (λ _. []) [] v) S) (adv s u (λ _. plain) f rd _)))

-- `;`
followed : {w : List ℕ} {n i : ℕ} {o : List ℕ} {r f : List Error} {a : Answer} → Asked w n o r f a.state → i ≤ a.state.pos
    → Follows n r f a i a.state.reported
followed q hi = record { asks = q.asks; pos = hi; reported = omega arith }

module _ {w x : List ℕ} {n d : ℕ} {o : List ℕ} {r f : List Error} {t : Token} {i : ℕ} {place : Place} {a : Answer}
    (q : Asked w n o r f a.state) (hi : i ≤ a.state.pos) (u : Seen w x n a.state.at t)
    (z : a.status ≡ Done) where
  pub expression_after : {r2 f2 : List Error} {o2 : List ℕ} {b y : Answer} → (kind_number t.kind ≡ 26 → ⊥) → (kind_number t.kind ≡ 52 → ⊥)
      → Expected w n 50 i a.state.reported r f a r2 f2 b → NodeWritten o b (placed place Tag.Expression None []) o2 y
      → ReadsAfter w x n d (P.after_expression (place_of place)) i o r f a.state o2 r2 f2 y
  unfolding go run P.after_expression
  expression_after {b = b} {y = y} m26 m52 X F =
      record {
        moved = written_moved X.moved (λ z. let one : done_of b.status ≡ 1 = rw z in omega (arith, X.high, X.pays)) F;
        is = λ rd T e li tree.
            let v : Fallible Node → Act (Ans Node) = wrapped any_node [] [] 0x41 (λ _. place_of place) (λ _. []) [] in
            let A : Shows any_node T (errs r a.state.reported) [] [] w x n o r f a (gives (ok (record { item = e; errors = [] })) (st_of w x n f rd a.state)) =
            is_good z (record {
              item = e;
              errors = [];
              read = rd;
              is = refl;
              tree = tree;
              reported = sym (append-nil (errs r a.state.reported));
              holds = tt;
            }) in
            say (rw (run, no u m26, no u m52) (expect_seam d plain 50 v
            (gives (ok (record { item = e; errors = [] })) (st_of w x n f rd a.state))))
            (writes_node d (λ _. place_of place) (λ _. []) [] F (λ _ _. refl)
            (expects_after (followed q hi) X plain d li
            (errs_length r a.state.reported (omega (arith, q.asks))) A));
      }

  -- where `abandon` was called before `expect`: it did nothing
  nothing_after : {r1 r2 f2 : List Error} {o2 : List ℕ} {c b y : Answer} → (kind_number t.kind ≡ 26 → ⊥) → (kind_number t.kind ≡ 52 → ⊥)
      → Abandoned r a i a.state.reported a.state.reported r1 c
      → (Follows n r1 f c i a.state.reported → Expected w n 50 i a.state.reported r1 f c r2 f2 b)
      → NodeWritten o b (placed place Tag.Expression None []) o2 y
      → ReadsAfter w x n d (P.after_expression (place_of place)) i o r f a.state o2 r2 f2 y
  nothing_after {r1 = r1} {c = c} m26 m52 C X F =
      let kept = subst (λ (h : Status). AbandonedOf h r a i a.state.reported a.state.reported r1 c) z C.is in
      expression_after m26 m52 ((rw (kept.0, kept.1) at X) (followed q hi)) F

-- whichever there is
module _ {w x : List ℕ} {n d : ℕ} {o : List ℕ} {r f : List Error} {s : State} {i : ℕ} {place : Place} {tags : Tags} {tag : Tag} {o1 : List ℕ} {r1 f1 r2 r3 f2 : List Error} {o2 : List ℕ} {a b c y : Answer}
    (q : Asked w n o r f s) (hi : i ≤ s.pos) (V : Valued w x n d tags o r f s o1 r1 f1 a tag)
    (C : Abandoned r1 a i s.reported s.reported r2 b) (lr : length r2 ≡ length r) (lf : length f1 ≡ length f)
    (X : Follows n r2 f1 b i s.reported → Expected w n 50 i s.reported r2 f1 b r3 f2 c)
    (F : NodeWritten o1 c (placed place tag None []) o2 y) where
  pub valued_after : tags ≡ record { expression = Tag.Assignment; compound = Tag.CompoundAssignment; nothing = Tag.Expression }
      → ReadsAfter w x n d (P.after_expression (place_of place)) i o r f s o2 r3 f2 y
  valued_after e = one V.given (V.tagged ∙ ap (given_tag V.given) e) V.is
    where
      one : (g : Given) → tag ≡ given_tag g (record { expression = Tag.Assignment; compound = Tag.CompoundAssignment; nothing = Tag.Expression })
          → ValueOf g w x n d V.t o r f s o1 r1 f1 a
          → ReadsAfter w x n d (P.after_expression (place_of place)) i o r f s o2 r3 f2 y
      one Given.Expression e v = assignment_after q hi V.seen v.0 v.1 C lr lf X (rw e at F)
      one Given.Compound e v = compound_after q hi V.seen v.0 v.1 C lr lf X (rw e at F)
      one Given.Nothing e v =
          nothing_after q hi V.seen refl v.0.0 v.0.1 (rw (v.1.0, v.1.1.1.0) at C) (rw v.1.1.1.1 at X) (rw (e, v.1.1.0) at F)

-- ---- the expression, and what follows it

is_filled : (es : List Err) → 0 < length es → P.is_empty es ≡ false
is_filled [] h = absurd (omega arith)
is_filled (e ∷ es) h = refl

is_none : (es : List Err) → length es ≡ 0 → es ≡ []
is_none [] h = refl
is_none (e ∷ es) h = absurd (omega arith)

-- the continuation after the expression
abbrev on : S.Place → Fallible Node → Act (Ans Node)
on p e = when◌then◌else◌ (P.is_empty e.errors) (P.after_expression p e.item) (done (ok (P.wrap 0x41 p [] e)))

module _ {w x : List ℕ} {n d : ℕ} {o : List ℕ} {r f : List Error} {o1 : List ℕ} {r1 f1 : List Error} {s : State} {a : Answer} (parts : Parts w x n) (q : Asked w n o r f s)
    (B : Reads node w x n d P.parse_expression o r f s o1 r1 f1 a) where
  -- the number of its own errors
  own : length r1 ≡ length r → (es : List Err) → errs r1 a.state.reported ≡ errs r s.reported ++ es
      → a.state.reported ≡ s.reported + length es
  own lr es e =
      sym (errs_length r1 a.state.reported (omega (arith, q.asks, B.moved, lr))) ∙ ap length e
      ∙ length-append (errs r s.reported) es
      ∙ ap (λ (k : ℕ). k + length es) (errs_length r s.reported (omega (arith, q.asks)))

  module _ (place : Place) where
    pub statement_stops : Stopped a → Reads node w x n d (P.expression_statement (place_of place)) o r f s o1 r1 f1 a
    unfolding P.expression_statement
    statement_stops nd = then_stops (on (place_of place)) B nd

    module _ (z : a.status ≡ Done) (lo : length o1 ≡ length o) (lr : length r1 ≡ length r) where
      -- the expression has errors: the statement ends with it; else `after_expression` continues
      pub statement_errors : {o2 : List ℕ} {y : Answer} → s.reported < a.state.reported
          → NodeWritten o1 a (placed place Tag.Expression None []) o2 y
          → Reads node w x n d (P.expression_statement (place_of place)) o r f s o2 r1 f1 y
      unfolding go run P.expression_statement
      statement_errors {o2} {y} h F =
          let k : Fallible Node → Act (Ans Node) = wrapped node [] [] 0x41 (λ _. place_of place) (λ _. []) [] in
          record {
            moved = node_written_moved B.moved (omega (arith, expression_spares parts q B lo z)) F;
            on = omega (arith, F.at, B.on);
            is = λ rd.
                let g = good_of z (B.is rd) in
                let y : Fallible Node = record { item = g.item; errors = g.errors } in
                let m : P.is_empty g.errors ≡ false = is_filled g.errors (omega (arith, own lr g.errors g.reported, h)) in
                let step : go d (on (place_of place) y) (st_of w x n f1 g.read a.state) ≡ go d (k y) (st_of w x n f1 g.read a.state) =
                rw (run, m) in
                say (go_bind d P.parse_expression (or_return (on (place_of place))) (st_of w x n f rd s)
                ∙ follows d (on (place_of place)) g.is ∙ step ∙ sym (follows d k g.is))
                (writes_node d (λ _. place_of place) (λ _. []) [] F (λ _ _. refl) (B.is rd));
          }

      pub statement_after : {o2 : List ℕ} {r2 f2 : List Error} {y : Answer} → (s.reported < a.state.reported → ⊥)
          → ReadsAfter w x n d (P.after_expression (place_of place)) s.pos o1 r1 f1 a.state o2 r2 f2 y
          → Reads node w x n d (P.expression_statement (place_of place)) o r f s o2 r2 f2 y
      unfolding go run P.expression_statement
      statement_after {o2} {r2} {f2} {y} h G = record {
        moved = omega (arith, G.moved, B.moved);
        on = omega (arith, G.moved.at, B.on);
        is = λ rd.
            let g = good_of z (B.is rd) in
            let m : g.errors ≡ [] = is_none g.errors (omega (arith, own lr g.errors g.reported, h)) in
            let E : errs r1 a.state.reported ≡ errs r s.reported = g.reported ∙ ap
            (λ (es : List Err). errs r s.reported ++ es) m ∙ append-nil (errs r s.reported) in
            let step : go d (on (place_of place) (record { item = g.item; errors = g.errors })) (st_of w x n f1 g.read a.state) ≡ go d (P.after_expression (place_of place) g.item) (st_of w x n f1 g.read a.state) =
            rw (m, run) in
            say (go_bind d P.parse_expression (or_return (on (place_of place))) (st_of w x n f rd s)
            ∙ follows d (on (place_of place)) g.is ∙ step)
            (subst (λ (es : List Err). Shows node (take s.pos o) es [] [] w x n o2 r2 f2 y
            (go d (P.after_expression (place_of place) g.item) (st_of w x n f1 g.read a.state)))
            E (G.is g.read (take s.pos o) g.item (length-take-le s.pos o (omega (arith, q.room)))
            g.tree));
      }
