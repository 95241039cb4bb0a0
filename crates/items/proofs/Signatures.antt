-- The parameters and the return type of a function: one law for each return of `return_type` and `signature`. Assumes nothing.
use mathlib.Core.Path.{◌≡◌, refl, sym, ap, ◌∙◌}
use mathlib.Core.List.{List, [], ◌++◌, append-nil}
use Prim.Native.Nat.{ℕ}
use native.Mathlib.Omega.{arith}
use lib.ListN.{length, take}
use lib.Seq.{length-take-le}
use Rattle.definition.specs.Numbers.{kind_number}
use Rattle.definition.specs.Source.{Place}
use Rattle.definition.specs.declared.place.Place as Declared
use Rattle.definition.specs.Node.{recs_bytes}
use Rattle.definition.specs.Fallible.{Fallible, Ans, ok}
use Rattle.definition.specs.Act as A
use Rattle.definition.specs.Act.{Act, Items, Node, plain, Consumed, St, gives, after, or_return, run, ◌>>=◌, ◌>>?◌}
use Rattle.definition.specs.Parser as P
use Rattle.definition.specs.Go.{go}
use Rattle.definition.specs.Places.{place_of}
use Rattle.definition.proofs.Flat.{go_bind}
use Rattle.definition.specs.declared.tag.Tag.{Tag}
use Rattle.fallible.proofs.Grown.{errs_length}
use Rattle.fallible.specs.declared.parser.State.{State}
use Rattle.fallible.specs.Answer.{nowhere, Done, Answer}
use Rattle.fallible.specs.Lists.{errs}
use Rattle.fallible.specs.Answers.{Abandoned}
use Rattle.fallible.specs.Orders.{Exchanged}
use Rattle.node.specs.Put.{placed}
use Rattle.node.specs.declared.Numbers.TheVariants.{None}
use Rattle.steps.specs.declared.tokens.Token.{Token}
use Rattle.steps.specs.Tokens.{budget, Seen}
use Rattle.steps.specs.Shows.{st_of, Asked, Moved, Good, Shows, Reads, node, items, NodeWritten}
use Rattle.steps.proofs.Records.{yes, no, fore, adv}
use Rattle.steps.proofs.Answers.{Stopped, say, good_of, is_good, stops, follows, abandons, writes_node}
use Rattle.expression_laws.specs.Post.{as_answer, ReadsList}
use Rattle.expression_laws.proofs.Types.{past, through}
use Rattle.statement.specs.Post.{up}
use Rattle.items.specs.Rules.{return_rule, signature_rule}
use Rattle.items.specs.Items.{ReadsType, ReadsSignature}
use Rattle.items.proofs.Orders.{still, turned}
use Rattle.fallible.specs.declared.error.Error.{Error}

-- ---- `return_type`

module _ {w x : List ℕ} {n d : ℕ} {o : List ℕ} {r f : List Error} {s : State} {t : Token} (u : Seen w x n s.at t) where
  pub type_given : {o1 : List ℕ} {r1 f1 : List Error} {y : Answer} {p : Place} → kind_number t.kind ≡ 51
      → Reads node w x n d P.parse_type o r f (fore s t) o1 r1 f1 y
      → ReadsType w x n d p o r f s o1 r1 f1 y
  unfolding go run
  type_given h B = record {
    moved = omega arith;
    is = λ rd. say (rw (run, yes u h) (ap (λ (S : St). go d P.parse_type S) (adv s u (λ _. plain) f rd _))) (B.is (past w x n s.at rd));
  }

  pub type_none : {o2 : List ℕ} {y : Answer} {place : Declared.Place} → Asked w n o r f s → (kind_number t.kind ≡ 51 → ⊥)
      → NodeWritten o (record { status = Done; state = s; place = place; count = 0 }) (placed place Tag.Void None []) o2 y
      → ReadsType w x n d (place_of place) o r f s o2 r f y
  unfolding go run recs_bytes
  type_none {o2} {y} {place} q m F =
      let e : budget w n y.state.at ≡ budget w n s.at = ap (λ (k : ℕ). budget w n k) F.at in
      let none : Fallible Node = record { item = record { place = place_of place; recs = [] }; errors = [] } in
      record {
        moved = omega arith;
        is = λ rd.
            say (rw (run, no u m))
            (writes_node {K = node} {rs = []} {es = []} {q = gives (ok none) (st_of w x n f rd s)} d (λ _. place_of place) (λ _. []) [] F (λ i _. refl)
            (record {
              told = record {
                item = none.item;
                errors = [];
                read = rd;
                is = refl;
                tree = sym (append-nil (take s.pos o));
                reported = sym (append-nil (errs r s.reported));
                holds = refl;
              };
            }));
      }

-- ---- `signature`

-- the items of a signature: the parameters e and the type t
abbrev pub signing : Fallible Items → Fallible Node → Act (Ans Items)
signing e t = as_answer (record { count = e.item.count; recs = e.item.recs ++ t.item.recs; errors = t.errors ++ e.errors })

-- the continuation after the parameters
abbrev typing : Place → Fallible Items → Act (Ans Items)
typing p e = return_rule p >>? signing e

listed : (d : ℕ) (p : Place) (S : St)
    → go d (signature_rule p) S
    ≡ after (go d (P.parse_list A.Parameters >>= as_answer) S) (λ z S. go d (or_return (typing p) z) S)
unfolding signature_rule
listed d p S = through d (P.parse_list A.Parameters) _ (typing p) (λ i. refl) S

module _ {w x : List ℕ} {n d : ℕ} {p : Place} {o : List ℕ} {r f : List Error} {o1 : List ℕ} {r1 f1 : List Error} {s : State} {a : Answer}
    (q : Asked w n o r f s) (B : ReadsList w x n d A.Parameters o r f s o1 r1 f1 a) where
  pub signature_stops : Stopped a → ReadsSignature w x n d p o r f s o1 r1 f1 a
  signature_stops nd = record {
    moved = omega arith;
    is = λ rd. say (listed d p (st_of w x n f rd s)) (stops d (typing p) _ nd (B.is rd));
  }

  module _ {o2 : List ℕ} {r2 f2 : List Error} {b : Answer} (lr : length r1 ≡ length r) (R : ReadsType w x n d p o1 r1 f1 a.state o2 r2 f2 b) where
    module _ {r3 : List Error} {c : Answer} (C : Abandoned r2 b s.pos s.reported a.state.reported r3 c) where
      signature_moved : Moved w n s.pos s.reported (up 7 s) c.state
      signature_moved =
          let e : budget w n c.state.at ≡ budget w n b.state.at = ap (λ (k : ℕ). budget w n k) C.at in
          omega arith

      module _ (rd : List Consumed)
          (g : Good items (take s.pos o) (errs r s.reported) [] [] w x n o1 r1 f1 a (go d (P.parse_list A.Parameters >>= as_answer) (st_of w x n f rd s))) where
        -- the type after the parameters
        typed_after : Shows node (take s.pos o) (errs r s.reported) g.item.recs g.errors w x n o2 r3 f2 c
            (go d (return_rule p) (st_of w x n f1 g.read a.state))
        typed_after =
            abandons {T = take s.pos o} {E = errs r s.reported} g.tree g.reported
            (length-take-le s.pos o (omega arith))
            (errs_length r s.reported (omega arith))
            (errs_length r1 a.state.reported (omega arith)) C
            (omega arith) (omega arith) (R.is g.read)

        typed_step : go d (signature_rule p) (st_of w x n f rd s)
            ≡ after (go d (return_rule p) (st_of w x n f1 g.read a.state))
            (λ z S. go d (or_return (signing (record { item = g.item; errors = g.errors })) z) S)
        typed_step =
            listed d p (st_of w x n f rd s) ∙ follows d (typing p) g.is
            ∙ go_bind d (return_rule p) (or_return (signing (record { item = g.item; errors = g.errors })))
            (st_of w x n f1 g.read a.state)

      -- a fatal or refused type is returned
      pub signature_untyped : a.status ≡ Done → Stopped c → ReadsSignature w x n d p o r f s o2 r3 f2 c
      signature_untyped z nd = record {
        moved = signature_moved;
        is =
            λ rd. let g = good_of z (B.is rd) in
            say (typed_step rd g)
            (stops d (signing (record { item = g.item; errors = g.errors })) _ nd (typed_after rd g));
      }

      pub signature_reads : {r4 : List Error} → a.status ≡ Done → c.status ≡ Done
          → Exchanged r3 s.reported a.state.reported c.state.reported r4
          → ReadsSignature w x n d p o r f s o2 r4 f2
          (record { status = c.status; state = c.state; place = nowhere; count = a.count })
      unfolding go run
      signature_reads z y X =
          let e : c.state.reported ≡ b.state.reported = ap (λ (z : Answer). z.state.reported) (still C y) in
          record {
            moved = signature_moved;
            is = λ rd.
                let g = good_of z (B.is rd) in
                let v = good_of y (typed_after rd g) in
                say (typed_step rd g ∙ follows d (signing (record { item = g.item; errors = g.errors })) v.is)
                (is_good y
                (record {
                  item = record { count = g.item.count; recs = g.item.recs ++ v.item.recs; errors = v.errors ++ g.errors };
                  errors = v.errors ++ g.errors;
                  read = v.read;
                  is = refl;
                  tree = v.tree;
                  reported =
                      turned (errs r s.reported) g.errors v.errors X B.moved.reported
                      (omega arith)
                      (errs_length r s.reported (omega arith)) (ap length (sym g.reported)
                      ∙ errs_length r1 a.state.reported (omega arith)) v.reported;
                  holds = g.holds;
                }));
          }
