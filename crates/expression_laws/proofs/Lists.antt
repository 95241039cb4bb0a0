-- One law for each return of `item` and `list`. Assumes nothing.
use mathlib.Core.Path.{◌≡◌, refl, sym, ap, ◌∙◌, subst}
use mathlib.Core.Logic.{◌⊎◌, inl, inr}
use mathlib.Core.List.{List, [], append-nil}
use Prim.Native.Nat.{ℕ, ◌≤◌, ◌<◌}
use native.Mathlib.Omega.{arith}
use lib.ListN.{length, take}
use Rattle.definition.specs.Numbers.{kind_number}
use Rattle.definition.specs.Node.{recs_bytes}
use Rattle.definition.specs.Fallible.{Err, Ans}
use Rattle.definition.specs.Token.{Tok, next_token}
use Rattle.definition.specs.Act as A
use Rattle.definition.specs.Act.{Node, Items, ListOf, Act, done, make, loop, plain, Consumed, St, Res, gives, refused, after, run, ◌>>=◌}
use Rattle.definition.specs.Parser as P
use Rattle.definition.specs.Go.{go}
use Rattle.definition.proofs.Flat.{go_loop, go_bind}
use Rattle.fallible.specs.declared.parser.State.{State}
use Rattle.fallible.specs.Answer.{nowhere, Status, Done, Fatal, Refused, Answer}
use Rattle.fallible.specs.Lists.{err_of, error_at, errs}
use Rattle.fallible.specs.Answers.{noted, Raised}
use Rattle.steps.specs.declared.tokens.Token.{Token}
use Rattle.steps.specs.Tokens.{Held, rest, Seen}
use Rattle.steps.specs.Shows.{st_of, Asked, ShowsOf, Shows, node, token, items, Reads, Expects}
use Rattle.steps.proofs.Records.{yes, no, fore, adv}
use Rattle.steps.proofs.Moves.{asked_moved}
use Rattle.steps.proofs.Answers.{Stopped, say, errs_join}
use Rattle.leaves.specs.declared.Listed.{Listed}
use Rattle.leaves.specs.declared.Listed.TheVariants as I
use Rattle.leaves.specs.Leaves.{listed_of, Counted, with_errors, Next, CommasOf, Commas}
use Rattle.leaves.proofs.Atoms.{Ended, Alive}
use Rattle.expression_laws.specs.Post.{as_answer, ReadsList, LoopOn, listed_on}
use Rattle.expression_laws.proofs.Types.{moved_onward, paid}
use Rattle.expression_laws.proofs.Loops.{answered, not_fatal, refusal, loop_ended, loop_closed, loop_refused, joined}
use Rattle.fallible.specs.declared.error.Error.{Error}

-- ---- `item`

pub item_argument : {w x : List ℕ} {n d : ℕ} {o o1 : List ℕ} {r f r1 f1 : List Error} {s : State} {a : Answer} {what : Listed}
    → (what ≡ I.Arguments) ⊎ (what ≡ I.ArrayValues) → Reads node w x n d P.parse_expression o r f s o1 r1 f1 a
    → Reads node w x n d (P.item (listed_of what)) o r f s o1 r1 f1 a
item_argument (inl z) u = rw z u
item_argument (inr z) u = rw z u

-- ---- `list`

-- a list is its opener, and the loop that starts with the errors of the opener
listing : (k : A.Listed) (d : ℕ) (S : St)
    → go d (P.parse_list k >>= as_answer) S
    ≡ after (go d (P.expect (P.opener k)) S)
    (λ y T. go d (loop (ListOf k (P.no_items (P.errors_of y))) done >>= as_answer) T)
unfolding P.parse_list
listing k d S =
    go_bind d (P.parse_list k) as_answer S
    ∙ ap (λ (z : Res Items). after z (λ i T. go d (as_answer i) T))
    (go_bind d (P.expect (P.opener k)) (λ y. loop (ListOf k (P.no_items (P.errors_of y))) done) S)
    ∙ one (go d (P.expect (P.opener k)) S)
  where
    one : (z : Res (Ans Tok))
        → after (after z (λ y T. go d (loop (ListOf k (P.no_items (P.errors_of y))) done) T))
        (λ i T. go d (as_answer i) T)
        ≡ after z (λ y T. go d (loop (ListOf k (P.no_items (P.errors_of y))) done >>= as_answer) T)
    one (gives y T) = sym (go_bind d (loop (ListOf k (P.no_items (P.errors_of y))) done) as_answer T)
    one (refused m) = refl

module _ {w x : List ℕ} {n wanted : ℕ} (k : A.Listed) {o : List ℕ} {r f r1 f1 : List Error} {s : State} {a : Answer}
    (held : Held w n) (q : Asked w n o r f s) (c : (wanted ≡ P.opener k) × (0 < wanted))
    (e : Expects w n (λ role. P.expect_as role wanted) r f s r1 f1 a) where
  opens : (d : ℕ) (rd : List Consumed)
      → Shows (token (next_token (rest w x n s.at))) (take s.pos o) (errs r s.reported) [] [] w x n o r1 f1 a
      (go d (P.expect (P.opener k)) (st_of w x n f rd s))
  opens d rd = rw (← c.0) (e.is x plain d rd o)

  -- a refusal at the opener is returned; else the loop runs
  pub list_refused : {d : ℕ} → Ended a → ReadsList w x n d k o r f s o r1 f1 a
  list_refused {d} h = record {
    moved = e.moved;
    on = e.on;
    spare = omega (arith, e.pos, paid s.at a.state.at held e.on x);
    never = not_fatal a.status h;
    is = λ rd. refusal h (λ m g. listing k d _ ∙ rw g) (opens d rd);
  }

  pub list_on : {d : ℕ} {o2 : List ℕ} {r2 f2 : List Error} {y : Answer} → Alive a
      → LoopOn (listed_on k) w x n d 0 o r1 f1 a.state o2 r2 f2 y → ReadsList w x n d k o r f s o2 r2 f2 y
  unfolding recs_bytes
  list_on {d} {o2} {r2} {f2} {y} h u = record {
    moved = moved_onward e.moved u.moved;
    on = omega (arith, e.on, u.moved.at);
    spare = omega (arith, u.moved.room, e.pos, paid s.at a.state.at held e.on x);
    never = u.never;
    is = λ rd. say (listing k d _) (one rd a.status h (opens d rd).told);
  }
    where
      one : (rd : List Consumed) (g : Status) → ((m : ℕ) → g ≡ Refused m → ⊥)
          → ShowsOf g (token (next_token (rest w x n s.at))) (take s.pos o) (errs r s.reported) [] [] w x n o
          r1 f1 a (go d (P.expect (P.opener k)) (st_of w x n f rd s))
          → Shows items (take s.pos o) (errs r s.reported) [] [] w x n o2 r2 f2 y
          (after (go d (P.expect (P.opener k)) (st_of w x n f rd s))
          (λ z S. go d (loop (ListOf k (P.no_items (P.errors_of z))) done >>= as_answer) S))
      one rd Done h i =
          rw i.is
          (u.is i.read (take s.pos o) (errs r s.reported) (P.no_items i.errors) i.tree i.reported
          refl)
      one rd Fatal h i =
          rw i.is (u.is i.read (take s.pos o) (errs r s.reported) (P.no_items i.errors)
          (i.tree ∙ sym (append-nil (take s.pos o))) i.reported refl)
      one rd (Refused m) h i = absurd (h m refl)

-- ---- its loop: one law for each way in which a turn ends

module _ {w x : List ℕ} {n count : ℕ} (k : A.Listed) {o : List ℕ} {r f : List Error} {s : State} {t : Token}
    (q : Asked w n o r f s × (count ≤ s.at)) (v : Seen w x n s.at t) where
  pub rest_end : {d : ℕ} {e : Error} {r1 f1 : List Error} {b : Answer} → kind_number t.kind ≡ 0 → err_of e ≡ error_at 14 nowhere 0 0
      → Raised (noted n s) r f s e r1 f1 b
      → LoopOn (listed_on k) w x n d count o r f s o r1 f1
      (record { status = b.status; state = b.state; place = nowhere; count = count })
  unfolding go run P.list_turn
  rest_end {d} z i g =
      loop_ended (listed_on k) q v g (λ rd l. go_loop d (ListOf k l) (st_of w x n f rd s) ∙ rw (run, yes v z)
      (ap (λ (X : Err). go d (make X (done (P.with_error l X))) (st_of w x n f rd s)) (sym i)))

  module _ {close : ℕ} (m0 : kind_number t.kind ≡ 0 → ⊥) (c : close ≡ P.closer k) where
    pub rest_closed : {d : ℕ} → kind_number t.kind ≡ close
        → LoopOn (listed_on k) w x n d count o r f s o r f
        (record { status = Done; state = fore s t; place = nowhere; count = count })
    unfolding go run P.list_turn
    rest_closed {d} z =
        loop_closed (listed_on k) q v
        (λ rd l. go_loop d (ListOf k l) (st_of w x n f rd s) ∙ rw (run, no v m0, yes v (z ∙ c))
        (ap (λ (S : St). gives l S) (adv s v (λ _. plain) f rd _)))

    module _ {d : ℕ} {o1 : List ℕ} {r1 f1 : List Error} {b : Answer} (mc : kind_number t.kind ≡ close → ⊥)
        (u : Reads node w x n d (P.item k) o r f s o1 r1 f1 b) where
      -- a turn that reads an item
      item_turn : (rd : List Consumed) (l : Items)
          → go d (listed_on k l) (st_of w x n f rd s)
          ≡ go d (P.item k >>= λ a. P.after_item k (P.integrate l a)) (st_of w x n f rd s)
      unfolding go run P.list_turn
      item_turn rd l = go_loop d (ListOf k l) (st_of w x n f rd s) ∙ rw (run, no v m0, no v (λ z. mc (z ∙ sym c)))

      pub rest_item : Ended b → LoopOn (listed_on k) w x n d count o r f s o1 r1 f1 b
      rest_item h = loop_refused (listed_on k) (P.after_item k) (P.item k) item_turn u h

      module _ (alive : Alive b) {r2 f2 : List Error} {a : Answer} (g : Commas w n r1 f1 b.state close r2 f2 a) where
        pub rest_comma : Stopped a → LoopOn (listed_on k) w x n d count o r f s o1 r2 f2 a
        rest_comma nd = record {
          moved = moved_onward u.moved g.moved;
          never =
              λ z. subst
              (λ (h : Status). CommasOf h w x n k r1 f1 b.state r2 f2 a.state d [] (P.no_items [])) z
              (g.is x k (sym c) d [] (P.no_items []));
          is =
              λ rd T E l et ee ec. let j = joined (listed_on k) (P.after_item k) (P.item k) item_turn u alive rd
              T E l et ee ec in
              say j.is
              (record { told = one T E j.read j.list a.status nd (g.is x k (sym c) d j.read j.list) });
        }
          where
            one : (T : List ℕ) (E : List Err) (rd : List Consumed) (l : Items) (h : Status)
                → (h ≡ Done → ⊥)
                → CommasOf h w x n k r1 f1 b.state r2 f2 a.state d rd l
                → ShowsOf h items T E [] [] w x n o1 r2 f2 a (answered d (go d (P.after_item k l) (st_of w x n f1 rd b.state)))
            one T E rd l Done nd i = absurd (nd refl)
            one T E rd l Fatal nd i = absurd i
            one T E rd l (Refused m) nd i = rw i

        pub rest_next : {m : ℕ} {o3 : List ℕ} {r3 f3 : List Error} {y : Answer} → a.status ≡ Done → Counted b.status count m
            → LoopOn (listed_on k) w x n d m o1 r2 f2 a.state o3 r3 f3 y
            → LoopOn (listed_on k) w x n d count o r f s o3 r3 f3 y
        rest_next {m} z cm h = record {
          moved = moved_onward (moved_onward u.moved g.moved) h.moved;
          never = h.never;
          is = λ rd T E l et ee ec.
              let j = joined (listed_on k) (P.after_item k) (P.item k) item_turn u alive rd T E l et ee ec in
              let i : Next w x n k r1 f1 b.state r2 f2 a.state d j.read j.list = subst
              (λ (h : Status). CommasOf h w x n k r1 f1 b.state r2 f2 a.state d j.read j.list) z
              (g.is x k (sym c) d j.read j.list) in
              say (j.is ∙ ap (answered d) i.is ∙ sym (go_bind d (listed_on k (with_errors j.list i.errors)) as_answer _))
              (h.is i.read T E (with_errors j.list i.errors)
              (ap (λ (p : ℕ). take p o1) g.pos ∙ j.tree)
              (errs_join E j.list.errors i.errors j.reported i.reported) (j.counts ∙ sym cm.is));
        }

-- ---- what their calls require

module _ {w x : List ℕ} {n d count : ℕ} {act : Act (Ans Node)} {o : List ℕ} {r f : List Error} {o1 : List ℕ} {r1 f1 : List Error} {s : State} {t : Token}
    {b : Answer} (q : Asked w n o r f s × (count ≤ s.at)) (v : Seen w x n s.at t) (m0 : kind_number t.kind ≡ 0 → ⊥)
    (u : Reads node w x n d act o r f s o1 r1 f1 b) where
  pub rest_asked : {close m : ℕ} {r2 f2 : List Error} {a : Answer} → Commas w n r1 f1 b.state close r2 f2 a
      → Counted b.status count m → length o1 ≡ length o → length r2 ≡ length r → length f2 ≡ length f
      → Asked w n o1 r2 f2 a.state × (m ≤ a.state.at)
  rest_asked g c lo l h = (
    asked_moved q.0 (moved_onward u.moved g.moved) lo l h,
    omega (arith, q.1, v.present, m0, u.on, g.moved.at, c.high),
  )
