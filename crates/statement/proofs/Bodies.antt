-- Bodies: one law for each return of the functions. Assumes nothing.
use mathlib.Core.Path.{◌≡◌, refl, sym, ap, ◌∙◌, subst}
use mathlib.Core.List.{List, [], append-nil}
use Prim.Native.Nat.{ℕ, ◌≤◌}
use native.Mathlib.Omega.{arith}
use lib.ListN.{take}
use Rattle.definition.specs.Numbers.{kind_number}
use Rattle.definition.specs.Node.{recs_bytes}
use Rattle.definition.specs.Fallible.{Err, Ans}
use Rattle.definition.specs.Token.{Tok, next_token}
use Rattle.definition.specs.Act.{Items, done, make, Body, plain, Consumed, St, Res, gives, refused, after, run, ◌>>=◌}
use Rattle.definition.specs.Parser as P
use Rattle.definition.specs.Go.{go}
use Rattle.definition.proofs.Flat.{go_bind, go_loop}
use Rattle.fallible.specs.declared.parser.State.{State}
use Rattle.fallible.specs.Answer.{nowhere, Status, Done, Fatal, Answer}
use Rattle.fallible.specs.Lists.{err_of, error_at, errs}
use Rattle.fallible.specs.Answers.{noted, Raised}
use Rattle.steps.specs.declared.tokens.Token.{Token}
use Rattle.steps.specs.Tokens.{Held, rest, Seen}
use Rattle.steps.specs.Shows.{st_of, Asked, View, Good, Bad, ShowsOf, Shows, Reads, Expects, node, token, items}
use Rattle.steps.proofs.Records.{yes, no, other, fore, adv}
use Rattle.steps.proofs.Answers.{say, good_of}
use Rattle.leaves.specs.Leaves.{Counted}
use Rattle.leaves.proofs.Atoms.{Ended, Alive}
use Rattle.expression_laws.specs.Post.{as_answer, LoopOn}
use Rattle.expression_laws.proofs.Types.{moved_onward, paid}
use Rattle.expression_laws.proofs.Loops.{answered, not_fatal, refusal, loop_closed, loop_ended, loop_refused, loop_next}
use Rattle.statement.specs.Post.{ReadsBody, statements_on}
use Rattle.fallible.specs.declared.error.Error.{Error}

-- ---- `body`

-- a body is its brace, and what follows it
opening : (d : ℕ) (S : St)
    → go d (P.parse_body >>= as_answer) S
    ≡ after (go d (P.expect 39) S) (λ y T. go d (P.statements y >>= as_answer) T)
unfolding P.parse_body
opening d S =
    go_bind d P.parse_body as_answer S
    ∙ ap (λ (z : Res Items). answered d z) (go_bind d (P.expect 39) (λ y. P.statements y) S)
    ∙ one (go d (P.expect 39) S)
  where
    one : (z : Res (Ans Tok))
        → answered d (after z (λ y T. go d (P.statements y) T))
        ≡ after z (λ y T. go d (P.statements y >>= as_answer) T)
    one (gives y T) = sym (go_bind d (P.statements y) as_answer T)
    one (refused m) = refl

fatal_of : {A : Type 0} {K : View A} {T : List ℕ} {E : List Err} {w x : List ℕ} {n : ℕ} {o : List ℕ} {r f : List Error} {a : Answer}
    {q : Res (Ans A)}
    → a.status ≡ Fatal → Shows K T E [] [] w x n o r f a q → Bad T E w x n o r f a q
fatal_of {A} {K} {T} {E} {w} {x} {n} {o} {r} {f} {a} {q} z v = subst (λ (h : Status). ShowsOf h K T E [] [] w x n o r f a q) z v.told

module _ {w x : List ℕ} {n d : ℕ} {o : List ℕ} {r f r1 f1 : List Error} {s : State} {a : Answer} (held : Held w n)
    (e : Expects w n (λ role. P.expect_as role 39) r f s r1 f1 a) where
  pub body_refused : Ended a → ReadsBody w x n d o r f s o r1 f1 a
  body_refused h = record {
    moved = e.moved;
    on = e.on;
    spare = omega (arith, e.pos, paid s.at a.state.at held e.on x);
    never = not_fatal a.status h;
    is = λ rd. refusal h (λ m g. opening d _ ∙ rw g) (e.is x plain d rd o);
  }

  -- the brace is missing: a body without statements
  pub body_none : a.status ≡ Fatal → ReadsBody w x n d o r f s o r1 f1 (record { status = Done; state = a.state; place = nowhere; count = 0 })
  unfolding go run recs_bytes ◌>>=◌
  body_none z = record {
    moved = e.moved;
    on = e.on;
    spare = omega (arith, e.pos, paid s.at a.state.at held e.on x);
    never = λ y. let e : ◌≡◌ {A = ℕ} 0 1 = cc in omega arith;
    is = λ rd. one rd (fatal_of z (e.is x plain d rd o));
  }
    where
      one : (rd : List Consumed) → Bad (take s.pos o) (errs r s.reported) w x n o r1 f1 a (go d (P.expect 39) (st_of w x n f rd s))
          → Shows items (take s.pos o) (errs r s.reported) [] [] w x n o r1 f1
          (record { status = Done; state = a.state; place = nowhere; count = 0 })
          (go d (P.parse_body >>= as_answer) (st_of w x n f rd s))
      one rd i =
          record {
            told = record {
              item = P.no_items i.errors;
              errors = i.errors;
              read = i.read;
              is = opening d _ ∙ rw i.is;
              tree = i.tree ∙ sym (append-nil (take s.pos o));
              reported = i.reported;
              holds = refl;
            };
          }

  pub body_on : {o2 : List ℕ} {r2 f2 : List Error} {y : Answer} → a.status ≡ Done
      → LoopOn statements_on w x n d 0 o r1 f1 a.state o2 r2 f2 y → ReadsBody w x n d o r f s o2 r2 f2 y
  unfolding recs_bytes
  body_on {o2} {r2} {f2} {y} z u = record {
    moved = moved_onward e.moved u.moved;
    on = omega (arith, e.on, u.moved.at);
    spare = omega (arith, u.moved.room, e.pos, paid s.at a.state.at held e.on x);
    never = u.never;
    is = λ rd. one rd (good_of z (e.is x plain d rd o));
  }
    where
      one : (rd : List Consumed)
          → Good (token (next_token (rest w x n s.at))) (take s.pos o) (errs r s.reported) [] [] w x n o r1 f1
          a (go d (P.expect 39) (st_of w x n f rd s))
          → Shows items (take s.pos o) (errs r s.reported) [] [] w x n o2 r2 f2 y
          (go d (P.parse_body >>= as_answer) (st_of w x n f rd s))
      one rd i =
          say (opening d _ ∙ rw i.is)
          (u.is i.read (take s.pos o) (errs r s.reported) (P.no_items []) i.tree
          ((e.kept z).1 ∙ sym (append-nil (errs r s.reported))) refl)

-- ---- `body_rest`

module _ {w x : List ℕ} {n count : ℕ} {o : List ℕ} {r f : List Error} {s : State} {t : Token}
    (q : Asked w n o r f s × (count ≤ s.at)) (v : Seen w x n s.at t) where
  pub rest_closed : {d : ℕ} → kind_number t.kind ≡ 40
      → LoopOn statements_on w x n d count o r f s o r f
      (record { status = Done; state = fore s t; place = nowhere; count = count })
  unfolding go run P.body_turn
  rest_closed {d} z =
      loop_closed statements_on q v (λ rd l. go_loop d (Body l) (st_of w x n f rd s) ∙ rw (run, yes v z)
      (ap (λ (S : St). gives l S) (adv s v (λ _. plain) f rd _)))

  pub rest_end : {d : ℕ} {e : Error} {r1 f1 : List Error} {b : Answer} → kind_number t.kind ≡ 0 → err_of e ≡ error_at 13 nowhere 0 0
      → Raised (noted n s) r f s e r1 f1 b
      → LoopOn statements_on w x n d count o r f s o r1 f1
      (record { status = b.status; state = b.state; place = nowhere; count = count })
  unfolding go run P.body_turn
  rest_end {d} z i g =
      loop_ended statements_on q v g
      (λ rd l. go_loop d (Body l) (st_of w x n f rd s) ∙ rw (run, other v z 40 refl, yes v z)
      (ap (λ (X : Err). go d (make X (done (P.with_error l X))) (st_of w x n f rd s)) (sym i)))

  module _ {d : ℕ} {o1 : List ℕ} {r1 f1 : List Error} {b : Answer} (m40 : kind_number t.kind ≡ 40 → ⊥) (m0 : kind_number t.kind ≡ 0 → ⊥)
      (u : Reads node w x n d P.parse_statement o r f s o1 r1 f1 b) where
    -- a turn that parses a statement
    statement_turn : (rd : List Consumed) (l : Items)
        → go d (statements_on l) (st_of w x n f rd s)
        ≡ go d (P.parse_statement >>= λ a. statements_on (P.integrate l a)) (st_of w x n f rd s)
    unfolding go run P.body_turn ◌>>=◌
    statement_turn rd l = go_loop d (Body l) (st_of w x n f rd s) ∙ rw (run, no v m40, no v m0)

    pub rest_refused : Ended b → LoopOn statements_on w x n d count o r f s o1 r1 f1 b
    rest_refused h = loop_refused statements_on statements_on P.parse_statement statement_turn u h

    pub rest_next : {k : ℕ} {o3 : List ℕ} {r3 f3 : List Error} {y : Answer} → Alive b → Counted b.status count k
        → LoopOn statements_on w x n d k o1 r1 f1 b.state o3 r3 f3 y
        → LoopOn statements_on w x n d count o r f s o3 r3 f3 y
    rest_next h c l = loop_next statements_on P.parse_statement statement_turn u h c l
