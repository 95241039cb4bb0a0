-- Expecting one token: it is there, another token is, or the end. Assumes nothing.
use mathlib.Core.Path.{◌≡◌, refl, sym, ap}
use mathlib.Core.Bool.{Bool, true, false}
use mathlib.Core.List.{List, [], ◌++◌, append-nil}
use Prim.Native.Nat.{ℕ, ◌≤◌, ◌<◌}
use native.Mathlib.Omega.{arith}
use lib.Dec.{ltb}
use lib.ListN.{take}
use Rattle.definition.specs.Choice.{pick}
use Rattle.definition.specs.Node.{recs_bytes}
use Rattle.definition.specs.Fallible.{Ans}
use Rattle.definition.specs.Token.{Tok, next_token}
use Rattle.definition.specs.Act.{Act, Role, plain, Consumed, now_read, run}
use Rattle.definition.specs.Numbers.{kind_number}
use Rattle.definition.specs.Parser as P
use Rattle.definition.specs.Go.{go}
use Rattle.fallible.specs.declared.error.Error.{Error}
use Rattle.fallible.specs.declared.parser.State.{State}
use Rattle.fallible.specs.Answer.{nowhere, Status, Done, Fatal, Refused, done_of, Answer}
use Rattle.fallible.specs.Lists.{err_of, error_at, errs}
use Rattle.fallible.specs.Answers.{refused_at, one_more, making, raised, Raised}
use Rattle.definition.specs.Node.{Rec}
use Rattle.steps.specs.declared.tokens.Decoded.{Decoded}
use Rattle.steps.specs.Tokens.{rest, Peeked}
use Rattle.steps.specs.Shows.{Follows, ExpectedOf, Expected, st_of, Asks, Moved, token, Expects, NodeWrittenOf, NodeWritten}
use Rattle.steps.proofs.Moves.{making_moved, moved_trans}
use Rattle.steps.proofs.Decoding.{yes, no, other, fore, adv, asks_fore, fore_moved}
use Rattle.steps.proofs.Answers.{not_done, Stopped, say, raise_same, raise_shows}

-- ---- the answer of a raised error

raised_status : (n : ℕ) (s : State) → done_of (raised n s).status ≡ 0
raised_status n s = go (ltb s.full 255)
  where
    go : (b : Bool) → done_of (pick b (record { status = Fatal; state = one_more s; place = nowhere; count = 0 }) (refused_at n s 12)).status ≡ 0
    go true = refl
    go false = refl

-- an error writes nothing
pub making_pos : (h : Status) (n : ℕ) (s : State) → (making h n s).state.pos ≡ s.pos
making_pos h n s = go (ltb s.full 255)
  where
    go : (b : Bool) → (pick b (record { status = h; state = one_more s; place = nowhere; count = 0 }) (refused_at n s 12)).state.pos ≡ s.pos
    go true = refl
    go false = refl

module _ {w : List ℕ} {n : ℕ} {r f : List Error} {s : State} {t : Decoded} (q : Asks n r f s) (v : Peeked w n s.at t) where
  -- the token is there
  there : {m : Role → Act (Ans Tok)} {k : ℕ} (of : Role → Role) → 0 < k → kind_number t.kind ≡ k
      → ((x : List ℕ) (role : Role) (d : ℕ) (rd : List Consumed)
      → go d (m role) (st_of w x n f rd s)
      ≡ go d (P.good (next_token (rest w x n s.at)) [])
      (st_of w x n f (rd ++ now_read (λ _. of role) (rest w x n s.at)) (fore s t)))
      → Expects w n m r f s r f (record { status = Done; state = fore s t; place = t.place; count = 0 })
  unfolding go run recs_bytes
  there of g z h = record {
    moved = fore_moved q v;
    pos = refl;
    on = omega (arith, v.present);
    pays = omega arith;
    kept = λ _. (refl, refl);
    is =
        λ x role d rd o. say (h x role d rd) (record {
          told = record {
            item = next_token (rest w x n s.at);
            errors = [];
            read = rd ++ now_read (λ _. of role) (rest w x n s.at);
            is = refl;
            tree = sym (append-nil (take s.pos o));
            reported = sym (append-nil (errs r s.reported));
            holds = (refl, v.place x);
          };
        });
  }

  -- an error is raised after the token
  missing : {m : Role → Act (Ans Tok)} {e : Error} {r' f' : List Error} {a : Answer} (of : Role → Role)
      → Raised (raised n (fore s t)) r f (fore s t) e r' f' a
      → ((x : List ℕ) (role : Role) (d : ℕ) (rd : List Consumed)
      → go d (m role) (st_of w x n f rd s)
      ≡ go d (P.raise {A = Tok} (err_of e))
      (st_of w x n f (rd ++ now_read (λ _. of role) (rest w x n s.at)) (fore s t)))
      → Expects w n m r f s r' f' a
  missing {m} {e} {r'} {f'} {a} of g h =
      let mv : Moved w n s.pos s.reported s a.state = rw g.is
      (moved_trans (fore_moved q v) (making_moved {w = w} (asks_fore q v) Fatal)) in
      let nd : done_of a.status ≡ 0 = rw g.is (raised_status n (fore s t)) in
      let ps : a.state.pos ≡ s.pos = rw g.is (making_pos Fatal n (fore s t)) in
      let up : t.next ≤ a.state.at = rw g.is (making_moved {w = w} (asks_fore q v) Fatal).at in
      record {
        moved = mv;
        pos = ps;
        on = omega (arith, v.present);
        pays = omega arith;
        kept = λ z. absurd (omega (arith, nd, ap done_of z));
        is =
            λ x role d rd o. say (h x role d rd)
            (raise_shows (token (next_token (rest w x n s.at))) (asks_fore q v) g d
            (rd ++ now_read (λ _. of role) (rest w x n s.at)) o);
      }

  -- ---- `expect`

  pub expect_there : {k : ℕ} → 0 < k → kind_number t.kind ≡ k
      → Expects w n (λ role. P.expect_as role k) r f s r f
      (record { status = Done; state = fore s t; place = t.place; count = 0 })
  unfolding go run
  expect_there {k} g z = there (λ role. role) g z (λ x role d rd. rw (run, yes v z, v.tail))

  module _ {k : ℕ} {e : Error} {r' f' : List Error} {a : Answer} (m : kind_number t.kind ≡ k → ⊥) (g : Raised (raised n (fore s t)) r f (fore s t) e r' f' a) where
    pub expect_end : kind_number t.kind ≡ 0 → err_of e ≡ error_at 3 nowhere k 0 → Expects w n (λ role. P.expect_as role k) r f s r' f' a
    unfolding go run
    expect_end z i = missing (λ role. role) g (λ x role d rd. rw (run, no v m, yes v z) (raise_same d (sym i) (adv s v (λ _. role) f rd _)))

    pub expect_other : (kind_number t.kind ≡ 0 → ⊥) → err_of e ≡ error_at 2 t.place k (kind_number t.kind)
        → Expects w n (λ role. P.expect_as role k) r f s r' f' a
    unfolding go run
    expect_other z i =
        missing (λ role. role) g (λ x role d rd. rw (run, no v m, no v z)
        (raise_same d (rw (v.place, v.kind) (sym i)) (adv s v (λ _. role) f rd _)))

  -- ---- `expect_identifier`

  pub identifier_there : kind_number t.kind ≡ 1
      → Expects w n (λ role. P.expect_identifier) r f s r f
      (record { status = Done; state = fore s t; place = t.place; count = 0 })
  unfolding go run
  identifier_there z = there (λ role. plain) (omega arith) z (λ x role d rd. rw (run, yes v z, v.tail))

  module _ {e : Error} {r' f' : List Error} {a : Answer} (g : Raised (raised n (fore s t)) r f (fore s t) e r' f' a) where
    pub identifier_end : kind_number t.kind ≡ 0 → err_of e ≡ error_at 5 nowhere 0 0 → Expects w n (λ role. P.expect_identifier) r f s r' f' a
    unfolding go run
    identifier_end z i =
        missing (λ role. plain) g
        (λ x role d rd. rw (run, other v z 1 refl, yes v z) (raise_same d (sym i) (adv s v (λ _. plain) f rd _)))

    pub identifier_other : (kind_number t.kind ≡ 1 → ⊥) → (kind_number t.kind ≡ 0 → ⊥) → err_of e ≡ error_at 4 t.place 0 0
        → Expects w n (λ role. P.expect_identifier) r f s r' f' a
    unfolding go run
    identifier_other m z i =
        missing (λ role. plain) g
        (λ x role d rd. rw (run, no v m, no v z) (raise_same d (rw v.place (sym i)) (adv s v (λ _. plain) f rd _)))

-- ---- `expect` after an answer

module _ {w : List ℕ} {n k i j : ℕ} {r f : List Error} {a : Answer} (q : Follows n r f a i j) where
  -- a fatal or refused answer is returned
  pub expected_stop : Stopped a → Expected w n k i j r f a r f a
  expected_stop nd = record {
    moved =
        record {
          at = omega arith;
          end = q.asks.at;
          pos = q.pos;
          room = omega arith;
          reported = q.reported;
          less = omega arith;
          full = omega arith;
          few = q.asks.few;
        };
    high = omega arith;
    pays = omega (arith, not_done a.status nd);
    is = one a.status nd;
  }
    where
      one : (h : Status) → (h ≡ Done → ⊥) → ExpectedOf h w n k i j r f a r f a
      one Done nd = absurd (nd refl)
      one Fatal nd = (refl, (refl, refl))
      one (Refused m) nd = (refl, (refl, refl))

-- ---- a record after an answer

module _ {o : List ℕ} {a : Answer} {v : Rec} where
  -- after a fatal or refused answer nothing is written; after a good one the record is
  pub write_node_stop : Stopped a → NodeWritten o a v o a
  write_node_stop nd = record { at = refl; reported = refl; full = refl; low = omega arith; high = omega arith; is = one a.status nd }
    where
      one : (h : Status) → (h ≡ Done → ⊥) → NodeWrittenOf h o a v o a
      one Done nd = absurd (nd refl)
      one Fatal nd = (refl, refl)
      one (Refused m) nd = (refl, refl)
