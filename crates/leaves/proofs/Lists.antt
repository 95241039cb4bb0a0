-- One law for each return of `counted` and `comma`. Assumes nothing.
use mathlib.Core.Path.{◌≡◌, refl, sym, ◌∙◌}
use mathlib.Core.List.{List, [], ◌∷◌, ◌++◌, append-nil}
use Prim.Native.Nat.{ℕ}
use Rattle.definition.specs.Fallible.{Err}
use Rattle.definition.specs.Act.{Items, Listed, done, make, loop, ListOf, plain, Consumed, St, now_read, run}
use Rattle.definition.specs.Numbers.{kind_number}
use Rattle.definition.specs.Parser as P
use Rattle.definition.specs.Go.{go}
use Rattle.fallible.specs.declared.parser.State.{State}
use Rattle.fallible.specs.Answer.{nowhere, Done, Answer}
use Rattle.fallible.specs.Lists.{err_of, error_at}
use Rattle.fallible.specs.Answers.{noted, Raised}
use Rattle.steps.specs.declared.tokens.Decoded.{Decoded}
use Rattle.steps.specs.Tokens.{rest, Peeked}
use Rattle.steps.specs.Shows.{st_of, Asks, Moved}
use Rattle.steps.proofs.Moves.{stays, making_moved, moved_trans}
use Rattle.steps.proofs.Decoding.{yes, no, fore, adv, asks_fore, fore_moved}
use Rattle.leaves.specs.Leaves.{CommasOf, Commas}
use Rattle.leaves.proofs.Errors.{made_so, makes, makes_none}
use Rattle.fallible.specs.declared.error.Error.{Error}

make_same : (d : ℕ) (k : Listed) (i : Items) {X Y : Err} {S S' : St} → X ≡ Y → S ≡ S'
    → go d (make X (loop (ListOf k (P.with_error i X)) done)) S
    ≡ go d (make Y (loop (ListOf k (P.with_error i Y)) done)) S'
make_same d k i p q = rw (p, q)

module _ {w : List ℕ} {n : ℕ} {r f : List Error} {s : State} {close : ℕ} {t : Decoded} (q : Asks n r f s) (v : Peeked w n s.at t) where
  -- no error is made, and the list continues
  goes : {s' : State} (read : List ℕ → Listed → List Consumed → List Consumed) → Moved w n s.pos s.reported s s'
      → s'.pos ≡ s.pos → s'.reported ≡ s.reported
      → ((x : List ℕ) (k : Listed) → P.closer k ≡ close → (d : ℕ) (rd : List Consumed) (i : Items)
      → go d (P.after_item k i) (st_of w x n f rd s)
      ≡ go d (loop (ListOf k i) done) (st_of w x n f (read x k rd) s'))
      → Commas w n r f s close r f (record { status = Done; state = s'; place = nowhere; count = 0 })
  goes read m p e h =
      record {
        moved = m;
        pos = p;
        is = λ x k ck d rd i.
            record { errors = []; read = read x k rd; is = h x k ck d rd i ∙ rw append-nil; reported = rw (e, append-nil) };
      }

  pub comma_there : kind_number t.kind ≡ 53 → Commas w n r f s close r f (record { status = Done; state = fore s t; place = nowhere; count = 0 })
  unfolding go run P.after_item
  comma_there z =
      goes (λ x k rd. rd ++ now_read (P.comma_role k) (rest w x n s.at)) (fore_moved q v) refl refl
      (λ x k ck d rd i. rw (run, yes v z, v.tail))

  module _ (m : kind_number t.kind ≡ 53 → ⊥) where
    pub comma_close : kind_number t.kind ≡ close → Commas w n r f s close r f (record { status = Done; state = s; place = nowhere; count = 0 })
    unfolding go run P.after_item
    comma_close z = goes (λ x k rd. rd) (stays q) refl refl (λ x k ck d rd i. rw (run, no v m, yes v (z ∙ sym ck)))

    module _ (mc : kind_number t.kind ≡ close → ⊥) where
      pub comma_end : kind_number t.kind ≡ 0 → Commas w n r f s close r f (record { status = Done; state = s; place = nowhere; count = 0 })
      unfolding go run P.after_item
      comma_end z = goes (λ x k rd. rd) (stays q) refl refl (λ x k ck d rd i. rw (run, no v m, no v (λ y. mc (y ∙ ck)), yes v z))

      module _ {e : Error} {r' f' : List Error} {a : Answer} (z : kind_number t.kind ≡ 0 → ⊥)
          (u : err_of e ≡ error_at 15 t.place 0 (kind_number t.kind))
          (g : Raised (noted n (fore s t)) r f (fore s t) e r' f' a) where
        -- the token is consumed, and the error made
        passed : (x : List ℕ) (k : Listed) → P.closer k ≡ close → (d : ℕ) (rd : List Consumed) (i : Items)
            → go d (P.after_item k i) (st_of w x n f rd s)
            ≡ go d (make (err_of e) (loop (ListOf k (P.with_error i (err_of e))) done))
            (st_of w x n f (rd ++ now_read (λ _. plain) (rest w x n s.at)) (fore s t))
        unfolding go run P.after_item
        passed x k ck d rd i =
            rw (run, no v m, no v (λ y. mc (y ∙ ck)), no v z)
            (make_same d k i (rw (v.place, v.kind) (sym u)) (adv s v (λ _. plain) f rd _))

        pub comma_other : Commas w n r f s close r' f' a
        comma_other = record {
          moved = rw g.is (moved_trans (fore_moved q v) (making_moved (asks_fore q v) Done));
          pos = made_so Done n (fore s t) (λ y. y.state.pos ≡ s.pos) g.is (λ l. refl) (λ l. refl);
          is = λ x k ck d rd i. made_so Done n (fore s t) (λ y. CommasOf y.status w x n k r f s r' f' y.state d rd i) g.is
              (λ l. record {
                errors = err_of e ∷ [];
                read = rd ++ now_read (λ _. plain) (rest w x n s.at);
                is = passed x k ck d rd i
                    ∙ makes (asks_fore q v) g d (loop (ListOf k (P.with_error i (err_of e))) done)
                    (rd ++ now_read (λ _. plain) (rest w x n s.at)) w x l;
                reported = g.reported l;
              })
              (λ l. passed x k ck d rd i ∙ makes_none (asks_fore q v) g d
              (loop (ListOf k (P.with_error i (err_of e))) done)
              (rd ++ now_read (λ _. plain) (rest w x n s.at)) w x l);
        }
