-- Constructs of several parts: what follows an answer, an operand joined to another, a counted call. Assumes nothing.
use mathlib.Core.Path.{◌≡◌, refl, sym, ◌∙◌}
use mathlib.Core.List.{List}
use Prim.Native.Nat.{ℕ, zero, suc, ◌-◌, ◌≤◌}
use native.Mathlib.Omega.{arith}
use lib.ListN.{length}
use lib.Seq.{length-take-le}
use Rattle.definition.specs.Fallible.{Fallible, Ans, ok, fatal}
use Rattle.definition.specs.Act.{Act, done, call, Goal, St, Res, gives, refused, after, or_return, run, ◌>>?◌}
use Rattle.definition.specs.Parser.{parse, rule}
use Rattle.definition.specs.Go.{go}
use Rattle.definition.proofs.Flat.{go_call, go_rule, go_bind}
use Rattle.fallible.proofs.Grown.{errs_length}
use Rattle.fallible.specs.declared.parser.State.{State}
use Rattle.fallible.specs.declared.error.Error.{Error}
use Rattle.fallible.specs.Answer.{Answer}
use Rattle.fallible.specs.Answers.{refused_at}
use Rattle.steps.specs.Shows.{Asks, View, Reads, Goes, node}
use Rattle.steps.proofs.Records.{present_within}
use Rattle.steps.proofs.Moves.{refused_moved}
use Rattle.steps.proofs.Answers.{Stopped, say, stops}

-- ---- the counted calls

module _ {w x : List ℕ} {n d : ℕ} {o : List ℕ} {r f : List Error} {s : State} (g : Goal) where
  -- no more call may be opened: refused; else the rule is parsed with one less
  pub deep : {a : Answer} → Asks n r f s → d ≡ 0 → a ≡ refused_at n s 10 → Reads node w x n d (call g done) o r f s o r f a
  unfolding parse
  deep q z e =
      rw e (record {
        moved = refused_moved q 10;
        on = present_within n s.at q.at;
        is = λ rd. record { told = rw z (go_call 0 g _) };
      })

  pub down : {o' : List ℕ} {r' f' : List Error} {a : Answer} → (d ≡ 0 → ⊥) → Reads node w x n (d - 1) (rule g) o r f s o' r' f' a
      → Reads node w x n d (call g done) o r f s o' r' f' a
  down z u = record { moved = u.moved; on = u.on; is = λ rd. say (one d z _) (u.is rd) }
    where
      one : (d : ℕ) → (d ≡ 0 → ⊥) → (S : St) → go d (call g done) S ≡ go (d - 1) (rule g) S
      one zero z S = absurd (z refl)
      one (suc d) z S = let e : suc d - 1 ≡ d = omega arith in rw e (go_call (suc d) g S ∙ go_rule d g S)

-- ---- what follows an answer

-- continuing with `g (h e)` is continuing with f, which gives `h e`, and then with g
pub seam : {A B C : Type 0} (d : ℕ) (f : Fallible A → Act (Ans B)) (g : Fallible B → Act (Ans C))
    (h : Fallible A → Fallible B)
    → ((e : Fallible A) → f e ≡ done (ok (h e))) → (q : Res (Ans A))
    → after q (λ z S. go d (or_return (λ e. g (h e)) z) S) ≡ after (after q (λ z S. go d (or_return f z) S)) (λ z S. go d (or_return g z) S)
unfolding go run
seam d f g h e (gives (ok y) S) = sym (rw (e y))
seam d f g h e (gives (fatal es) S) = refl
seam d f g h e (refused n) = refl

module _ {A B : Type 0} {K : View A} {L : View B} {w x : List ℕ} {n d : ℕ} {m : Act (Ans A)}
    (k : Fallible A → Act (Ans B)) {o : List ℕ} {r f : List Error} {o' : List ℕ} {r' f' : List Error} {s : State} {a : Answer}
    (u : Reads K w x n d m o r f s o' r' f' a) where
  -- the answer is returned by `?`
  pub then_stops : Stopped a → Reads L w x n d (m >>? k) o r f s o' r' f' a
  then_stops nd = record { moved = u.moved; on = u.on; is = λ rd. say (go_bind d m (or_return k) _) (stops d k _ nd (u.is rd)) }

  -- a function continues the answer
  pub then_goes : {o'' : List ℕ} {r'' f'' : List Error} {y : Answer} → s.pos ≤ length o → s.reported ≤ length r
      → Goes K L w x n d k s.pos s.reported o' r' f' a o'' r'' f'' y
      → Reads L w x n d (m >>? k) o r f s o'' r'' f'' y
  then_goes h g v =
      record {
        moved = omega (arith, u.moved, v.moved);
        on = omega (arith, u.on, v.moved.at);
        is = λ rd. say (go_bind d m (or_return k) _)
            (v.is _ _ _ (length-take-le s.pos o h) (errs_length r s.reported g) (u.is rd));
      }
