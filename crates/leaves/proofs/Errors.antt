-- Making an error, with any continuation. Assumes nothing.
use mathlib.Core.Path.{◌≡◌, refl, sym, ap, subst}
use mathlib.Core.Bool.{Bool, true, false}
use mathlib.Core.List.{List, ◌++◌}
use Prim.Native.Nat.{ℕ, ◌≤◌, ◌<◌}
use native.Mathlib.Omega.{arith}
use lib.Dec.{ltb}
use lib.ListN.{length}
use borrow.Author.Tests.{ltb-true, ltb-false, lt-ltb, le-ltb}
use Rattle.definition.specs.Choice.{pick}
use Rattle.definition.specs.Fallible.{Err, Ans}
use Rattle.definition.specs.Act.{Act, make, Role, Consumed, refused, now_read, run}
use Rattle.definition.specs.Parser as P
use Rattle.definition.specs.Go.{go}
use Rattle.fallible.specs.declared.parser.State.{State}
use Rattle.fallible.specs.Answer.{nowhere, Status, Fatal, Answer}
use Rattle.fallible.specs.Lists.{err_of, errs}
use Rattle.fallible.specs.Answers.{refused_at, one_more, making, raised, Raised}
use Rattle.fallible.proofs.Grown.{errs_length}
use Rattle.steps.specs.declared.tokens.Token.{Token}
use Rattle.steps.specs.Tokens.{rest, Seen}
use Rattle.steps.specs.Shows.{st_of, Asks, View, Reads}
use Rattle.steps.proofs.Records.{fore}
use Rattle.steps.proofs.Moves.{asks_fore, fore_moved, making_moved, moved_trans}
use Rattle.steps.proofs.Answers.{say, raise_shows}
use Rattle.fallible.specs.declared.error.Error.{Error}

-- what holds of both possible answers holds of the answer made
pub made_so : {a : Answer} (h : Status) (n : ℕ) (s : State) (C : Answer → Type 0) → a ≡ making h n s
    → (s.full < 255 → C (record { status = h; state = one_more s; place = nowhere; count = 0 }))
    → (255 ≤ s.full → C (refused_at n s 12)) → C a
made_so h n s C e p c = subst C (sym e) (one (ltb s.full 255) refl)
  where
    one : (b : Bool) → ltb s.full 255 ≡ b → C (pick b (record { status = h; state = one_more s; place = nowhere; count = 0 }) (refused_at n s 12))
    one true l = p (ltb-true _ _ l)
    one false l = c (ltb-false _ _ l)

-- the definition makes the error and continues, or is refused
module _ {A : Type 0} {n : ℕ} {r f r' f' : List Error} {s : State} {e : Error} {c a : Answer}
    (q : Asks n r f s) (g : Raised c r f s e r' f' a) (d : ℕ) (m : Act A) (rd : List Consumed) (w x : List ℕ) where
  few : length (errs f s.full) ≡ s.full
  few = errs_length f s.full (omega arith)

  pub makes : s.full < 255 → go d (make (err_of e) m) (st_of w x n f rd s) ≡ go d m (st_of w x n f' rd (one_more s))
  unfolding go run
  makes h =
      rw (few, lt-ltb s.full 255 h, run)
      (ap (λ (z : List Err). go d m (record { tokens = rest w x n s.at; read = rd; full = z }))
      (sym (g.full h)))

  pub makes_none : 255 ≤ s.full → go d (make (err_of e) m) (st_of w x n f rd s) ≡ refused 12
  unfolding go run
  makes_none h = rw (few, le-ltb s.full 255 h, run)

-- an error is raised after a token
module _ {A : Type 0} {K : View A} {w x : List ℕ} {n : ℕ} {o : List ℕ} {r f r' f' : List Error} {s : State} {t : Token}
    {m : Act (Ans A)} {e : Error} {a : Answer} (q : Asks n r f s) (v : Seen w x n s.at t) (role : Role)
    (g : Raised (raised n (fore s t)) r f (fore s t) e r' f' a) (d : ℕ) where
  pub raise_reads : ((rd : List Consumed)
      → go d m (st_of w x n f rd s)
      ≡ go d (P.raise {A = A} (err_of e))
      (st_of w x n f (rd ++ now_read (λ _. role) (rest w x n s.at)) (fore s t)))
      → Reads K w x n d m o r f s o r' f' a
  raise_reads h = record {
    moved = rw g.is (moved_trans (fore_moved q v) (making_moved {w = w} (asks_fore q v) Fatal));
    on = let up : t.next ≤ a.state.at = rw g.is (making_moved {w = w} (asks_fore q v) Fatal).at in omega (arith, v.present, v.on);
    is = λ rd. say (h rd) (raise_shows K (asks_fore q v) g d (rd ++ now_read (λ _. role) (rest w x n s.at)) o);
  }
