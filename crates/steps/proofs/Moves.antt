-- How the numbers of a state change, from one state to a later one. Assumes nothing.
use mathlib.Core.Path.{◌≡◌, refl, ap}
use mathlib.Core.List.{List}
use Prim.Native.Nat.{ℕ, ◌≤◌, ◌<◌}
use native.Mathlib.Omega.{arith}
use lib.ListN.{length}
use mathlib.Core.Bool.{Bool, true, false}
use lib.Dec.{ltb}
use borrow.Author.Tests.{ltb-true}
use Rattle.definition.specs.Choice.{pick}
use Rattle.fallible.specs.declared.error.Error.{Error}
use Rattle.fallible.specs.declared.parser.State.{State}
use Rattle.fallible.specs.Answer.{nowhere, Status, Answer}
use Rattle.fallible.specs.Answers.{refused_at, one_more, making, Abandoned}
use Rattle.steps.specs.declared.tokens.Token.{Token}
use Rattle.steps.specs.Tokens.{budget, Seen}
use Rattle.steps.specs.Shows.{Asks, Asked, Moved}
use Rattle.steps.proofs.Records.{budget_nil, at_index, fore}

-- at the end the budget is 0
pub spent : (w : List ℕ) (n : ℕ) → budget w n n ≡ 0
spent w n = budget_nil w n n (omega arith)

pub asks_later : {n i : ℕ} {r f : List Error} {s : State} → Asks n r f s → i ≤ n → Asks n r f (at_index s i)
asks_later q h = record { at = h; reported = q.reported; few = q.few; reps = q.reps; fulls = q.fulls }

module _ {w : List ℕ} {n : ℕ} {r f : List Error} {s : State} (q : Asks n r f s) where
  pub stays : Moved w n s.pos s.reported s s
  stays =
      record {
        at = omega arith;
        end = q.at;
        pos = omega arith;
        room = omega arith;
        reported = omega arith;
        less = omega arith;
        full = omega arith;
        few = q.few;
      }

  pub refused_moved : (m : ℕ) → Moved w n s.pos s.reported s (refused_at n s m).state
  refused_moved m =
      record {
        at = q.at;
        end = omega arith;
        pos = omega arith;
        room = omega (arith, spent w n);
        reported = omega arith;
        less = omega arith;
        full = omega arith;
        few = q.few;
      }

  -- an error is made, or one too many is refused
  pub making_moved : (h : Status) → Moved w n s.pos s.reported s (making h n s).state
  making_moved h = go (ltb s.full 255) (λ e. ltb-true _ _ e) refl
    where
      go : (b : Bool) → (b ≡ true → s.full < 255) → ltb s.full 255 ≡ b
          → Moved w n s.pos s.reported s
          (pick b (record { status = h; state = one_more s; place = nowhere; count = 0 }) (refused_at n s 12)).state
      go true g e =
          let l = g refl in
          record {
            at = omega arith;
            end = q.at;
            pos = omega arith;
            room = omega arith;
            reported = omega arith;
            less = omega arith;
            full = omega arith;
            few = omega arith;
          }
      go false g e = refused_moved 12

  -- at a later index
  pub later_moved : {i : ℕ} → s.at ≤ i → i ≤ n → budget w n i ≤ budget w n s.at → Moved w n s.pos s.reported s (at_index s i)
  later_moved h g b =
      record {
        at = h;
        end = g;
        pos = omega arith;
        room = omega arith;
        reported = omega arith;
        less = omega arith;
        full = omega arith;
        few = q.few;
      }

  module _ {x : List ℕ} {t : Token} (v : Seen w x n s.at t) where
    pub asks_fore : Asks n r f (fore s t)
    asks_fore = asks_later q v.end

    pub fore_moved : Moved w n s.pos s.reported s (fore s t)
    fore_moved = later_moved v.up v.end (omega arith)

pub moved_trans : {w : List ℕ} {n i j i' j' : ℕ} {s t u : State} → Moved w n i j s t → Moved w n i' j' t u → Moved w n i' j' s u
moved_trans p q =
    record {
      at = omega arith;
      end = q.end;
      pos = q.pos;
      room = omega arith;
      reported = q.reported;
      less = omega arith;
      full = omega arith;
      few = q.few;
    }

-- what is required holds in a later state
pub asks_moved : {w : List ℕ} {n i j : ℕ} {r f r' f' : List Error} {s t : State} → Asks n r f s → Moved w n i j s t
    → length r' ≡ length r → length f' ≡ length f → Asks n r' f' t
asks_moved q m h g = record { at = m.end; reported = omega arith; few = m.few; reps = omega arith; fulls = omega arith }

pub abandoned_moved : {w : List ℕ} {n i j k : ℕ} {r r' : List Error} {s : State} {b c : Answer}
    → Moved w n s.pos s.reported s b.state → Abandoned r b i j k r' c → Moved w n i j s c.state
abandoned_moved {w} {n} m v =
    record {
      at = omega arith;
      end = omega arith;
      pos = v.low;
      room = omega (arith, ap (λ (k : ℕ). budget w n k) v.at);
      reported = v.first;
      less = omega arith;
      full = omega arith;
      few = omega arith;
    }

module _ {w : List ℕ} {n : ℕ} {o : List ℕ} {r f : List Error} {s : State} (q : Asked w n o r f s) where
  -- after a token
  pub asked_seen : {x : List ℕ} {t : Token} → Seen w x n s.at t → Asked w n o r f (fore s t)
  asked_seen v = record { asks = asks_fore q.asks v; room = omega arith }

  -- in a later state, for slices of the same lengths
  pub asked_moved : {i j : ℕ} {o' : List ℕ} {r' f' : List Error} {t : State} → Moved w n i j s t → length o' ≡ length o
      → length r' ≡ length r → length f' ≡ length f → Asked w n o' r' f' t
  asked_moved m a b c = record { asks = asks_moved q.asks m b c; room = omega arith }
