-- The laws of `note` and `abandon`. Assumes nothing.
use mathlib.Core.Path.{◌≡◌, refl, sym, ap, ◌∙◌}
use mathlib.Core.List.{List}
use Prim.Native.Nat.{ℕ, ◌+◌, ◌-◌, ◌<◌}
use native.Mathlib.Omega.{arith}
use borrow.Author.Tests.{lt-ltb}
use Rattle.definition.specs.declared.place.Place.{Place}
use Rattle.fallible.specs.declared.error.Error.{Error}
use Rattle.fallible.specs.declared.parser.State.{State}
use Rattle.fallible.specs.declared.Tally.{Tally}
use Rattle.fallible.specs.Answer.{nowhere, Status, Fatal, Answer}
use Rattle.fallible.specs.Answers.{making, Raised, Abandoned, Cuts}
use Rattle.fallible.specs.Tallies.{Pushed, Propagated}

-- `note`, where the full list has room: the error is appended
pub made : (h : Status) (n : ℕ) (s : State) {r f r' f' : List Error} {e : Error} {t : Tally} → s.full < 255
    → Pushed r f (record { reported = s.reported; full = s.full }) e r' f' t
    → Raised (making h n s) r f s e r' f' (record {
      status = h;
      state = record { at = s.at; pos = s.pos; reported = t.reported; full = t.full };
      place = nowhere;
      count = 0;
    })
made h n s l p = record {
  is =
      ap (λ (t : Tally). record {
        status = h;
        state = record { at = s.at; pos = s.pos; reported = t.reported; full = t.full };
        place = nowhere;
        count = 0;
      }) p.is
      ∙ sym (rw (lt-ltb s.full 255 l));
  reported = λ _. p.reported;
  full = λ _. p.full;
}

-- `abandon`: a fatal answer is cut
pub cut : {r r' : List Error} {a : Answer} {p : Place} {i j k m : ℕ} {t : Tally} → Cuts r a.state i j k → a.status ≡ Fatal
    → Propagated r (record { reported = j; full = a.state.full }) k a.state.reported r' t
    → Abandoned r a i j k r' (record {
      status = a.status;
      state = record { at = a.state.at; pos = i; reported = t.reported; full = t.full };
      place = p;
      count = m;
    })
cut {a = a} {j = j} {k = k} {t = t} c h q =
    let e : t.reported ≡ j + (a.state.reported - k) = ap (λ (t : Tally). t.reported) q.is in
    record {
      at = refl;
      full = ap (λ (t : Tally). t.full) q.is;
      low = omega arith;
      high = omega arith;
      first = omega arith;
      last = omega arith;
      is = rw h (record { status = refl; pos = refl; reported = e; is = q.reported });
    }
