-- The reported errors are entries of the full list beside the losses, and none is reported more often than it is made.
-- Assumes nothing.
use mathlib.Core.Path.{◌≡◌, refl, subst}
use mathlib.Core.Bool.{Bool, true, ◌&&◌}
use mathlib.Core.List.{List}
use Prim.Native.Nat.{ℕ, ◌+◌, ◌≤◌}
use borrow.Author.Tests.{eqb-true, eq-eqb}
use lib.Dec.{eqb}
use Rattle.definition.specs.Choice.{pick}
use Rattle.definition.specs.Fallible.{Err}
use Rattle.definition.specs.Token.{Tok}
use Rattle.definition.specs.Act.{Items, St, gives}
use Rattle.definition.specs.Losses.{losses, parse_tokens}
use Rattle.definition.proofs.Tests.{both_true, parts_true}
use Rattle.definition.proofs.Later.{After}
use Rattle.definition.proofs.Size.{weight, budget, tally, tokens_size}

-- equality of errors, field by field
abbrev pub same_error : Err → Err → Bool
same_error e x =
    eqb e.number x.number && (eqb e.place.line x.place.line
    && (eqb e.place.column x.place.column && (eqb e.expected x.expected && eqb e.got x.got)))

-- how often the error is in the list
abbrev pub times : Err → List Err → ℕ
times e es = tally (λ x. pick (same_error e x) 1 0) es

-- the test holds for equal errors only
pub same_error_equal : (e x : Err) → same_error e x ≡ true → e ≡ x
same_error_equal e x t =
    parts_true _ _ t λ n t. parts_true _ _ t λ l t. parts_true _ _ t λ c t. parts_true _ _ t λ k g. equal
    (eqb-true _ _ n) (eqb-true _ _ l) (eqb-true _ _ c) (eqb-true _ _ k) (eqb-true _ _ g)
  where
    equal : e.number ≡ x.number → e.place.line ≡ x.place.line → e.place.column ≡ x.place.column
        → e.expected ≡ x.expected → e.got ≡ x.got → e ≡ x
    equal n l c k g = λ i. record { number = n i; place = record { line = l i; column = c i }; expected = k i; got = g i }

pub same_error_self : (e : Err) → same_error e e ≡ true
same_error_self e =
    both_true (eq-eqb e.number _ refl)
    (both_true (eq-eqb e.place.line _ refl) (both_true (eq-eqb e.place.column _ refl)
    (both_true (eq-eqb e.expected _ refl) (eq-eqb e.got _ refl))))

-- an error is reported at most as often as it is in the full list beside the losses
pub reported_is_made : (e : Err) (ts : List Tok) (i : Items) (s : St) → parse_tokens ts ≡ gives i s
    → times e (losses ts) + times e i.errors ≤ times e s.full
reported_is_made e ts i s g =
    (subst (After (λ i s'. (weight i.recs ≤ budget ts) × (times e (losses ts) + times e i.errors ≤ times e s'.full))) g
    (tokens_size (λ x. pick (same_error e x) 1 0) ts)).1
