-- The tokens of the records, decoded one by one. Assumes nothing.
use mathlib.Core.Path.{◌≡◌, refl, sym, ◌∙◌}
use mathlib.Core.Bool.{true, false}
use mathlib.Core.List.{List, [], ◌∷◌, ◌++◌}
use Prim.Native.Nat.{ℕ, zero, suc, min, ◌+◌, ◌*◌, ◌-◌, ◌≤◌, ◌<◌}
use native.Mathlib.Omega.{arith}
use lib.Dec.{eqb}
use lib.ListN.{length, take, drop, get_or, length-drop}
use lib.Seq.{length-take-le}
use borrow.Author.Tests.{eq-eqb, ne_eqb}
use Rattle.definition.specs.Numbers.{kind_number, KindOf}
use Rattle.definition.specs.declared.kind.Kind.{Kind}
use Rattle.definition.specs.declared.kind.NoKind.{NoKind}
use Rattle.std.specs.Prelude.{Result, Ok, Err}
use Rattle.std.specs.Result.{result_unwrap_or}
use Rattle.definition.specs.Token.{Tok, next_token, ◌is◌}
use Rattle.fallible.specs.declared.error.Error.{Error}
unfoldable use Rattle.definition.specs.Cost.{spend}
use Rattle.definition.specs.Act.{Role, Consumed, advance, now_read}
use Rattle.fallible.specs.declared.parser.State.{State}
use Rattle.steps.specs.declared.tokens.Token.{Token}
use Rattle.steps.specs.Tokens.{tok_at, from, rest, owed, budget, present, Parts, Seen}
use Rattle.steps.specs.Shows.{st_of}

-- ---- tokens

-- the tokens from an index on: the one there and those after it, or none at the end
pub rest_cons : (w x : List ℕ) (n at : ℕ) → at < n → rest w x n at ≡ tok_at w x at ∷ rest w x n (at + 1)
unfolding rest from
rest_cons w x n at h = let e : n - at ≡ suc (n - (at + 1)) = omega arith in rw e

pub rest_nil : (w x : List ℕ) (n at : ℕ) → n ≤ at → rest w x n at ≡ []
unfolding rest from
rest_nil w x n at h = let e : n - at ≡ 0 = omega arith in rw e

-- how many they are
from_length : (w x : List ℕ) (i k : ℕ) → length (from w x i k) ≡ k
unfolding from
from_length w x i zero = refl
from_length w x i (suc k) = omega (arith, from_length w x (i + 1) k)

pub rest_length : (w x : List ℕ) (n at : ℕ) → length (rest w x n at) ≡ n - at
unfolding rest
rest_length w x n at = from_length w x at (n - at)

-- ---- what the records account for

pub budget_cons : (w : List ℕ) (n at : ℕ) → at < n
    → budget w n at ≡ 16 * min (get_or w (8 * at) 0) 1 + get_or w (8 * at + 4) 0 + budget w n (at + 1)
unfolding budget owed
budget_cons w n at h = let e : n - at ≡ suc (n - (at + 1)) = omega arith in rw e

pub budget_nil : (w : List ℕ) (n at : ℕ) → n ≤ at → budget w n at ≡ 0
unfolding budget owed
budget_nil w n at h = let e : n - at ≡ 0 = omega arith in rw e

-- the budget is the cost of the tokens, where their parts lie in the text
pub budget_spend : {w x : List ℕ} {n : ℕ} (at : ℕ) → Parts w x n → budget w n at ≡ spend (rest w x n at)
unfolding budget owed rest from spend
budget_spend {w} {x} {n} at q = go (n - at) at (omega arith)
  where
    go : (k i : ℕ) → (0 < k → i + k ≤ n) → owed w i k ≡ spend (from w x i k)
    go zero i h = refl
    go (suc k) i h =
        let l : length (take (get_or w (8 * i + 4) 0) (drop (get_or w (8 * i + 3) 0) x)) ≡ get_or w (8 * i + 4) 0 =
        length-take-le _ _ (simp length-drop (omega (arith, q.each i (omega (arith, h (omega arith)))))) in
        omega (arith, l, go k (i + 1) (λ g. omega (arith, h (omega arith))))

-- a record is present before the end of the records, and only there
pub present_before : (n i : ℕ) → i < n → present n i ≡ 1
unfolding present
present_before n i h = omega arith

pub present_within : (n i : ℕ) → i ≤ n → i + present n i ≤ n
unfolding present
present_within n i h = omega arith

-- the number of a record that can be read is that of a kind
pub kind_read : (r : Result Kind NoKind) {n : ℕ} {k : Kind} → k ≡ result_unwrap_or r Kind.End → KindOf n r → n ≤ 54
    → kind_number k ≡ n
kind_read (Ok j) e q h = rw e q.0
kind_read (Err j) e q h = absurd (omega (arith, q.1))

-- a test of the kind in the code decides that of the definition
pub yes : {w x : List ℕ} {n at k : ℕ} {t : Token} → Seen w x n at t → kind_number t.kind ≡ k
    → (y : List ℕ) → next_token (rest w y n at) is k ≡ true
yes v e y = eq-eqb _ _ (v.kind y ∙ e)

pub no : {w x : List ℕ} {n at k : ℕ} {t : Token} → Seen w x n at t → (kind_number t.kind ≡ k → ⊥)
    → (y : List ℕ) → next_token (rest w y n at) is k ≡ false
no v e y = ne_eqb _ _ (λ z. e (sym (v.kind y) ∙ z))

-- a token of one kind is of no other
pub other : {w x : List ℕ} {n at k : ℕ} {t : Token} → Seen w x n at t → kind_number t.kind ≡ k → (j : ℕ) → eqb k j ≡ false
    → (y : List ℕ) → next_token (rest w y n at) is j ≡ false
other v e j h y = rw (v.kind y, e) h

-- the state s, at another index
abbrev pub at_index : State → ℕ → State
at_index s i = record { at = i; pos = s.pos; reported = s.reported; full = s.full }

-- the state after a token
abbrev pub fore : State → Token → State
fore s t = at_index s t.next

-- reading a token advances the definition's state
pub adv : {w x : List ℕ} {n : ℕ} {t : Token} (s : State) → Seen w x n s.at t
    → (role : Tok → Role) (f : List Error) (rd : List Consumed) (y : List ℕ)
    → advance role (st_of w y n f rd s) ≡ st_of w y n f (rd ++ now_read role (rest w y n s.at)) (fore s t)
adv s v role f rd y = rw v.tail
