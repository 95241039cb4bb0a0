-- The invariant of the parser's loops, from their start to any turn. Assumes nothing.
use mathlib.Core.Path.{◌≡◌, refl}
use mathlib.Core.List.{List}
use Prim.Native.Nat.{ℕ, ◌≤◌}
use native.Mathlib.Omega.{arith}
use lib.ListN.{length}
use Rattle.definition.specs.Fallible.{Fallible, Ans}
use Rattle.definition.specs.Act.{Act, Node}
use Rattle.fallible.specs.declared.parser.State.{State}
use Rattle.fallible.specs.Answer.{Answer}
use Rattle.steps.specs.Shows.{Asked, Goes, GoesOn, node}
use Rattle.fallible.specs.declared.error.Error.{Error}

-- a predicate on the three slices at exit and the answer
abbrev pub Shown : Type 1
Shown = List ℕ → List Error → List Error → Answer → Type 0

-- The slices keep their lengths, no token is read again, and if the rest of the loop ensures Q from here, the whole
-- loop ensures P from its start.
pub record Turned (P Q : Shown) (o : List ℕ) (r f : List Error) (o1 : List ℕ) (r1 f1 : List Error) (from at : ℕ) : Type 0 where
  pub file : length o1 ≡ length o
  pub reported : length r1 ≡ length r
  pub full : length f1 ≡ length f
  pub on : from ≤ at
  pub rest : {o' : List ℕ} {r' f' : List Error} {y : Answer} → Q o' r' f' y → P o' r' f' y

-- at the start, and after one more turn
pub at_start : {P : Shown} {o : List ℕ} {r f : List Error} {k : ℕ} → Turned P P o r f o r f k k
at_start = record { file = refl; reported = refl; full = refl; on = omega arith; rest = λ g. g }

pub one_turn : {P Q R : Shown} {o : List ℕ} {r f : List Error} {o1 : List ℕ} {r1 f1 : List Error} {o2 : List ℕ} {r2 f2 : List Error} {k m l : ℕ}
    → Turned P Q o r f o1 r1 f1 k m → length o2 ≡ length o1 → length r2 ≡ length r1 → length f2 ≡ length f1
    → m ≤ l → ((o' : List ℕ) (r' f' : List Error) (y : Answer) → R o' r' f' y → Q o' r' f' y) → Turned P R o r f o2 r2 f2 k l
one_turn t a b c h q =
    record {
      file = omega (arith, t.file, a);
      reported = omega (arith, t.reported, b);
      full = omega (arith, t.full, c);
      on = omega (arith, t.on, h);
      rest = λ g. t.rest (q _ _ _ _ g);
    }

-- for the loops after an operand
abbrev pub GoesTurned : (k : Fallible Node → Act (Ans Node)) (w x : List ℕ) (n d i j : ℕ) (o : List ℕ) (r f : List Error) (a : Answer)
    (o1 : List ℕ) (r1 f1 : List Error) (b : Answer)
    → Type 0
GoesTurned k w x n d i j o r f a o1 r1 f1 b =
    GoesOn w n o1 r1 f1 b i j × Turned (Goes node node w x n d k i j o r f a)
    (Goes node node w x n d k i j o1 r1 f1 b) o r f o1 r1 f1 a.state.at b.state.at

-- for the loops that count items: L is what the rest ensures of the count, the slices and the state
abbrev pub ItemsTurned : (L : ℕ → List ℕ → List Error → List Error → State → Shown) (w x : List ℕ) (n c : ℕ) (o : List ℕ) (r f : List Error) (s : State)
    (c1 : ℕ) (o1 : List ℕ) (r1 f1 : List Error) (s1 : State)
    → Type 0
ItemsTurned L w x n c o r f s c1 o1 r1 f1 s1 =
    (Asked w n o1 r1 f1 s1 × (c1 ≤ s1.at)) × Turned (L c o r f s) (L c1 o1 r1 f1 s1) o r f o1 r1 f1 s.at
    s1.at
