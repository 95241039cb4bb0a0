-- The number of turns allowed to a loop does not matter: a loop is one turn, and the loops in that turn.
-- Assumes nothing.
use mathlib.Core.Path.{◌≡◌, refl, sym, ◌∙◌, subst}
use mathlib.Core.Bool.{Bool, true, false}
use mathlib.Core.List.{List, []}
use Prim.Native.Nat.{ℕ, zero, suc, ◌+◌, ◌≤◌}
use native.Mathlib.Omega.{arith}
use lib.Dec.{ltb}
use lib.ListN.{length}
use Rattle.definition.specs.Fallible.{Err, Ans}
use Rattle.definition.specs.Token.{Tok, next_token}
use Rattle.definition.specs.Act.{Node, Goal, Loop, Left, Act, done, peek, consume, make, when◌then◌else◌, call, loop, panic, St, begin, Res, gives, refused, after, advance, push, run, ◌>>=◌}
use Rattle.definition.specs.Go.{go, turns}
use Rattle.definition.specs.Parser.{rule, turn, loops, parse, parse_module_within, parse_module, no_items}
use Rattle.definition.proofs.Later.{Later, After, weaken}
use Rattle.definition.proofs.Clean.{loops_later}
use Rattle.definition.proofs.Total.{rank, rank_le, Enough, any, turn_enough, parse_after, Called}
use Rattle.definition.proofs.Bind.{run_bind}

-- continuations need to agree only on answers that can occur
same_after : {A B : Type 0} (r r' : Res A) (f g : A → St → Res B) (P : A → St → Type 0) → r ≡ r' → After P r
    → ((a : A) (s : St) → P a s → f a s ≡ g a s) → after r f ≡ after r' g
same_after (gives a s) r' f g P e p h = subst (λ (x : Res _). f a s ≡ after x g) e (h a s p)
same_after (refused n) r' f g P e p h = subst (λ (x : Res _). refused n ≡ after x g) e refl

same_cut : {A : Type 0} (b : Bool) (r r' : Res A) → r ≡ r'
    → ◌≡◌ {A = Res A} (elim b as (λ _. Res A) [ true ↦ r | false ↦ refused 12 ])
    (elim b as (λ _. Res A) [ true ↦ r' | false ↦ refused 12 ])
same_cut true r r' e = e
same_cut false r r' e = refl

-- two ways to run loops that agree where a loop has enough turns
module _ (n : ℕ) (c : Goal → St → Res (Ans Node)) (o o' : (l : Loop) → St → Res (Left l))
    (c_after : (g : Goal) (s : St) → After (λ a s'. Later s s' × Called s s') (c g s))
    (o_after : (l : Loop) (s : St) → After (λ a s'. Later s s') (o l s)) (agree : (l : Loop) (s : St) → rank l + length s.tokens ≤ n → o l s ≡ o' l s) where
  run_same : {A : Type 0} (m : Act A) (Q : St → Type 0) (s : St) → Enough n m Q s → run c o m s ≡ run c o' m s
  unfolding run
  run_same (done a) Q s h = refl
  run_same (peek k) Q s h = run_same (k (next_token s.tokens)) Q s h
  run_same (consume r k) Q s h = run_same (k (next_token s.tokens)) Q (advance r s) h
  run_same (make e m) Q s h =
      same_cut (ltb (length s.full) 255) (run c o m (push e s)) (run c o' m (push e s))
      (run_same m Q (push e s) h)
  run_same (when◌then◌else◌ true m m') Q s h = run_same m Q s (h.0 refl)
  run_same (when◌then◌else◌ false m m') Q s h = run_same m' Q s (h.1 refl)
  run_same (call g k) Q s h =
      same_after (c g s) (c g s) (λ a s'. run c o (k a) s') (λ a s'. run c o' (k a) s')
      (λ a s'. Later s s' × Called s s') refl (c_after g s)
      (λ a s' p. run_same (k a) Q s' (h a s' p.0 p.1))
  run_same (loop g k) Q s h =
      same_after (o g s) (o' g s) (λ a s'. run c o (k a) s') (λ a s'. run c o' (k a) s') (λ a s'. Later s s')
      (agree g s h.0) (o_after g s) (λ a s' p. run_same (k a) Q s' (h.1 a s' p))
  run_same panic Q s h = refl

module _ (c : Goal → St → Res (Ans Node)) (c_after : (g : Goal) (s : St) → After (λ a s'. Later s s' × Called s s') (c g s)) where
  all_later : (n : ℕ) (l : Loop) (s : St) → After (λ a s'. Later s s') (loops c n l s)
  all_later n l s = loops_later c (λ g s. weaken (c g s) (λ a s' p. p.0) (c_after g s)) n l s

  -- more turns than enough change nothing
  fuel : (n m : ℕ) (l : Loop) (s : St) → rank l + length s.tokens ≤ n → n ≤ m → loops c n l s ≡ loops c m l s
  unfolding loops
  fuel zero m l s h d = absurd (no l h)
    where
      no : (l : Loop) → rank l + length s.tokens ≤ 0 → ⊥
      no (Loop.Module i) h = omega arith
      no (Loop.Body i) h = omega arith
      no (Loop.ListOf k i) h = omega arith
      no (Loop.Operators l e) h = omega arith
      no (Loop.Casts e) h = omega arith
      no (Loop.Suffixes e) h = omega arith
      no (Loop.Modifiers w) h = omega arith
  fuel (suc n) zero l s h d = absurd (omega arith)
  fuel (suc n) (suc m) l s h d =
      run_same n c (λ k t. loops c n k t) (λ k t. loops c m k t) c_after (λ k t. all_later n k t)
      (λ k t q. fuel n m k t q (omega arith)) (turn l) any s (turn_enough n l s h)

  once : (l : Loop) (s : St)
      → loops c (suc (suc (length s.tokens))) l s
      ≡ run c (λ k t. loops c (suc (suc (length t.tokens))) k t) (turn l) s
  unfolding loops
  once l s =
      run_same (suc (length s.tokens)) c (λ k t. loops c (suc (length s.tokens)) k t)
      (λ k t. loops c (suc (suc (length t.tokens))) k t) c_after
      (λ k t. all_later (suc (length s.tokens)) k t) agree (turn l) any s
      (turn_enough (suc (length s.tokens)) l s (omega (arith, rank_le l)))
    where
      agree : (k : Loop) (t : St) → rank k + length t.tokens ≤ suc (length s.tokens)
          → loops c (suc (length s.tokens)) k t ≡ loops c (suc (suc (length t.tokens))) k t
      agree k t q =
          fuel (suc (length s.tokens)) (suc (suc (length s.tokens)) + length t.tokens) k t q (omega arith)
          ∙ sym (fuel (suc (suc (length t.tokens))) (suc (suc (length s.tokens)) + length t.tokens) k t
          (omega (arith, rank_le k)) (omega arith))

nothing : {A : Type 0} (q : Res A) → after q (λ a s. gives a s) ≡ q
nothing (gives a s) = refl
nothing (refused n) = refl

-- a loop is one turn of it
pub go_loop : (n : ℕ) (l : Loop) (s : St) → go n (loop l done) s ≡ go n (turn l) s
unfolding go turns run
go_loop n l s = nothing _ ∙ once (λ h t. parse n h t) (λ h t. parse_after n h t) l s

-- a call is the parse of its goal
pub go_call : (n : ℕ) (g : Goal) (s : St) → go n (call g done) s ≡ parse n g s
unfolding go turns run
go_call n g s = nothing _

-- a counted function is its rule, with one call less to open
pub go_rule : (n : ℕ) (g : Goal) (s : St) → parse (suc n) g s ≡ go n (rule g) s
unfolding go turns parse
go_rule n g s = refl

pub go_bind : {A B : Type 0} (n : ℕ) (m : Act A) (f : A → Act B) (s : St) → go n (m >>= f) s ≡ after (go n m s) (λ a t. go n (f a) t)
unfolding go turns
go_bind n m f s = run_bind (λ h t. parse n h t) (λ l t. turns n l t) m f s

-- the whole parser is the loop of a module
pub go_module_within : (n : ℕ) (full : List Err) (ts : List Tok)
    → go n (loop (Loop.Module (no_items [])) done) (begin full ts) ≡ parse_module_within n full ts
unfolding go turns run parse_module_within
go_module_within n full ts = nothing _

pub go_module : (full : List Err) (ts : List Tok)
    → go 96 (loop (Loop.Module (no_items [])) done) (begin full ts) ≡ parse_module full ts
unfolding parse_module
go_module full ts = go_module_within 96 full ts
