-- The induction for readings without errors: an error ends the reading, and no answer is fatal. Assumes nothing.
use mathlib.Core.Path.{refl}
use mathlib.Core.Bool.{true, false}
use mathlib.Core.List.{List, [], ◌∷◌}
use Prim.Native.Nat.{ℕ, zero, suc, ◌≤◌}
use native.Mathlib.Omega.{arith}
use lib.Dec.{ltb}
use lib.ListN.{length, length-append}
use Rattle.definition.specs.Fallible.{Err, Ans}
use Rattle.definition.specs.Token.{Tok, next_token, tail}
use Rattle.definition.specs.Act.{Node, Goal, Loop, Module, Left, Act, done, peek, consume, make, when◌then◌else◌, call, loop, panic, St, begin, Res, gives, refused, advance, push, run}
use Rattle.definition.specs.Parser.{rule, turn, loops, parse, parse_module, no_items}
use Rattle.definition.proofs.Later.{Later, later_refl, later_trans, later_advance, later_push, later_full, After, weaken}
use Rattle.definition.proofs.Ind.{join, limit, wp, each, each_ans}

-- no error was made between the two states
abbrev pub Clean : St → St → Type 0
Clean s s' = length s'.full ≤ length s.full

-- the state after an act is later than the state before it
module _ (c : Goal → St → Res (Ans Node)) (o : (l : Loop) → St → Res (Left l))
    (c_later : (g : Goal) (s : St) → After (λ a s'. Later s s') (c g s)) (o_later : (l : Loop) (s : St) → After (λ a s'. Later s s') (o l s)) where
  pub run_later : {A : Type 0} (m : Act A) (s₀ s : St) → Later s₀ s → After (λ a s'. Later s₀ s') (run c o m s)
  unfolding run
  run_later (done a) s₀ s l = l
  run_later (peek k) s₀ s l = run_later (k (next_token s.tokens)) s₀ s l
  run_later (consume r k) s₀ s l = run_later (k (next_token s.tokens)) s₀ (advance r s) (later_trans l (later_advance r s))
  run_later (make e m) s₀ s l =
      limit (λ a s'. Later s₀ s') (ltb (length s.full) 255) (run c o m (push e s))
      (λ _. run_later m s₀ (push e s) (later_trans l (later_push e s)))
  run_later (when◌then◌else◌ true m n) s₀ s l = run_later m s₀ s l
  run_later (when◌then◌else◌ false m n) s₀ s l = run_later n s₀ s l
  run_later (call g k) s₀ s l =
      join (λ a s'. Later s s') (λ a s'. Later s₀ s') (c g s) (λ a s'. run c o (k a) s') (c_later g s)
      (λ a s' p. run_later (k a) s₀ s' (later_trans l p))
  run_later (loop g k) s₀ s l =
      join (λ a s'. Later s s') (λ a s'. Later s₀ s') (o g s) (λ a s'. run c o (k a) s') (o_later g s)
      (λ a s' p. run_later (k a) s₀ s' (later_trans l p))
  run_later panic s₀ s l = tt

pub loops_later : (c : Goal → St → Res (Ans Node)) → ((g : Goal) (s : St) → After (λ a s'. Later s s') (c g s))
    → (n : ℕ) (l : Loop) (s : St) → After (λ a s'. Later s s') (loops c n l s)
unfolding loops
loops_later c c_later zero l s = tt
loops_later c c_later (suc n) l s =
    run_later c (λ m t. loops c n m t) c_later (λ m t. loops_later c c_later n m t) (turn l) s s (later_refl s)

pub parse_later : (n : ℕ) (g : Goal) (s : St) → After (λ a s'. Later s s') (parse n g s)
unfolding parse
parse_later zero g s = tt
parse_later (suc n) g s =
    run_later (λ h t. parse n h t) (λ l t. loops (λ h u. parse n h u) (suc (suc (length t.tokens))) l t) (λ h t. parse_later n h t)
    (λ l t. loops_later (λ h u. parse n h u) (λ h u. parse_later n h u) (suc (suc (length t.tokens))) l t) (rule g) s s (later_refl s)

-- I: an invariant of the tokens left
module _ (G : Goal → St → Ans Node → St → Type 0) (L : (l : Loop) → St → Left l → St → Type 0)
    (I : List Tok → Type 0) (I_tail : (ts : List Tok) → I ts → I (tail ts))
    (I_later : (s s' : St) → Later s s' → I s.tokens → I s'.tokens) where
  abbrev pub Known : St → Type 0
  Known s = I s.tokens

  abbrev pub Never : Err → St → Type 0
  Never e s = ⊥

  abbrev pub cwp : {A : Type 0} → Act A → (A → St → Type 0) → St → Type 0
  cwp m Q s = wp G L Known Never m Q s

  -- with the state before the run
  abbrev Kept : {A : Type 0} → St → (A → St → Type 0) → A → St → Type 0
  Kept s Q a s' = Later s s' × (Clean s s' → Q a s')

  module _ (c : Goal → St → Res (Ans Node)) (o : (l : Loop) → St → Res (Left l))
      (c_ok : (g : Goal) (s : St) → I s.tokens → After (Kept s (G g s)) (c g s))
      (o_ok : (l : Loop) (s : St) → I s.tokens → After (Kept s (L l s)) (o l s))
      (c_later : (g : Goal) (s : St) → After (λ a s'. Later s s') (c g s)) (o_later : (l : Loop) (s : St) → After (λ a s'. Later s s') (o l s)) where
    dirty : {A : Type 0} (Q : A → St → Type 0) (e : Err) (s : St) (r : Res A) → After (λ a s'. Later (push e s) s') r → After (Kept s Q) r
    dirty Q e s r h =
        weaken r (λ a s' l. (
          later_trans (later_push e s) l,
          λ k. absurd (omega (arith, later_full l, length-append s.full (e ∷ []))),
        )) h

    -- an answer in the middle of a run, and the rest of the run
    on_the_way : {A : Type 0} (Q : A → St → Type 0) (s s' : St) (r : Res A) → Later s s'
        → (Clean s s' → After (Kept s' Q) r) → After (λ a s''. Later s' s'') r → After (Kept s Q) r
    on_the_way Q s s' (gives a s'') l h k = (
      later_trans l k,
      λ q. (h (omega (arith, later_full l, later_full k))).1 (omega (arith, later_full l, later_full k)),
    )
    on_the_way Q s s' (refused n) l h k = tt

    -- if the precondition of an act holds, Q holds after a run without errors; so for loops, calls and the module
    pub clean_sound : {A : Type 0} (Q : A → St → Type 0) (m : Act A) (s : St) → I s.tokens → cwp m Q s → After (Kept s Q) (run c o m s)
    unfolding run
    clean_sound Q (done a) s i h = (later_refl s, λ k. h)
    clean_sound Q (peek k) s i h = clean_sound Q (k (next_token s.tokens)) s i h
    clean_sound Q (consume r k) s i h =
        on_the_way Q s (advance r s) (run c o (k (next_token s.tokens)) (advance r s)) (later_advance r s)
        (λ q. clean_sound Q (k (next_token s.tokens)) (advance r s) (I_tail s.tokens i) (h i))
        (run_later c o c_later o_later (k (next_token s.tokens)) (advance r s) (advance r s) (later_refl (advance r s)))
    clean_sound Q (make e m) s i h =
        limit (Kept s Q) (ltb (length s.full) 255) (run c o m (push e s))
        (λ _. dirty Q e s (run c o m (push e s)) (run_later c o c_later o_later m (push e s) (push e s) (later_refl (push e s))))
    clean_sound Q (when◌then◌else◌ true m n) s i h = clean_sound Q m s i (h.0 refl)
    clean_sound Q (when◌then◌else◌ false m n) s i h = clean_sound Q n s i (h.1 refl)
    clean_sound Q (call g k) s i h =
        join (Kept s (G g s)) (Kept s Q) (c g s) (λ a s'. run c o (k a) s') (c_ok g s i)
        (λ a s' p. on_the_way Q s s' (run c o (k a) s') p.0 (λ q. clean_sound Q (k a) s' (I_later s s' p.0 i) (each_ans (λ a. (s' : St) → Later s s' → G g s a s' → cwp (k a) Q s') h a s' p.0 (p.1 q)))
        (run_later c o c_later o_later (k a) s' s' (later_refl s')))
    clean_sound Q (loop g k) s i h =
        join (Kept s (L g s)) (Kept s Q) (o g s) (λ a s'. run c o (k a) s') (o_ok g s i)
        (λ a s' p. on_the_way Q s s' (run c o (k a) s') p.0 (λ q. clean_sound Q (k a) s' (I_later s s' p.0 i) (each g (λ a. (s' : St) → Later s s' → L g s a s' → cwp (k a) Q s') h a s' p.0 (p.1 q)))
        (run_later c o c_later o_later (k a) s' s' (later_refl s')))
    clean_sound Q panic s i h = tt

  module _ (rules : (g : Goal) (s : St) → I s.tokens → cwp (rule g) (G g s) s)
      (turns : (l : Loop) (s : St) → I s.tokens → cwp (turn l) (L l s) s) where
    pub clean_loops : (c : Goal → St → Res (Ans Node)) → ((g : Goal) (s : St) → I s.tokens → After (Kept s (G g s)) (c g s))
        → ((g : Goal) (s : St) → After (λ a s'. Later s s') (c g s))
        → (n : ℕ) (l : Loop) (s : St) → I s.tokens → After (Kept s (L l s)) (loops c n l s)
    unfolding loops
    clean_loops c c_ok c_later zero l s i = tt
    clean_loops c c_ok c_later (suc n) l s i =
        clean_sound c (λ m t. loops c n m t) c_ok (λ m t j. clean_loops c c_ok c_later n m t j) c_later
        (λ m t. loops_later c c_later n m t) (L l s) (turn l) s i (turns l s i)

    pub clean_parse : (n : ℕ) (g : Goal) (s : St) → I s.tokens → After (Kept s (G g s)) (parse n g s)
    unfolding parse
    clean_parse zero g s i = tt
    clean_parse (suc n) g s i =
        clean_sound (λ h t. parse n h t) (λ l t. loops (λ h u. parse n h u) (suc (suc (length t.tokens))) l t)
        (λ h t j. clean_parse n h t j)
        (λ l t j. clean_loops (λ h u. parse n h u) (λ h u k. clean_parse n h u k) (λ h u. parse_later n h u)
        (suc (suc (length t.tokens))) l t j) (λ h t. parse_later n h t)
        (λ l t. loops_later (λ h u. parse n h u) (λ h u. parse_later n h u) (suc (suc (length t.tokens))) l t)
        (G g s) (rule g) s i (rules g s i)

    pub clean_module : (full : List Err) (ts : List Tok) → I ts
        → After (Kept (begin full ts) (L (Module (no_items [])) (begin full ts))) (parse_module full ts)
    unfolding parse_module
    clean_module full ts i =
        clean_loops (λ g s. parse 96 g s) (λ g s j. clean_parse 96 g s j) (λ g s. parse_later 96 g s)
        (suc (suc (length ts))) (Module (no_items [])) (begin full ts) i
