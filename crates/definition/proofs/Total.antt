-- The turns allowed to loops are enough: a reading gives an answer, or is refused with 10, 11 or 12. Assumes nothing.
use mathlib.Core.Path.{◌≡◌, refl, ap, subst}
use mathlib.Core.Bool.{Bool, true, false}
use mathlib.Core.List.{List, [], ◌∷◌, ◌++◌}
use Prim.Native.Nat.{ℕ, zero, suc, ◌+◌, ◌≤◌, ◌<◌}
use native.Mathlib.Omega.{arith}
use lib.Dec.{ltb, T}
use lib.ListN.{length, length-append}
use Rattle.definition.specs.Classes.{between}
use Rattle.definition.specs.Kind as K
use Rattle.definition.specs.Fallible.{Err, Ans, ok, fatal}
use Rattle.definition.specs.Node.{byte}
use Rattle.definition.specs.Token.{Tok, next_token, tail, ◌is◌}
use Rattle.definition.specs.Act.{Node, Goal, Loop, Module, Body, ListOf, Operators, Casts, Suffixes, Modifiers, Listed, Parameters, Arguments, StructFields, ArrayValues, StructValues, Left, Consumed, Act, done, peek, consume, make, when◌then◌else◌, call, loop, panic, St, begin, Res, gives, refused, after, plain, advance, push, run, next, or_return, ◌>>=◌, ◌>>?◌}
use Rattle.definition.specs.Parser as P
use Rattle.definition.specs.Tag as T
use Rattle.definition.specs.Parser.{rule, turn, loops, parse, parse_module_within, parse_module}
use Rattle.definition.proofs.Tests.{never_both}
use Rattle.definition.proofs.Later.{Later, toks, later_left, later_refl, later_trans, later_advance, later_push, After, weaken}
use Rattle.definition.proofs.Ind.{Positive, mapping_positive, parse_ind}
use Rattle.definition.proofs.Clean.{loops_later, parse_later}
use Rattle.definition.proofs.Grows.{there}
use Rattle.definition.proofs.Grows as Gr

-- how many turns a loop may need beyond the tokens left
abbrev pub rank : Loop → ℕ
rank (Module i) = 2
rank (Body i) = 2
rank (ListOf k i) = 2
rank (Operators l e) = 2
rank (Casts e) = 2
rank (Suffixes e) = 2
rank (Modifiers w) = 1

pub rank_le : (l : Loop) → rank l ≤ 2
rank_le (Module i) = omega arith
rank_le (Body i) = omega arith
rank_le (ListOf k i) = omega arith
rank_le (Operators l e) = omega arith
rank_le (Casts e) = omega arith
rank_le (Suffixes e) = omega arith
rank_le (Modifiers w) = omega arith

-- an answer, or a refusal with 10, 11 or 12
abbrev pub Moves : {A : Type 0} → Res A → Type 0
Moves (gives a s) = Unit {0}
Moves (refused n) = T (between 10 12 n)

-- a call reads a token, if there is one
abbrev pub Called : St → St → Type 0
Called s s' = next_token s.tokens is K.End ≡ false → length s'.tokens < length s.tokens

-- every loop in an act has enough of n turns, and Q holds at the end
module _ (n : ℕ) where
  abbrev pub Enough : {A : Type 0} → Act A → (St → Type 0) → St → Type 0
  Enough (done a) Q s = Q s
  Enough (peek k) Q s = Enough (k (next_token s.tokens)) Q s
  Enough (consume r k) Q s = Enough (k (next_token s.tokens)) Q (advance r s)
  Enough (make e m) Q s = Enough m Q (push e s)
  Enough (when◌then◌else◌ b m m') Q s = (b ≡ true → Enough m Q s) × (b ≡ false → Enough m' Q s)
  Enough (call g k) Q s = (a : Ans Node) (s' : St) → Later s s' → Called s s' → Enough (k a) Q s'
  Enough (loop l k) Q s = (rank l + length s.tokens ≤ n) × ((a : Left l) (s' : St) → Later s s' → Enough (k a) Q s')
  Enough panic Q s = Unit {0}

  -- if n is at least two more than the tokens left, every loop has enough turns
  pub plenty : {A : Type 0} (m : Act A) (Q : St → Type 0) (s₀ s : St) → Later s₀ s → 2 + length s.tokens ≤ n
      → ((s' : St) → length s'.tokens ≤ length s.tokens → Q s') → Enough m Q s
  plenty (done a) Q s₀ s z h q = q s (omega arith)
  plenty (peek k) Q s₀ s z h q = plenty (k (next_token s.tokens)) Q s₀ s z h q
  plenty (consume r k) Q s₀ s z h q =
      plenty (k (next_token s.tokens)) Q s₀ (advance r s) (later_trans z (later_advance r s))
      (omega (arith, Gr.tail_le s.tokens)) (λ s' d. q s' (omega (arith, Gr.tail_le s.tokens)))
  plenty (make e m) Q s₀ s z h q = plenty m Q s₀ (push e s) (later_trans z (later_push e s)) h q
  plenty (when◌then◌else◌ b m m') Q s₀ s z h q = (λ _. plenty m Q s₀ s z h q, λ _. plenty m' Q s₀ s z h q)
  plenty (call g k) Q s₀ s z h q =
      λ a s' l c. plenty (k a) Q s₀ s' (later_trans z l) (omega (arith, later_left l))
      (λ s'' d. q s'' (omega (arith, later_left l)))
  plenty (loop g k) Q s₀ s z h q = (
    omega (arith, rank_le g),
    λ a s' l. plenty (k a) Q s₀ s' (later_trans z l) (omega (arith, later_left l))
        (λ s'' d. q s'' (omega (arith, later_left l))),
  )
  plenty panic Q s₀ s z h q = tt

  enough_bind : {A B : Type 0} (m : Act A) (f : A → Act B) (P Q : St → Type 0) (s : St) → Enough m P s
      → ((a : A) (s' : St) → P s' → Enough (f a) Q s') → Enough (m >>= f) Q s
  unfolding ◌>>=◌
  enough_bind (done a) f P Q s h q = q a s h
  enough_bind (peek k) f P Q s h q = enough_bind (k (next_token s.tokens)) f P Q s h q
  enough_bind (consume r k) f P Q s h q = enough_bind (k (next_token s.tokens)) f P Q (advance r s) h q
  enough_bind (make e m) f P Q s h q = enough_bind m f P Q (push e s) h q
  enough_bind (when◌then◌else◌ b m m') f P Q s h q = (λ d. enough_bind m f P Q s (h.0 d) q, λ d. enough_bind m' f P Q s (h.1 d) q)
  enough_bind (call g k) f P Q s h q = λ a s' l c. enough_bind (k a) f P Q s' (h a s' l c) q
  enough_bind (loop g k) f P Q s h q = (h.0, λ a s' l. enough_bind (k a) f P Q s' (h.1 a s' l) q)
  enough_bind panic f P Q s h q = tt

  -- the first step is to read a token or to make a call
  abbrev First : {A : Type 0} → Act A → Type 0
  First (done a) = ⊥
  First (peek k) = (t : Tok) → First (k t)
  First (consume r k) = Unit {0}
  First (make e m) = ⊥
  First (when◌then◌else◌ b m m') = (b ≡ true → First m) × (b ≡ false → First m')
  First (call g k) = Unit {0}
  First (loop l k) = ⊥
  First panic = Unit {0}

  abbrev Less : St → St → Type 0
  Less s s' = length s'.tokens < length s.tokens

  begins : {A : Type 0} (m : Act A) (s : St) → next_token s.tokens is K.End ≡ false → First m → 1 + length s.tokens ≤ n → Enough m (Less s) s
  begins (done a) s e r h = absurd r
  begins (peek k) s e r h = begins (k (next_token s.tokens)) s e (r (next_token s.tokens)) h
  begins (consume p k) s e r h =
      plenty (k (next_token s.tokens)) (Less s) s (advance p s) (later_advance p s)
      (omega (arith, Gr.tail_lt s.tokens e)) (λ s' d. omega (arith, Gr.tail_lt s.tokens e))
  begins (make x m) s e r h = absurd r
  begins (when◌then◌else◌ b m m') s e r h = (λ d. begins m s e (r.0 d) h, λ d. begins m' s e (r.1 d) h)
  begins (call g k) s e r h = λ a s' l c. plenty (k a) (Less s) s s' l (omega (arith, c e)) (λ s'' d. omega (arith, c e))
  begins (loop l k) s e r h = absurd r
  begins panic s e r h = tt

  follows : {A B : Type 0} (r : Res A) (f : A → St → Res B) (P : A → St → Type 0) → After P r → Moves r
      → ((a : A) (s : St) → P a s → Moves (f a s)) → Moves (after r f)
  follows (gives a s) f P p m h = h a s p
  follows (refused k) f P p m h = m

  limited : {A : Type 0} (b : Bool) (r : Res A) → Moves r → Moves {A = A} (elim b as (λ _. Res A) [ true ↦ r | false ↦ refused 12 ])
  limited true r h = h
  limited false r h = tt

  module _ (c : Goal → St → Res (Ans Node)) (o : (l : Loop) → St → Res (Left l))
      (c_after : (g : Goal) (s : St) → After (λ a s'. Later s s' × Called s s') (c g s)) (c_moves : (g : Goal) (s : St) → Moves (c g s))
      (o_after : (l : Loop) (s : St) → After (λ a s'. Later s s') (o l s)) (o_moves : (l : Loop) (s : St) → rank l + length s.tokens ≤ n → Moves (o l s)) where
    run_moves : {A : Type 0} (m : Act A) (Q : St → Type 0) (s : St) → Enough m Q s → Moves (run c o m s)
    unfolding run
    run_moves (done a) Q s h = tt
    run_moves (peek k) Q s h = run_moves (k (next_token s.tokens)) Q s h
    run_moves (consume r k) Q s h = run_moves (k (next_token s.tokens)) Q (advance r s) h
    run_moves (make e m) Q s h = limited (ltb (length s.full) 255) (run c o m (push e s)) (run_moves m Q (push e s) h)
    run_moves (when◌then◌else◌ true m m') Q s h = run_moves m Q s (h.0 refl)
    run_moves (when◌then◌else◌ false m m') Q s h = run_moves m' Q s (h.1 refl)
    run_moves (call g k) Q s h =
        follows (c g s) (λ a s'. run c o (k a) s') (λ a s'. Later s s' × Called s s') (c_after g s)
        (c_moves g s) (λ a s' p. run_moves (k a) Q s' (h a s' p.0 p.1))
    run_moves (loop g k) Q s h =
        follows (o g s) (λ a s'. run c o (k a) s') (λ a s'. Later s s') (o_after g s) (o_moves g s h.0)
        (λ a s' p. run_moves (k a) Q s' (h.1 a s' p))
    run_moves panic Q s h = tt

-- ---- the turns

abbrev pub any : St → Type 0
any s = Unit {0}

first_item : (n : ℕ) (k : Listed) → First n (P.item k)
unfolding P.parse_named_type P.parse_typed_identifier P.parse_compound_struct_field ◌>>=◌
first_item n Parameters = tt
first_item n Arguments = tt
first_item n StructFields = tt
first_item n ArrayValues = tt
first_item n StructValues = tt

find_enough : {A : Type 0} (n : ℕ) (os : List P.Op) (y : ℕ → Act A) (m : Act A) (Q : St → Type 0) (s : St) → Positive os
    → ((o : ℕ) → length (tail s.tokens) < length s.tokens → Enough n (y o) Q s) → Enough n m Q s
    → Enough n (P.find (next_token s.tokens) os y m) Q s
find_enough n [] y m Q s p h e = e
find_enough n (o ∷ os) y m Q s p h e = (λ i. h o.op (there o.kind p.0 s.tokens i), λ _. find_enough n os y m Q s p.1 h e)

-- an item of a module reads a token
moved : (s s' : St) → Later s s' → next_token s.tokens is K.End ≡ false → next_token s'.tokens is K.End ≡ true → length s'.tokens < length s.tokens
moved s s' l e e' = go l.eaten l.tokens
  where
    go : (cs : List Consumed) → s.tokens ≡ toks cs ++ s'.tokens → length s'.tokens < length s.tokens
    go [] q = never_both e' (subst (λ (ts : List Tok). next_token ts is K.End ≡ false) q e)
    go (c ∷ cs) q = omega (arith, ap length q, length-append (toks cs) s'.tokens)

alias_enough : (n : ℕ) (s : St) → next_token s.tokens is K.End ≡ false → 1 + length s.tokens ≤ n
    → Enough n P.parse_type_alias (λ s'. length s'.tokens < length s.tokens) s
unfolding P.parse_type_alias P.alias_rule ◌>>=◌
alias_enough n s e h = (
  h,
  λ w t l. (
    λ i. (
      λ _. tt,
      λ _. (
        λ _. omega (arith, there K.KwType tt t.tokens i, later_left l, Gr.tail_le (tail t.tokens)),
        λ _. (
          λ _ a u l₂ c. elim a as (λ k. Enough n (or_return (λ ty. P.expect K.Semicolon >>? λ x. P.good (P.node ty.item.recs T.TypeAlias (next_token s.tokens).place (byte (w.distinct + w.internal) ∷ []) (next_token (advance (λ x'. plain) t).tokens).text) ty.errors) k) (λ s'. length s'.tokens < length s.tokens) u)
              [ ok ty ↦ (λ _. omega (arith, shorter t i, later_left l, later_left l₂, Gr.tail_le u.tokens), λ _. (λ _. omega (arith, shorter t i, later_left l, later_left l₂, Gr.tail_le u.tokens), λ _. omega (arith, shorter t i, later_left l, later_left l₂, Gr.tail_le u.tokens))) | fatal es ↦ omega (arith, shorter t i, later_left l, later_left l₂) ],
          λ _.
              (λ _. omega (arith, shorter t i, later_left l), λ _. omega (arith, shorter t i, later_left l)),
        ),
      ),
    ),
    λ _. (λ z. omega (arith, moved s t l e z, Gr.tail_le t.tokens), λ z. omega (arith, Gr.tail_lt t.tokens z, later_left l)),
  ),
)
  where
    shorter : (t : St) → next_token t.tokens is K.KwType ≡ true → length (tail (tail (tail t.tokens))) < length t.tokens
    shorter t i = omega (arith, there K.KwType tt t.tokens i, Gr.tail_le (tail t.tokens), Gr.tail_le (tail (tail t.tokens)))

item_enough : (n : ℕ) (s : St) → next_token s.tokens is K.End ≡ false → 1 + length s.tokens ≤ n
    → Enough n P.parse_top_level_item (λ s'. length s'.tokens < length s.tokens) s
unfolding P.parse_top_level_item P.parse_function_definition P.function P.parse_use P.path_rule P.parse_top_level_var_declaration ◌>>=◌
item_enough n s e h = (
  λ _. begins n P.parse_function_definition s e (λ t. (λ _. tt, λ _. tt)) h,
  λ _. (
    λ _. alias_enough n s e h,
    λ _. (
      λ _. begins n P.parse_use s e (λ t. tt) h,
      λ _. (
        λ _. begins n P.parse_top_level_var_declaration s e (λ t. tt) h,
        λ _.
            (λ _. Gr.tail_lt s.tokens e, λ _. Gr.tail_lt s.tokens e),
      ),
    ),
  ),
)

pub turn_enough : (n : ℕ) (l : Loop) (s : St) → rank l + length s.tokens ≤ suc n → Enough n (turn l) any s
unfolding P.module_turn P.body_turn P.list_turn P.operators_turn P.casts_turn P.suffixes_turn P.modifiers_turn
turn_enough n (Module i) s h = (
  λ _. tt,
  λ e. enough_bind n P.parse_top_level_item _ (λ s'. length s'.tokens < length s.tokens) any s
      (item_enough n s e (omega arith)) (λ a s' d. (omega arith, λ b s'' l. tt)),
)
turn_enough n (Body i) s h = (λ _. tt, λ _. (λ _. tt, λ e a s' l c. (omega (arith, c e), λ b s'' l₂. tt)))
turn_enough n (ListOf k i) s h = (
  λ _. tt,
  λ e. (
    λ _. tt,
    λ _. enough_bind n (P.item k) _ (λ s'. length s'.tokens < length s.tokens) any s
        (begins n (P.item k) s e (first_item n k) (omega arith))
        (λ a s' d. plenty n (P.after_item k (P.integrate i a)) any s' s' (later_refl s') (omega arith) (λ s'' d. tt)),
  ),
)
turn_enough n (Operators l e) s h =
    find_enough n (P.mapping l)
    (λ o. next λ op. P.cascade l >>? λ r. loop (Operators l (P.binary 0x2D (byte o ∷ []) op.place e r)) done)
    (done (ok e)) any s (mapping_positive l) (λ o d. plenty n
    (P.cascade l >>? λ r. loop (Operators l (P.binary 0x2D (byte o ∷ []) (next_token s.tokens).place e r)) done) any
    (advance (λ _. plain) s) (advance (λ _. plain) s) (later_refl (advance (λ _. plain) s)) (omega arith)
    (λ s'' d. tt)) tt
turn_enough n (Casts e) s h = (
  λ i. plenty n (P.parse_type >>? λ ty. loop (Casts (P.binary 0x26 [] (next_token s.tokens).place e ty)) done) any
      (advance (λ _. plain) s) (advance (λ _. plain) s) (later_refl (advance (λ _. plain) s))
      (omega (arith, there K.KwAs tt s.tokens i)) (λ s'' d. tt),
  λ _. tt,
)
turn_enough n (Suffixes e) s h = (
  λ i. (λ _. tt, λ _. (λ _. (omega (arith, there K.Dot tt s.tokens i, Gr.tail_le (tail s.tokens)), λ a s' l. tt), λ _. tt)),
  λ _. (
    λ i. (omega (arith, there K.DotStar tt s.tokens i), λ a s' l. tt),
    λ _. (
      λ i. plenty n (P.parse_expression >>? λ x. P.expect K.RBracket >>? λ _. loop
          (Suffixes (P.binary 0x25 [] (next_token s.tokens).place e x)) done) any (advance (λ _. plain) s)
          (advance (λ _. plain) s) (later_refl (advance (λ _. plain) s))
          (omega (arith, there K.LBracket tt s.tokens i)) (λ s'' d. tt),
      λ _. tt,
    ),
  ),
)
turn_enough n (Modifiers w) s h = (
  λ i. (omega (arith, there K.KwDistinct tt s.tokens i), λ a s' l. tt),
  λ _.
      (λ i. (omega (arith, there K.KwInternal tt s.tokens i), λ a s' l. tt), λ _. tt),
)

-- ---- a reading gives an answer, or is refused with 10, 11 or 12

-- after a call the state is later, and a token was read if there was one
pub parse_after : (n : ℕ) (g : Goal) (s : St) → After (λ a s'. Later s s' × Called s s') (parse n g s)
parse_after n g s = parse_ind Gr.G Gr.L Gr.R Gr.M (λ s. tt) (λ e s. tt) Gr.rules Gr.turns n g s

loops_moves : (c : Goal → St → Res (Ans Node)) → ((g : Goal) (s : St) → After (λ a s'. Later s s' × Called s s') (c g s))
    → ((g : Goal) (s : St) → Moves (c g s))
    → (n : ℕ) (l : Loop) (s : St) → rank l + length s.tokens ≤ n → Moves (loops c n l s)
unfolding loops
loops_moves c ca cm zero l s h = absurd (none l h)
  where
    none : (l : Loop) → rank l + length s.tokens ≤ 0 → ⊥
    none (Module i) h = omega arith
    none (Body i) h = omega arith
    none (ListOf k i) h = omega arith
    none (Operators l e) h = omega arith
    none (Casts e) h = omega arith
    none (Suffixes e) h = omega arith
    none (Modifiers w) h = omega arith
loops_moves c ca cm (suc n) l s h =
    run_moves n c (λ m t. loops c n m t) ca cm
    (λ m t. loops_later c (λ g s. weaken (c g s) (λ a s' p. p.0) (ca g s)) n m t)
    (λ m t. loops_moves c ca cm n m t) (turn l) any s (turn_enough n l s h)

parse_moves : (n : ℕ) (g : Goal) (s : St) → Moves (parse n g s)
unfolding parse
parse_moves zero g s = tt
parse_moves (suc n) g s =
    run_moves (2 + length s.tokens) (λ h t. parse n h t)
    (λ l t. loops (λ h u. parse n h u) (suc (suc (length t.tokens))) l t) (λ h t. parse_after n h t)
    (λ h t. parse_moves n h t)
    (λ l t. loops_later (λ h u. parse n h u) (λ h u. parse_later n h u) (suc (suc (length t.tokens))) l t)
    (λ l t d. loops_moves (λ h u. parse n h u) (λ h u. parse_after n h u) (λ h u. parse_moves n h u)
    (suc (suc (length t.tokens))) l t (omega (arith, rank_le l)))
    (rule g) any s (plenty (2 + length s.tokens) (rule g) any s s (later_refl s) (omega arith) (λ s' d. tt))

pub module_moves_within : (n : ℕ) (full : List Err) (ts : List Tok) → Moves (parse_module_within n full ts)
unfolding parse_module_within
module_moves_within n full ts =
    loops_moves (λ g s. parse n g s) (λ g s. parse_after n g s) (λ g s. parse_moves n g s)
    (suc (suc (length ts))) (Module (P.no_items [])) (begin full ts) (omega arith)

pub module_moves : (full : List Err) (ts : List Tok) → Moves (parse_module full ts)
unfolding parse_module
module_moves full ts = module_moves_within 96 full ts
