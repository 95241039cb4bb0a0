-- The induction over the parser: what is proved of each rule and each turn, assuming it of the calls and loops in
-- them, holds of all. Assumes nothing.
use mathlib.Core.Path.{◌≡◌, refl}
use mathlib.Core.Bool.{Bool, true, false}
use mathlib.Core.List.{List, [], ◌∷◌}
use Prim.Native.Nat.{ℕ, zero, suc, ◌<◌}
use native.Mathlib.Omega.{arith}
use lib.Dec.{ltb, T, ltb→lt}
use lib.ListN.{length}
use Rattle.definition.specs.Fallible.{Err, Fallible, Ans, ok, fatal}
use Rattle.definition.specs.Token.{Tok, next_token}
use Rattle.definition.specs.Act.{Node, Items, Words, Goal, Loop, Module, Body, ListOf, Operators, Casts, Suffixes, Modifiers, Level, BitOr, BitXor, BitAnd, Shift, AddSub, Mul, Left, Act, done, peek, consume, make, when◌then◌else◌, call, loop, panic, St, begin, Res, gives, refused, after, advance, push, run, ◌>>=◌, ◌>>?◌, or_return}
use Rattle.definition.specs.Parser as P
use Rattle.definition.specs.Parser.{rule, turn, loops, parse, parse_module, no_items}
use Rattle.definition.proofs.Tests.{is_kind}
use Rattle.definition.proofs.Later.{Later, later_refl, later_trans, later_advance, later_push, After}

-- the answer of a call or a loop, and the continuation
pub join : {A B : Type 0} (P : A → St → Type 0) (Q : B → St → Type 0) (r : Res A) (f : A → St → Res B) → After P r
    → ((a : A) (s : St) → P a s → After Q (f a s)) → After Q (after r f)
join P Q (gives a s) f p h = h a s p
join P Q (refused n) f p h = tt

-- an error is made if the full list has room
pub limit : {A : Type 0} (Q : A → St → Type 0) (b : Bool) (r : Res A) → (T b → After Q r)
    → After Q (elim b as (λ _. Res A) [ true ↦ r | false ↦ refused 12 ])
limit Q true r h = h tt
limit Q false r h = tt

-- a predicate on each answer, `Ans` by its two cases
abbrev pub EachAns : (Ans Node → Type 0) → Type 0
EachAns P = ((x : Fallible Node) → P (ok x)) × ((es : List Err) → P (fatal es))

-- a predicate on each result of a loop, by cases
abbrev pub Each : (l : Loop) → (Left l → Type 0) → Type 0
Each (Module i) P = (a : Items) → P a
Each (Body i) P = (a : Items) → P a
Each (ListOf k i) P = (a : Items) → P a
Each (Operators l e) P = EachAns P
Each (Casts e) P = EachAns P
Each (Suffixes e) P = EachAns P
Each (Modifiers w) P = (a : Words) → P a

pub each_ans : (P : Ans Node → Type 0) → EachAns P → (a : Ans Node) → P a
each_ans P h (ok x) = h.0 x
each_ans P h (fatal es) = h.1 es

pub each : (l : Loop) (P : Left l → Type 0) → Each l P → (a : Left l) → P a
each (Module i) P h a = h a
each (Body i) P h a = h a
each (ListOf k i) P h a = h a
each (Operators l e) P h a = each_ans P h a
each (Casts e) P h a = each_ans P h a
each (Suffixes e) P h a = each_ans P h a
each (Modifiers w) P h a = h a

pub to_each : (l : Loop) (P : Left l → Type 0) → ((a : Left l) → P a) → Each l P
to_each (Module i) P h = h
to_each (Body i) P h = h
to_each (ListOf k i) P h = h
to_each (Operators l e) P h = (λ x. h (ok x), λ es. h (fatal es))
to_each (Casts e) P h = (λ x. h (ok x), λ es. h (fatal es))
to_each (Suffixes e) P h = (λ x. h (ok x), λ es. h (fatal es))
to_each (Modifiers w) P h = h

-- a good answer, whose item satisfies W
abbrev pub Sure : {A : Type 0} → (Fallible A → St → Type 0) → Ans A → St → Type 0
Sure W (ok x) s = W x s
Sure W (fatal es) s = ⊥

-- a list of operators, whose kinds are not 0
abbrev pub Positive : List P.Op → Type 0
Positive [] = Unit {0}
Positive (o ∷ os) = T (ltb 0 o.kind) × Positive os

pub mapping_positive : (l : Level) → Positive (P.mapping l)
mapping_positive BitOr = (tt, tt)
mapping_positive BitXor = (tt, tt)
mapping_positive BitAnd = (tt, tt)
mapping_positive Shift = (tt, (tt, tt))
mapping_positive AddSub = (tt, (tt, tt))
mapping_positive Mul = (tt, tt)

pub comparisons_positive : Positive P.comparisons
comparisons_positive = (tt, (tt, (tt, (tt, (tt, tt)))))

-- G, L: what holds after a call, after a loop; R, M: what may be assumed where a token is read, an error is made
module _ (G : Goal → St → Ans Node → St → Type 0) (L : (l : Loop) → St → Left l → St → Type 0) (R : St → Type 0)
    (M : Err → St → Type 0) where
  -- the weakest precondition of an act, for Q to hold after it
  abbrev pub wp : {A : Type 0} → Act A → (A → St → Type 0) → St → Type 0
  wp (done a) Q s = Q a s
  wp (peek k) Q s = wp (k (next_token s.tokens)) Q s
  wp (consume r k) Q s = R s → wp (k (next_token s.tokens)) Q (advance r s)
  wp (make e m) Q s = M e s → wp m Q (push e s)
  wp (when◌then◌else◌ b m n) Q s = (b ≡ true → wp m Q s) × (b ≡ false → wp n Q s)
  wp (call g k) Q s = EachAns (λ a. (s' : St) → Later s s' → G g s a s' → wp (k a) Q s')
  wp (loop l k) Q s = Each l (λ a. (s' : St) → Later s s' → L l s a s' → wp (k a) Q s')
  wp panic Q s = Unit {0}

  pub wp_always : {A : Type 0} (Q : A → St → Type 0) (m : Act A) (s : St) → ((a : A) (s' : St) → Q a s') → wp m Q s
  wp_always Q (done a) s h = h a s
  wp_always Q (peek k) s h = wp_always Q (k (next_token s.tokens)) s h
  wp_always Q (consume p k) s h = λ r. wp_always Q (k (next_token s.tokens)) (advance p s) h
  wp_always Q (make x m) s h = λ r. wp_always Q m (push x s) h
  wp_always Q (when◌then◌else◌ b m n) s h = (λ d. wp_always Q m s h, λ d. wp_always Q n s h)
  wp_always Q (call g k) s h = (λ x s' l p. wp_always Q (k (ok x)) s' h, λ es s' l p. wp_always Q (k (fatal es)) s' h)
  wp_always Q (loop g k) s h = to_each g (λ a. (s' : St) → Later s s' → L g s a s' → wp (k a) Q s') (λ a s' l p. wp_always Q (k a) s' h)
  wp_always Q panic s h = tt

  pub wp_mono : {A : Type 0} (P Q : A → St → Type 0) (m : Act A) (s : St) → ((a : A) (s' : St) → P a s' → Q a s') → wp m P s → wp m Q s
  wp_mono P Q (done a) s h w = h a s w
  wp_mono P Q (peek k) s h w = wp_mono P Q (k (next_token s.tokens)) s h w
  wp_mono P Q (consume p k) s h w = λ r. wp_mono P Q (k (next_token s.tokens)) (advance p s) h (w r)
  wp_mono P Q (make x m) s h w = λ r. wp_mono P Q m (push x s) h (w r)
  wp_mono P Q (when◌then◌else◌ b m n) s h w = (λ d. wp_mono P Q m s h (w.0 d), λ d. wp_mono P Q n s h (w.1 d))
  wp_mono P Q (call g k) s h w = (
    λ x s' l p. wp_mono P Q (k (ok x)) s' h (w.0 x s' l p),
    λ es s' l p. wp_mono P Q (k (fatal es)) s' h
        (w.1 es s' l p),
  )
  wp_mono P Q (loop g k) s h w =
      to_each g (λ a. (s' : St) → Later s s' → L g s a s' → wp (k a) Q s')
      (λ a s' l p. wp_mono P Q (k a) s' h (each g (λ a. (s' : St) → Later s s' → L g s a s' → wp (k a) P s') w a s' l p))
  wp_mono P Q panic s h w = tt

  pub wp_bind : {A B : Type 0} (m : Act A) (f : A → Act B) (Q : B → St → Type 0) (s : St) → wp m (λ a s'. wp (f a) Q s') s
      → wp (m >>= f) Q s
  unfolding ◌>>=◌
  wp_bind (done a) f Q s h = h
  wp_bind (peek k) f Q s h = wp_bind (k (next_token s.tokens)) f Q s h
  wp_bind (consume p k) f Q s h = λ r. wp_bind (k (next_token s.tokens)) f Q (advance p s) (h r)
  wp_bind (make x m) f Q s h = λ r. wp_bind m f Q (push x s) (h r)
  wp_bind (when◌then◌else◌ b m n) f Q s h = (λ d. wp_bind m f Q s (h.0 d), λ d. wp_bind n f Q s (h.1 d))
  wp_bind (call g k) f Q s h = (
    λ x s' l p. wp_bind (k (ok x)) f Q s' (h.0 x s' l p),
    λ es s' l p. wp_bind (k (fatal es)) f Q s'
        (h.1 es s' l p),
  )
  wp_bind (loop g k) f Q s h =
      to_each g (λ a. (s' : St) → Later s s' → L g s a s' → wp (k a >>= f) Q s')
      (λ a s' l p. wp_bind (k a) f Q s'
      (each g (λ a. (s' : St) → Later s s' → L g s a s' → wp (k a) (λ a s'. wp (f a) Q s') s') h a s' l p))
  wp_bind panic f Q s h = tt

  -- Q may use that the state after the act is later
  pub wp_later : {A : Type 0} (P Q : A → St → Type 0) (m : Act A) (s₀ s : St) → Later s₀ s
      → ((a : A) (s' : St) → Later s₀ s' → P a s' → Q a s') → wp m P s → wp m Q s
  wp_later P Q (done a) s₀ s l h w = h a s l w
  wp_later P Q (peek k) s₀ s l h w = wp_later P Q (k (next_token s.tokens)) s₀ s l h w
  wp_later P Q (consume p k) s₀ s l h w = λ r. wp_later P Q (k (next_token s.tokens)) s₀ (advance p s) (later_trans l (later_advance p s)) h (w r)
  wp_later P Q (make x m) s₀ s l h w = λ r. wp_later P Q m s₀ (push x s) (later_trans l (later_push x s)) h (w r)
  wp_later P Q (when◌then◌else◌ b m n) s₀ s l h w = (λ d. wp_later P Q m s₀ s l h (w.0 d), λ d. wp_later P Q n s₀ s l h (w.1 d))
  wp_later P Q (call g k) s₀ s l h w = (
    λ x s' k' p. wp_later P Q (k (ok x)) s₀ s' (later_trans l k') h (w.0 x s' k' p),
    λ es s' k' p. wp_later P
        Q (k (fatal es)) s₀ s' (later_trans l k') h (w.1 es s' k' p),
  )
  wp_later P Q (loop g k) s₀ s l h w =
      to_each g (λ a. (s' : St) → Later s s' → L g s a s' → wp (k a) Q s')
      (λ a s' k' p. wp_later P Q (k a) s₀ s' (later_trans l k') h
      (each g (λ a. (s' : St) → Later s s' → L g s a s' → wp (k a) P s') w a s' k' p))
  wp_later P Q panic s₀ s l h w = tt

  -- an act after which P holds, and its continuation
  pub follow : {A B : Type 0} (m : Act A) (f : A → Act B) (P : A → St → Type 0) (Q : B → St → Type 0) (s : St) → wp m P s
      → ((a : A) (s' : St) → Later s s' → P a s' → wp (f a) Q s') → wp (m >>= f) Q s
  follow m f P Q s w h = wp_bind m f Q s (wp_later P (λ a s'. wp (f a) Q s') m s s (later_refl s) h w)

  -- the same under `?`
  pub try : {A B : Type 0} (m : Act (Ans A)) (f : Fallible A → Act (Ans B)) (P : Ans A → St → Type 0) (Q : Ans B → St → Type 0) (s : St)
      → wp m P s → ((x : Fallible A) (s' : St) → P (ok x) s' → wp (f x) Q s')
      → ((es : List Err) (s' : St) → P (fatal es) s' → Q (fatal es) s') → wp (m >>? f) Q s
  try {A} {B} m f P Q s w h e = follow m (or_return f) P Q s w go
    where
      go : (a : Ans A) (s' : St) → Later s s' → P a s' → wp (or_return f a) Q s'
      go (ok x) s' l p = h x s' p
      go (fatal es) s' l p = e es s' p

  -- the same under `?`, where the answer is good
  pub try_sure : {A B : Type 0} (W : Fallible A → St → Type 0) (m : Act (Ans A)) (f : Fallible A → Act (Ans B))
      (Q : Ans B → St → Type 0) (s : St)
      → wp m (Sure W) s → ((x : Fallible A) (s' : St) → Later s s' → W x s' → wp (f x) Q s') → wp (m >>? f) Q s
  try_sure {A} {B} W m f Q s w h = follow m (or_return f) (Sure W) Q s w go
    where
      go : (a : Ans A) (s' : St) → Later s s' → Sure W a s' → wp (or_return f a) Q s'
      go (ok x) s' l p = h x s' l p
      go (fatal es) s' l p = absurd p

  -- from P to Q, by the two cases of an answer
  pub via : {A : Type 0} (m : Act (Ans A)) (P Q : Ans A → St → Type 0) (s : St) → wp m P s
      → ((x : Fallible A) (s' : St) → P (ok x) s' → Q (ok x) s')
      → ((es : List Err) (s' : St) → P (fatal es) s' → Q (fatal es) s') → wp m Q s
  via {A} m P Q s w h e = wp_mono P Q m s go w
    where
      go : (a : Ans A) (s' : St) → P a s' → Q a s'
      go (ok x) s' p = h x s' p
      go (fatal es) s' p = e es s' p

  -- the token is one of the operators, or none of them
  pub wp_find : {A : Type 0} (os : List P.Op) (y : ℕ → Act A) (n : Act A) (Q : A → St → Type 0) (s : St) (t : Tok)
      → Positive os → (0 < t.kind → (o : ℕ) → wp (y o) Q s) → wp n Q s → wp (P.find t os y n) Q s
  wp_find [] y n Q s t p h e = e
  wp_find (o ∷ os) y n Q s t p h e = (
    λ i. h (omega (arith, is_kind t o.kind i, ltb→lt 0 o.kind p.0)) o.op,
    λ _. wp_find os y n Q s t p.1 h e,
  )

  -- what holds after parse_cast, and is kept by the loop of a level, holds after each level
  module _ (Q : Ans Node → St → Type 0) (s : St)
      (more : (l : Level) (x : Fallible Node) (s' : St) → Q (ok x) s'
      → EachAns (λ a. (s'' : St) → Later s' s'' → L (Operators l x) s' a s'' → Q a s''))
      (cast : wp P.parse_cast Q s) where
    level : (l : Level) (m : Act (Ans Node)) → wp m Q s → wp (m >>? λ e. loop (Operators l e) done) Q s
    level l m w = try m (λ e. loop (Operators l e) done) Q Q s w (λ x s' p. more l x s' p) (λ es s' p. p)

    wp_mul : wp P.parse_mul Q s
    unfolding P.parse_mul
    wp_mul = level Mul P.parse_cast cast

    wp_add_sub : wp P.parse_add_sub Q s
    unfolding P.parse_add_sub
    wp_add_sub = level AddSub P.parse_mul wp_mul

    wp_bit_shift : wp P.parse_bit_shift Q s
    unfolding P.parse_bit_shift
    wp_bit_shift = level Shift P.parse_add_sub wp_add_sub

    wp_bitwise_and : wp P.parse_bitwise_and Q s
    unfolding P.parse_bitwise_and
    wp_bitwise_and = level BitAnd P.parse_bit_shift wp_bit_shift

    wp_bitwise_xor : wp P.parse_bitwise_xor Q s
    unfolding P.parse_bitwise_xor
    wp_bitwise_xor = level BitXor P.parse_bitwise_and wp_bitwise_and

    pub wp_bitwise_or : wp P.parse_bitwise_or Q s
    unfolding P.parse_bitwise_or
    wp_bitwise_or = level BitOr P.parse_bitwise_xor wp_bitwise_xor

    pub wp_cascade : (l : Level) → wp (P.cascade l) Q s
    wp_cascade BitOr = wp_bitwise_xor
    wp_cascade BitXor = wp_bitwise_and
    wp_cascade BitAnd = wp_bit_shift
    wp_cascade Shift = wp_add_sub
    wp_cascade AddSub = wp_mul
    wp_cascade Mul = cast

  module _ (r_ok : (s : St) → R s) (m_ok : (e : Err) (s : St) → M e s) where
    module _ (c : Goal → St → Res (Ans Node)) (o : (l : Loop) → St → Res (Left l))
        (c_ok : (g : Goal) (s : St) → After (λ a s'. Later s s' × G g s a s') (c g s))
        (o_ok : (l : Loop) (s : St) → After (λ a s'. Later s s' × L l s a s') (o l s)) where
      -- if the precondition of an act holds, Q holds after its run
      pub sound : {A : Type 0} (Q : A → St → Type 0) (m : Act A) (s₀ s : St) → Later s₀ s → wp m Q s
          → After (λ a s'. Later s₀ s' × Q a s') (run c o m s)
      unfolding run
      sound Q (done a) s₀ s l h = (l, h)
      sound Q (peek k) s₀ s l h = sound Q (k (next_token s.tokens)) s₀ s l h
      sound Q (consume r k) s₀ s l h = sound Q (k (next_token s.tokens)) s₀ (advance r s) (later_trans l (later_advance r s)) (h (r_ok s))
      sound Q (make e m) s₀ s l h =
          limit (λ a s'. Later s₀ s' × Q a s') (ltb (length s.full) 255) (run c o m (push e s))
          (λ _. sound Q m s₀ (push e s) (later_trans l (later_push e s)) (h (m_ok e s)))
      sound Q (when◌then◌else◌ true m n) s₀ s l h = sound Q m s₀ s l (h.0 refl)
      sound Q (when◌then◌else◌ false m n) s₀ s l h = sound Q n s₀ s l (h.1 refl)
      sound Q (call g k) s₀ s l h =
          join (λ a s'. Later s s' × G g s a s') (λ a s'. Later s₀ s' × Q a s') (c g s) (λ a s'. run c o (k a) s') (c_ok g s)
          (λ a s' p. sound Q (k a) s₀ s' (later_trans l p.0)
          (each_ans (λ a. (s' : St) → Later s s' → G g s a s' → wp (k a) Q s') h a s' p.0 p.1))
      sound Q (loop g k) s₀ s l h =
          join (λ a s'. Later s s' × L g s a s') (λ a s'. Later s₀ s' × Q a s') (o g s) (λ a s'. run c o (k a) s') (o_ok g s)
          (λ a s' p. sound Q (k a) s₀ s' (later_trans l p.0)
          (each g (λ a. (s' : St) → Later s s' → L g s a s' → wp (k a) Q s') h a s' p.0 p.1))
      sound Q panic s₀ s l h = tt

    module _ (rules : (g : Goal) (s : St) → wp (rule g) (G g s) s) (turns : (l : Loop) (s : St) → wp (turn l) (L l s) s) where
      -- the induction: if each rule and turn meets its precondition, G holds after every call and L after every loop
      pub loops_ind : (c : Goal → St → Res (Ans Node)) → ((g : Goal) (s : St) → After (λ a s'. Later s s' × G g s a s') (c g s))
          → (n : ℕ) (l : Loop) (s : St) → After (λ a s'. Later s s' × L l s a s') (loops c n l s)
      unfolding loops
      loops_ind c c_ok zero l s = tt
      loops_ind c c_ok (suc n) l s =
          sound c (λ m t. loops c n m t) c_ok (λ m t. loops_ind c c_ok n m t) (L l s) (turn l) s s
          (later_refl s) (turns l s)

      pub parse_ind : (n : ℕ) (g : Goal) (s : St) → After (λ a s'. Later s s' × G g s a s') (parse n g s)
      unfolding parse
      parse_ind zero g s = tt
      parse_ind (suc n) g s =
          sound (λ h t. parse n h t) (λ l t. loops (λ h u. parse n h u) (suc (suc (length t.tokens))) l t)
          (λ h t. parse_ind n h t)
          (λ l t. loops_ind (λ h u. parse n h u) (λ h u. parse_ind n h u) (suc (suc (length t.tokens))) l t)
          (G g s) (rule g) s s (later_refl s) (rules g s)

      pub module_ind : (full : List Err) (ts : List Tok)
          → After (λ i s'. Later (begin full ts) s' × L (Module (no_items [])) (begin full ts) i s') (parse_module full ts)
      unfolding parse_module
      module_ind full ts =
          loops_ind (λ g s. parse 96 g s) (λ g s. parse_ind 96 g s) (suc (suc (length ts)))
          (Module (no_items [])) (begin full ts)
