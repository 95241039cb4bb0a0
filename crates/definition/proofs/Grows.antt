-- A call reads a token, if there is one. Assumes nothing.
use mathlib.Core.Path.{◌≡◌, refl}
use mathlib.Core.Bool.{Bool, true, false}
use mathlib.Core.List.{List, [], ◌∷◌}
use Prim.Native.Nat.{ℕ, ◌≤◌, ◌<◌}
use native.Mathlib.Omega.{arith}
use lib.Dec.{ltb, T, ltb→lt}
use lib.ListN.{length}
use Rattle.definition.specs.Kind as K
use Rattle.definition.specs.Token.{Tok, next_token, tail, ◌is◌, end_token}
use Rattle.definition.specs.Fallible.{Ans, Err, ok, fatal}
use Rattle.definition.specs.Act.{Node, Goal, Statement, Expression, Unary, Type', Loop, Left, Act, done, peek, consume, make, when◌then◌else◌, call, loop, panic, St, advance, push, ◌>>=◌}
use Rattle.definition.specs.Parser as P
use Rattle.definition.specs.Parser.{rule, turn, statement_rule, expression_rule, unary_rule, type_rule, parse_body, expression_statement, parse_call, parse_sizeof, parse_field_access_or_index, parse_atom, prefix, parse_comparison}
use Rattle.definition.proofs.Tests.{clash, never_both, is_kind}
use Rattle.definition.proofs.Later.{Later, later_left}
use Rattle.definition.proofs.Ind.{wp, wp_always, wp_mono, to_each}

abbrev pub Shorter : St → St → Type 0
Shorter s₀ s = length s.tokens < length s₀.tokens

-- the invariants for `wp`: a call leaves fewer tokens, if there were any
abbrev pub G : Goal → St → Ans Node → St → Type 0
G g s a s' = next_token s.tokens is K.End ≡ false → Shorter s s'

abbrev pub L : (l : Loop) → St → Left l → St → Type 0
L l s a s' = Unit {0}

abbrev pub R : St → Type 0
R s = Unit {0}

abbrev pub M : Err → St → Type 0
M e s = Unit {0}

pub tail_le : (ts : List Tok) → length (tail ts) ≤ length ts
tail_le [] = omega arith
tail_le (t ∷ ts) = omega arith

pub tail_lt : (ts : List Tok) → next_token ts is K.End ≡ false → length (tail ts) < length ts
tail_lt [] e = clash e
tail_lt (t ∷ ts) e = omega arith

-- if the next token is of the kind k, reading it leaves fewer tokens
pub there : (k : ℕ) → T (ltb 0 k) → (ts : List Tok) → next_token ts is k ≡ true → length (tail ts) < length ts
there k h [] i = absurd (omega (arith, is_kind end_token k i, ltb→lt 0 k h))
there k h (t ∷ ts) i = omega arith

-- fewer tokens stay fewer
stays : {A : Type 0} (s₀ : St) (m : Act A) (s : St) → Shorter s₀ s → wp G L R M m (λ a s'. Shorter s₀ s') s
stays s₀ (done a) s h = h
stays s₀ (peek k) s h = stays s₀ (k (next_token s.tokens)) s h
stays s₀ (consume r k) s h = λ _. stays s₀ (k (next_token s.tokens)) (advance r s) (omega (arith, tail_le s.tokens))
stays s₀ (make e m) s h = λ _. stays s₀ m (push e s) h
stays s₀ (when◌then◌else◌ b m n) s h = (λ e. stays s₀ m s h, λ e. stays s₀ n s h)
stays s₀ (call g k) s h = (
  λ x s' l p. stays s₀ (k (ok x)) s' (omega (arith, later_left l)),
  λ es s' l p. stays s₀ (k (fatal es)) s'
      (omega (arith, later_left l)),
)
stays s₀ (loop g k) s h =
    to_each g (λ a. (s' : St) → Later s s' → L g s a s' → wp G L R M (k a) (λ a s'. Shorter s₀ s') s')
    (λ a s' l p. stays s₀ (k a) s' (omega (arith, later_left l)))
stays s₀ panic s h = tt

-- the first step of an act, if there is a token, is to read it or to make a call
abbrev Reads : {A : Type 0} → Act A → Type 0
Reads (done a) = ⊥
Reads (peek k) = (t : Tok) → t is K.End ≡ false → Reads (k t)
Reads (consume r k) = Unit {0}
Reads (make e m) = ⊥
Reads (when◌then◌else◌ b m n) = (b ≡ true → Reads m) × (b ≡ false → Reads n)
Reads (call g k) = Unit {0}
Reads (loop l k) = ⊥
Reads panic = Unit {0}

reads : {A : Type 0} (s : St) (m : Act A) → next_token s.tokens is K.End ≡ false → Reads m → wp G L R M m (λ a s'. Shorter s s') s
reads s (done a) e r = absurd r
reads s (peek k) e r = reads s (k (next_token s.tokens)) e (r (next_token s.tokens) e)
reads s (consume p k) e r = λ _. stays s (k (next_token s.tokens)) (advance p s) (tail_lt s.tokens e)
reads s (make x m) e r = absurd r
reads s (when◌then◌else◌ b m n) e r = (λ d. reads s m e (r.0 d), λ d. reads s n e (r.1 d))
reads s (call g k) e r = (λ x s' l p. stays s (k (ok x)) s' (p e), λ es s' l p. stays s (k (fatal es)) s' (p e))
reads s (loop g k) e r = absurd r
reads s panic e r = tt

given : {A : Type 0} (Q : A → St → Type 0) (m : Act A) (s : St) (b : Bool) → (b ≡ false → wp G L R M m Q s)
    → wp G L R M m (λ a s'. b ≡ false → Q a s') s
given Q m s true h = wp_always G L R M (λ a s'. true ≡ false → Q a s') m s (λ a s' e. clash e)
given Q m s false h = wp_mono G L R M Q (λ a s'. false ≡ false → Q a s') m s (λ a s' q e. q) (h refl)

reads_first : (g : Goal) → Reads (rule g)
unfolding type_rule unary_rule expression_rule statement_rule ◌>>=◌ parse_body expression_statement parse_comparison P.parse_bitwise_or P.parse_bitwise_xor P.parse_bitwise_and P.parse_bit_shift P.parse_add_sub P.parse_mul P.parse_cast prefix parse_call parse_sizeof parse_field_access_or_index parse_atom P.parse_group
reads_first Statement =
    λ t e. (
      λ _. tt,
      λ _. (
        λ _. tt,
        λ _. (
          λ _. tt,
          λ _.
              (λ _. tt, λ _. (λ _. tt, λ _. (λ _. tt, λ _. (λ _. tt, λ _. (λ _. tt, λ _. (λ d. never_both d e, λ _. tt)))))),
        ),
      ),
    )
reads_first Expression = tt
reads_first Unary =
    λ t e. (
      λ _. tt,
      λ _. (
        λ _. tt,
        λ _. (
          λ _. tt,
          λ _. (
            λ _. tt,
            λ _. λ t e. (
              λ _. tt,
              λ _. λ t e.
                  (λ _. tt, λ _. (λ _. tt, λ _. (λ _. tt, λ _. (λ _. tt, λ _. (λ _. tt, λ _. (λ _. tt, λ _. tt)))))),
            ),
          ),
        ),
      ),
    )
reads_first Type' = tt

-- each rule reads a token, if there is one; of turns nothing is said
pub rules : (g : Goal) (s : St) → wp G L R M (rule g) (G g s) s
rules g s = given (λ a s'. Shorter s s') (rule g) s (next_token s.tokens is K.End) (λ e. reads s (rule g) e (reads_first g))

pub turns : (l : Loop) (s : St) → wp G L R M (turn l) (L l s) s
turns l s = wp_always G L R M (L l s) (turn l) s (λ a s'. tt)
