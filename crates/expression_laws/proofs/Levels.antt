-- The levels of an expression: boolean and, comparison, arithmetic operators, casts. Assumes nothing.
use mathlib.Core.Path.{◌≡◌, refl, ap, ◌∙◌}
use mathlib.Core.List.{List, [], ◌∷◌}
use Prim.Native.Nat.{◌-◌, ℕ, zero, suc, ◌+◌, ◌<◌, ◌≤◌}
use native.Mathlib.Numerals.{add-one}
use native.Mathlib.Omega.{arith}
use lib.ListN.{length}
use Rattle.definition.specs.Numbers.{kind_number}
use Rattle.std.specs.Prelude.{Option, Some}
use Rattle.std.specs.Prelude as Std
use Rattle.definition.specs.Node.{byte}
use Rattle.definition.specs.Fallible.{Fallible, Ans, ok}
use Rattle.definition.specs.Kind as K
use Rattle.definition.specs.Token.{next_token, ◌is◌}
use Rattle.definition.specs.Act as A
use Rattle.definition.specs.Act.{Act, done, Operators, Casts, Node, plain, St, run, next, ◌>>?◌}
use Rattle.definition.specs.Parser as P
use Rattle.definition.specs.Go.{go}
use Rattle.definition.proofs.Flat.{go_loop}
use Rattle.definition.specs.declared.tag.Tag.{Tag}
use Rattle.fallible.specs.declared.parser.State.{State}
use Rattle.fallible.specs.Answer.{Done, Answer}
use Rattle.fallible.specs.Answers.{Abandoned}
use Rattle.node.specs.Put.{placed}
use Rattle.node.specs.declared.Numbers.TheVariants.{None, Byte}
use Rattle.steps.specs.declared.tokens.Token.{Token}
use Rattle.steps.specs.Tokens.{rest, Seen}
use Rattle.steps.specs.Shows.{st_of, Asked, Reads, Goes, GoesOn, node, NodeWritten}
use Rattle.steps.proofs.Answers.{Stopped}
use Rattle.steps.proofs.Constructs.{then_stops}
use Rattle.steps.proofs.Records.{yes, no, fore, adv}
use Rattle.leaves.specs.Leaves.{level_at, operator_of}
use Rattle.leaves.proofs.Choices.{none_found, one_found, operator_real, level_end}
use Rattle.expression_laws.specs.Post.{operators_on, levels_at, casts_on}
use Rattle.expression_laws.proofs.Types.{past}
use Rattle.expression_laws.proofs.Joins.{then_asked, goes_none, goes_joined, goes_turn, goes_further}
use Rattle.fallible.specs.declared.error.Error.{Error}

-- ---- what follows an operand

abbrev pub and_on : Fallible Node → Act (Ans Node)
and_on e =
    A.peek λ t. A.when◌then◌else◌ (t is K.DoubleAmpersand)
    (next λ op. P.parse_comparison >>? λ r. done (ok (P.binary 0x2C [] op.place e r))) (done (ok e))

abbrev compared : Fallible Node → ℕ → Act (Ans Node)
compared e o = next λ op. P.parse_bitwise_or >>? λ r. done (ok (P.binary 0x2E (byte o ∷ []) op.place e r))

abbrev pub compare_on : Fallible Node → Act (Ans Node)
compare_on e = A.peek λ t. P.find t P.comparisons (compared e) (done (ok e))

abbrev operated : A.Level → Fallible Node → ℕ → Act (Ans Node)
operated l e o = next λ op. P.cascade l >>? λ r. operators_on l (P.binary 0x2D (byte o ∷ []) op.place e r)

-- a kind that is no operator
pub not_some : {A : Type 0} (r : Option A) → ((o : A) → r ≡ Some o → ⊥) → r ≡ Std.None
not_some Std.None n = refl
not_some (Some o) n = absurd (n o refl)

module _ {w x : List ℕ} {n d i j : ℕ} {o : List ℕ} {r f : List Error} {a : Answer} {t : Token} (q : GoesOn w n o r f a i j)
    (z : a.status ≡ Done) (u : Seen w x n a.state.at t) where
  -- ---- `&&`

  pub and_none : (kind_number t.kind ≡ 29 → ⊥) → Goes node node w x n d and_on i j o r f a o r f a
  unfolding go run
  and_none h = goes_none q z (λ e rd. rw (run, no u h))

  pub and_found : {o1 : List ℕ} {r1 f1 r2 : List Error} {o2 : List ℕ} {b c y : Answer} → kind_number t.kind ≡ 29
      → Reads node w x n d P.parse_comparison o r f (fore a.state t) o1 r1 f1 b
      → Abandoned r1 b i j a.state.reported r2 c → NodeWritten o1 c (placed t.place Tag.BooleanAnd None []) o2 y
      → Goes node node w x n d and_on i j o r f a o2 r2 f1 y
  unfolding go run
  and_found h B C F =
      goes_joined (next_token (rest w x n a.state.at)).place [] q z u B C F (omega arith) (rw u.place)
      (past w x n a.state.at) (λ e rd. rw (run, yes u h) (ap (λ (S : St). go d
      (P.parse_comparison >>? λ r. done (ok (P.binary 0x2C [] (next_token (rest w x n a.state.at)).place e r))) S)
      (adv a.state u (λ _. plain) f rd _)))

  -- ---- comparisons and operators of a level

  pub compare_none : {op : Option ℕ} → op ≡ operator_of P.comparisons (kind_number t.kind) → op ≡ Std.None → Goes node node w x n d compare_on i j o r f a o r f a
  unfolding go run
  compare_none k h =
      goes_none q z
      (λ e rd. none_found (next_token (rest w x n a.state.at)) _ (u.kind x) (compared e) (done (ok e)) d
      (st_of w x n f rd a.state) P.comparisons k h)

  pub compare_found : {op : Option ℕ} {m : ℕ} {o1 : List ℕ} {r1 f1 r2 : List Error} {o2 : List ℕ} {b c y : Answer} → op ≡ operator_of P.comparisons (kind_number t.kind) → op ≡ Some m
      → Reads node w x n d P.parse_bitwise_or o r f (fore a.state t) o1 r1 f1 b
      → Abandoned r1 b i j a.state.reported r2 c → NodeWritten o1 c (placed t.place Tag.ComparisonBinOp (Byte m) []) o2 y
      → Goes node node w x n d compare_on i j o r f a o2 r2 f1 y
  unfolding go run
  compare_found {op} {m} k h B C F =
      goes_joined (next_token (rest w x n a.state.at)).place (byte m ∷ []) q z u B C F
      (omega (arith, operator_real P.comparisons (kind_number t.kind) refl k h)) (rw u.place) (past w x n a.state.at)
      (λ e rd. one_found (next_token (rest w x n a.state.at)) _ (u.kind x) (compared e) (done (ok e)) d
      (st_of w x n f rd a.state) P.comparisons k h ∙ ap (λ (S : St). go d (P.parse_bitwise_or >>? λ r. done
      (ok (P.binary 0x2E (byte m ∷ []) (next_token (rest w x n a.state.at)).place e r))) S)
      (adv a.state u (λ _. plain) f rd _))

  module _ (l : A.Level) {op : Option ℕ} (k : op ≡ operator_of (P.mapping l) (kind_number t.kind)) where
    pub operators_none : op ≡ Std.None → Goes node node w x n d (operators_on l) i j o r f a o r f a
    unfolding go run P.operators_turn
    operators_none h =
        goes_none q z (λ e rd. go_loop d (Operators l e) (st_of w x n f rd a.state) ∙ none_found
        (next_token (rest w x n a.state.at)) _ (u.kind x) (operated l e) (done (ok e)) d
        (st_of w x n f rd a.state) (P.mapping l) k h)

    pub operators_more : {m : ℕ} {o1 : List ℕ} {r1 f1 r2 : List Error} {o2 o3 : List ℕ} {r3 f3 : List Error} {b c y y' : Answer} → op ≡ Some m
        → Reads node w x n d (P.cascade l) o r f (fore a.state t) o1 r1 f1 b
        → Abandoned r1 b i j a.state.reported r2 c
        → NodeWritten o1 c (placed t.place Tag.ArithmeticBinOp (Byte m) []) o2 y
        → Goes node node w x n d (operators_on l) i j o2 r2 f1 y o3 r3 f3 y'
        → Goes node node w x n d (operators_on l) i j o r f a o3 r3 f3 y'
    unfolding go run P.operators_turn
    operators_more {m} h B C F G =
        goes_turn (next_token (rest w x n a.state.at)).place (byte m ∷ []) q z u B C F
        (omega (arith, operator_real (P.mapping l) (kind_number t.kind) (level_end l) k h)) (rw u.place) (past w x n a.state.at)
        (λ e b. P.binary 0x2D (byte m ∷ []) (next_token (rest w x n a.state.at)).place e b) (λ e b. refl)
        (λ e rd. go_loop d (Operators l e) (st_of w x n f rd a.state) ∙ one_found
        (next_token (rest w x n a.state.at)) _ (u.kind x) (operated l e) (done (ok e)) d
        (st_of w x n f rd a.state) (P.mapping l) k h ∙ ap (λ (S : St). go d (P.cascade l >>? λ b. operators_on l
        (P.binary 0x2D (byte m ∷ []) (next_token (rest w x n a.state.at)).place e b)) S)
        (adv a.state u (λ _. plain) f rd _)) G

  -- ---- casts

  pub casts_none : (kind_number t.kind ≡ 14 → ⊥) → Goes node node w x n d casts_on i j o r f a o r f a
  unfolding go run P.casts_turn
  casts_none h = goes_none q z (λ e rd. go_loop d (Casts e) (st_of w x n f rd a.state) ∙ rw (run, no u h))

  pub casts_more : {o1 : List ℕ} {r1 f1 r2 : List Error} {o2 o3 : List ℕ} {r3 f3 : List Error} {b c y y' : Answer} → kind_number t.kind ≡ 14
      → Reads node w x n d P.parse_type o r f (fore a.state t) o1 r1 f1 b
      → Abandoned r1 b i j a.state.reported r2 c → NodeWritten o1 c (placed t.place Tag.Cast None []) o2 y
      → Goes node node w x n d casts_on i j o2 r2 f1 y o3 r3 f3 y' → Goes node node w x n d casts_on i j o r f a o3 r3 f3 y'
  unfolding go run P.casts_turn
  casts_more h B C F G =
      goes_turn (next_token (rest w x n a.state.at)).place [] q z u B C F (omega arith) (rw u.place)
      (past w x n a.state.at) (λ e b. P.binary 0x26 [] (next_token (rest w x n a.state.at)).place e b)
      (λ e b. refl)
      (λ e rd. go_loop d (Casts e) (st_of w x n f rd a.state) ∙ rw (run, yes u h) (ap (λ (S : St). go d
      (P.parse_type >>? λ b. casts_on (P.binary 0x26 [] (next_token (rest w x n a.state.at)).place e b)) S)
      (adv a.state u (λ _. plain) f rd _))) G

-- ---- the six levels, the tightest first

-- after the operand a and the loops of k levels: the answer y is an operand of these levels
pub record Levelled (w x : List ℕ) (n d : ℕ) (s : State) (o : List ℕ) (r f : List Error) (a : Answer) (o1 : List ℕ) (r1 f1 : List Error) (y : Answer) (k : ℕ) : Type 0 where
  pub few : k ≤ 6
  pub forward : s.at ≤ y.state.at
  pub file : length o1 ≡ length o
  pub reported : length r1 ≡ length r
  pub full : length f1 ≡ length f
  pub on : GoesOn w n o1 r1 f1 y s.pos s.reported
  pub reads : {o0 : List ℕ} {r0 f0 : List Error} → Asked w n o0 r0 f0 s → Reads node w x n d P.parse_cast o0 r0 f0 s o r f a
      → Reads node w x n d (levels_at k) o0 r0 f0 s o1 r1 f1 y

all_levels : {w x : List ℕ} {n d : ℕ} {o : List ℕ} {r f : List Error} {o1 : List ℕ} {r1 f1 : List Error} {s : State} {a : Answer}
    → Reads node w x n d (levels_at 6) o r f s o1 r1 f1 a
    → Reads node w x n d P.parse_bitwise_or o r f s o1 r1 f1 a
unfolding levels_at P.parse_mul P.parse_add_sub P.parse_bit_shift P.parse_bitwise_and P.parse_bitwise_xor P.parse_bitwise_or
all_levels R = R

-- a call that stopped stays so under the levels above
above : {w x : List ℕ} {n d : ℕ} {o : List ℕ} {r f : List Error} {o1 : List ℕ} {r1 f1 : List Error} {s : State} {y : Answer} → Stopped y → (m k : ℕ)
    → Reads node w x n d (levels_at k) o r f s o1 r1 f1 y → Reads node w x n d (levels_at (k + m)) o r f s o1 r1 f1 y
unfolding levels_at
above nd zero k R = let e : k + 0 ≡ k = omega arith in rw e R
above nd (suc m) k R =
    let e : k + suc m ≡ suc k + m = omega arith in rw e (above nd m (suc k) (then_stops (operators_on (level_at k)) R nd))

module _ {w x : List ℕ} {n d : ℕ} {s : State} {o : List ℕ} {r f : List Error} {a : Answer} where
  pub levels_start : s.at ≤ a.state.at → GoesOn w n o r f a s.pos s.reported → Levelled w x n d s o r f a o r f a 0
  unfolding levels_at
  levels_start h g = record { few = omega arith; forward = h; file = refl; reported = refl; full = refl; on = g; reads = λ q R. R }

  module _ {o1 : List ℕ} {r1 f1 : List Error} {y : Answer} {k : ℕ} (z : Levelled w x n d s o r f a o1 r1 f1 y k) where
    pub levels_more : {l : A.Level} {o2 : List ℕ} {r2 f2 : List Error} {y' : Answer} → k < 6 → l ≡ level_at k
        → Goes node node w x n d (operators_on l) s.pos s.reported o1 r1 f1 y o2 r2 f2 y'
        → length o2 ≡ length o1 → length r2 ≡ length r1 → length f2 ≡ length f1
        → Levelled w x n d s o r f a o2 r2 f2 y' (k + 1)
    unfolding levels_at
    levels_more h e g p q t = record {
      few = omega arith;
      forward = omega (arith, z.forward, g.moved.at);
      file = p ∙ z.file;
      reported = q ∙ z.reported;
      full = t ∙ z.full;
      on = goes_further z.on g p q t;
      reads = λ asked R. rw (add-one, levels_at) (then_asked (operators_on (level_at k)) asked (z.reads asked R) (rw e at g));
    }

    -- the loop of a level stopped
    pub levels_stop : {l : A.Level} {o2 : List ℕ} {r2 f2 : List Error} {y' : Answer} {o0 : List ℕ} {r0 f0 : List Error} → k < 6 → l ≡ level_at k
        → Goes node node w x n d (operators_on l) s.pos s.reported o1 r1 f1 y o2 r2 f2 y' → Stopped y'
        → Asked w n o0 r0 f0 s → Reads node w x n d P.parse_cast o0 r0 f0 s o r f a
        → Reads node w x n d P.parse_bitwise_or o0 r0 f0 s o2 r2 f2 y'
    unfolding levels_at
    levels_stop {o2 = o2} {r2 = r2} {f2 = f2} {y' = y'} {o0 = o0} {r0 = r0} {f0 = f0} h e g nd q R =
        let u : Reads node w x n d (levels_at (suc k)) o0 r0 f0 s o2 r2 f2 y' =
        then_asked (operators_on (level_at k)) q (z.reads q R) (rw e at g) in
        let m : suc k + (5 - k) ≡ 6 = omega arith in all_levels (rw m at (above nd (5 - k) (suc k) u))

    pub levels_end : {o0 : List ℕ} {r0 f0 : List Error} → 6 ≤ k → Asked w n o0 r0 f0 s
        → Reads node w x n d P.parse_cast o0 r0 f0 s o r f a
        → Reads node w x n d P.parse_bitwise_or o0 r0 f0 s o1 r1 f1 y
    levels_end h q R = let e : k ≡ 6 = omega (arith, z.few) in all_levels (rw e at (z.reads q R))

-- no level has an operator here: the operand is the answer of all
module _ {w x : List ℕ} {n d : ℕ} {o : List ℕ} {r f : List Error} {o1 : List ℕ} {r1 f1 : List Error} {s : State} {a : Answer} (q : Asked w n o r f s)
    (R : Reads node w x n d P.parse_cast o r f s o1 r1 f1 a) where
  pub levels_pass : ((l : A.Level) → Goes node node w x n d (operators_on l) s.pos s.reported o1 r1 f1 a o1 r1 f1 a)
      → Reads node w x n d P.parse_bitwise_or o r f s o1 r1 f1 a
  unfolding levels_at
  levels_pass g = all_levels (go 6)
    where
      go : (k : ℕ) → Reads node w x n d (levels_at k) o r f s o1 r1 f1 a
      go zero = R
      go (suc k) = then_asked (operators_on (level_at k)) q (go k) (g (level_at k))
