-- The invariant for answers and loops, what is known of the tokens, and the laws for calls. Assumes nothing.
use mathlib.Core.Path.{◌≡◌}
use mathlib.Core.Bool.{true, false}
use mathlib.Core.List.{List, [], ◌∷◌, ◌++◌}
use Prim.Native.Nat.{ℕ, ◌+◌, ◌≤◌, ◌<◌}
use native.Mathlib.Omega.{arith}
use lib.Dec.{ltb, T, ltb→lt}
use lib.ListN.{length, replicate}
use Rattle.definition.specs.Kind as K
use Rattle.definition.specs.Fallible.{Err, Fallible, Ans, ok, fatal}
use Rattle.definition.specs.Token.{Tok, next_token, tail, ◌is◌, end_token}
use Rattle.definition.specs.Act.{Node, Items, Goal, Statement, Expression, Unary, Type', Loop, Module, Body, ListOf, Operators, Casts, Suffixes, Modifiers, Listed, Parameters, Arguments, StructFields, ArrayValues, StructValues, Left, Role, plain, Act, done, call, St, advance, ◌>>=◌, ◌>>?◌, or_return}
use Rattle.definition.specs.Parser as P
use Rattle.definition.specs.Format as F
use Rattle.definition.proofs.Tests.{clash, is_kind, All}
use Rattle.definition.proofs.Later.{Later, later_left, toks}
use Rattle.definition.proofs.Ind.{wp, follow}
use Rattle.definition.proofs.Grows.{there}
use Rattle.definition.proofs.Tokens.{Placed, Good}
use Rattle.definition.proofs.Leaves.{Leaves}

-- ---- what is known of the tokens

-- the tokens left are good, and at most 2,048
abbrev pub Known : List Tok → Type 0
Known ts = All Good ts × (length ts ≤ 2048)

pub known_tail : (ts : List Tok) → Known ts → Known (tail ts)
known_tail [] h = h
known_tail (t ∷ ts) h = (h.0.1, omega arith)

drop_good : (xs ys : List Tok) → All Good (xs ++ ys) → All Good ys
drop_good [] ys h = h
drop_good (x ∷ xs) ys h = drop_good xs ys h.1

pub known_later : (s s' : St) → Later s s' → Known s.tokens → Known s'.tokens
known_later s s' l h = (drop_good (toks l.eaten) s'.tokens (rw l.tokens at h.0), omega (arith, later_left l))

-- a token that is not the end is good
pub good : (ts : List Tok) → Known ts → next_token ts is K.End ≡ false → Good (next_token ts)
good [] h e = clash e
good (t ∷ ts) h e = h.0.0

pub good_of : (k : ℕ) → T (ltb 0 k) → (ts : List Tok) → Known ts → next_token ts is k ≡ true → Good (next_token ts)
good_of k z [] h i = absurd (omega (arith, is_kind end_token k i, ltb→lt 0 k z))
good_of k z (t ∷ ts) h i = h.0.0

-- ---- what holds of answers

-- the answer leaves one node of the kind k, and a token was read
pub record Item (k : ℕ) (s : St) (x : Fallible Node) (s' : St) : Type 0 where
  pub leaves : Leaves x.item.recs (k ∷ [])
  pub less : length s'.tokens < length s.tokens

-- and its place is within the limits
pub record Whole (k : ℕ) (s : St) (x : Fallible Node) (s' : St) : Type 0 where
  pub leaves : Leaves x.item.recs (k ∷ [])
  pub place : Placed 1 x.item.place
  pub less : length s'.tokens < length s.tokens

-- a loop continues the expression e
pub record Onward (e : Fallible Node) (x : Fallible Node) (s' : St) : Type 0 where
  pub leaves : Leaves e.item.recs (F.expression ∷ []) → Leaves x.item.recs (F.expression ∷ [])
  pub place : Placed 1 e.item.place → Placed 1 x.item.place

-- a loop continues the list i: it leaves as many nodes as it counts, and no more than tokens are read
pub record Listing (k : ℕ) (i : Items) (s : St) (a : Items) (s' : St) : Type 0 where
  pub leaves : Leaves i.recs (replicate i.count k) → Leaves a.recs (replicate a.count k)
  pub count : a.count + length s'.tokens ≤ i.count + length s.tokens

-- a predicate on good answers only
abbrev pub If : {A : Type 0} → (Fallible A → St → Type 0) → Ans A → St → Type 0
If W (ok x) s = W x s
If W (fatal es) s = Unit {0}

-- the kind of node that a goal, and that the items of a list, leave
abbrev pub kind_of : Goal → ℕ
kind_of Statement = F.statement
kind_of Expression = F.expression
kind_of Unary = F.expression
kind_of Type' = F.type

abbrev pub kind_in : Listed → ℕ
kind_in Parameters = F.named_type
kind_in Arguments = F.expression
kind_in StructFields = F.named_type
kind_in ArrayValues = F.expression
kind_in StructValues = F.compound_field

-- the invariants for `wp`
abbrev pub G : Goal → St → Ans Node → St → Type 0
G g s a s' = If (Whole (kind_of g) s) a s'

abbrev pub L : (l : Loop) → St → Left l → St → Type 0
L (Module i) s a s' = Listing F.item i s a s'
L (Body i) s a s' = Listing F.statement i s a s'
L (ListOf k i) s a s' = Listing (kind_in k) i s a s'
L (Operators l e) s a s' = If (Onward e) a s'
L (Casts e) s a s' = If (Onward e) a s'
L (Suffixes e) s a s' = If (Onward e) a s'
L (Modifiers w) s a s' = w.distinct ≤ 1 → w.internal ≤ 2 → (a.distinct ≤ 1) × (a.internal ≤ 2)

abbrev pub R : St → Type 0
R s = Known s.tokens

abbrev pub M : Err → St → Type 0
M e s = Unit {0}

abbrev pub awp : {A : Type 0} → Act A → (A → St → Type 0) → St → Type 0
awp m Q s = wp G L R M m Q s

-- the act leaves a node of the kind k, or its answer is fatal
abbrev pub reads : ℕ → Act (Ans Node) → St → Type 0
reads k m s = awp m (If (Whole k s)) s

-- `expect(..)?`, `expect_identifier()?` and a call under `?`, with their continuation
pub expects : {B : Type 0} (r : Role) (k : ℕ) → T (ltb 0 k)
    → (f : Fallible Tok → Act (Ans B)) (W : Fallible B → St → Type 0) (s : St)
    → (Good (next_token s.tokens) → length (tail s.tokens) < length s.tokens
    → awp (f (record { item = next_token s.tokens; errors = [] })) (If W) (advance (λ _. r) s))
    → awp (P.expect_as r k >>? f) (If W) s
unfolding ◌>>=◌
expects r k z f W s h = λ d. (λ i. h (good_of k z s.tokens d i) (there k z s.tokens i), λ _. (λ _ _. tt, λ _ _. tt))

pub identifier : {B : Type 0} (f : Fallible Tok → Act (Ans B)) (W : Fallible B → St → Type 0) (s : St)
    → (Good (next_token s.tokens) → length (tail s.tokens) < length s.tokens
    → awp (f (record { item = next_token s.tokens; errors = [] })) (If W) (advance (λ _. plain) s))
    → awp (P.expect_identifier >>? f) (If W) s
unfolding ◌>>=◌
identifier f W s h =
    λ d. (
      λ i. h (good_of K.Identifier tt s.tokens d i) (there K.Identifier tt s.tokens i),
      λ _. (λ _ _. tt, λ _ _. tt),
    )

pub calls : {B : Type 0} (g : Goal) (f : Fallible Node → Act (Ans B)) (W : Fallible B → St → Type 0) (s : St)
    → ((x : Fallible Node) (s' : St) → Whole (kind_of g) s x s' → awp (f x) (If W) s')
    → awp (call g done >>? f) (If W) s
unfolding ◌>>=◌
calls g f W s h = (λ x s' l p. h x s' p, λ es s' l p. tt)

pub uses : {A B : Type 0} (U : Fallible A → St → Type 0) (m : Act (Ans A)) (f : Fallible A → Act (Ans B))
    (W : Fallible B → St → Type 0) (s : St)
    → awp m (If U) s → ((x : Fallible A) (s' : St) → Later s s' → U x s' → awp (f x) (If W) s') → awp (m >>? f) (If W) s
uses {A} {B} U m f W s w h = follow G L R M m (or_return f) (If U) (If W) s w go
  where
    go : (a : Ans A) (s' : St) → Later s s' → If U a s' → awp (or_return f a) (If W) s'
    go (ok x) s' l p = h x s' l p
    go (fatal es) s' l p = tt
