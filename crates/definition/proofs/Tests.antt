-- Laws about `&&`, `||`, `between`, the kind of a token, a choice by a test, predicates on all entries of a list, and
-- tests of all entries or of all numbers below a bound. Assumes nothing.
-- The first two lines are only checked: if a definition is misread, they fail before any proof.
pub use Rattle.definition.specs.Table.{holds}
pub use Rattle.definition.proofs.Readings.{unsorted}
use mathlib.Core.Path.{◌≡◌, refl, sym, subst}
use mathlib.Core.Bool.{Bool, true, false, ◌&&◌, ◌||◌}
use mathlib.Core.List.{List, [], ◌∷◌, ◌++◌}
use mathlib.Core.Option.{some}
use Prim.Native.Nat.{ℕ, zero, suc, ◌≤◌, ◌<◌}
use native.Mathlib.Omega.{arith}
use borrow.Author.Tests.{leb-true, le-leb, eqb-true, eqb-false}
use lib.Dec.{eqb, leb, T}
use lib.ListN.{drop, get_elem?, get_or, replicate}
use Rattle.definition.specs.Choice.{pick}
use Rattle.definition.specs.Classes.{between}
use Rattle.definition.specs.Token.{Tok, ◌is◌}

-- a test cannot both hold and fail
pub never_both : {A : Type 0} {b : Bool} → b ≡ true → b ≡ false → A
never_both p q = let z : ◌≡◌ {A = ℕ} 0 1 = cc in absurd (omega arith)

pub clash : {A : Type 0} → true ≡ false → A
clash e = never_both refl e

pub both_true : {a b : Bool} → a ≡ true → b ≡ true → a && b ≡ true
both_true {a} {b} p q = rw (p, q)

pub left_true : (a b : Bool) → a && b ≡ true → a ≡ true
left_true true b e = refl
left_true false b e = e

pub right_true : (a b : Bool) → a && b ≡ true → b ≡ true
right_true true b e = e
right_true false b e = clash (cc)

-- a fact from both parts
pub parts_true : {A : Type 0} (a b : Bool) → a && b ≡ true → (a ≡ true → b ≡ true → A) → A
parts_true a b e f = f (left_true a b e) (right_true a b e)

pub and_false : (a b : Bool) → b ≡ false → a && b ≡ false
and_false true b e = e
and_false false b e = refl

-- a fact from either part
pub either_true : {A : Type 0} (a b : Bool) → (a ≡ true → A) → (b ≡ true → A) → a || b ≡ true → A
either_true true b f g e = f refl
either_true false b f g e = g e

pub passed : (a : Bool) → T a → a ≡ true
passed true t = refl
passed false t = elim t [ ]

pub is_kind : (t : Tok) (k : ℕ) → t is k ≡ true → t.kind ≡ k
is_kind t k e = eqb-true t.kind k e

-- a token that is not the end has a kind above 0
pub not_end : (t : Tok) → t is 0 ≡ false → 0 < t.kind
not_end t e = go t.kind e
  where
    go : (k : ℕ) → eqb k 0 ≡ false → 0 < k
    go zero e = clash e
    go (suc k) e = omega arith

pub between_bounds : (lo hi n : ℕ) → between lo hi n ≡ true → (lo ≤ n) × (n ≤ hi)
between_bounds lo hi n e = parts_true (leb lo n) (leb n hi) e λ p q. (leb-true lo n p, leb-true n hi q)

pub between_true : {lo hi n : ℕ} → lo ≤ n → n ≤ hi → between lo hi n ≡ true
between_true {lo} {hi} {n} p q = both_true (le-leb lo n p) (le-leb n hi q)

-- ---- what holds of each alternative holds of the one chosen

module _ {A : Type 0} (P : A → Type 0) where
  pub chosen : (b : Bool) (x y : A) → (b ≡ true → P x) → (b ≡ false → P y) → P (elim b as (λ _. A) [ true ↦ x | false ↦ y ])
  chosen true x y p q = p refl
  chosen false x y p q = q refl

  pub picked : (b : Bool) (x y : A) → (b ≡ true → P x) → P y → P (pick b x y)
  picked true x y p q = p refl
  picked false x y p q = q

  pub counted : (k : ℕ) (x : A) (f : ℕ → A) → P x → ((n : ℕ) → k ≡ suc n → P (f n)) → P (elim k as (λ _. A) [ zero ↦ x | suc n ↦ f n ])
  counted zero x f p q = p
  counted (suc n) x f p q = q n refl

-- ---- what holds of each entry of a list

abbrev pub All : {A : Type 0} → (A → Type 0) → List A → Type 0
All P [] = Unit {0}
All P (x ∷ xs) = P x × All P xs

pub all_append : {A : Type 0} (P : A → Type 0) (xs ys : List A) → All P xs → All P ys → All P (xs ++ ys)
all_append P [] ys a b = b
all_append P (x ∷ xs) ys a b = (a.0, all_append P xs ys a.1 b)

pub all_replicate : {A : Type 0} (P : A → Type 0) (n : ℕ) (x : A) → P x → All P (replicate n x)
all_replicate P zero x p = tt
all_replicate P (suc n) x p = (p, all_replicate P n x p)

pub all_map : {A : Type 0} (P Q : A → Type 0) → ((x : A) → P x → Q x) → (xs : List A) → All P xs → All Q xs
all_map P Q f [] a = tt
all_map P Q f (x ∷ xs) a = (f x a.0, all_map P Q f xs a.1)

-- an entry of a list
pub data ◌∈◌ {A : Type 0} (x : A) : List A → Type 0 where
  here : {xs : List A} → x ∈ (x ∷ xs)
  there : {y : A} {xs : List A} → x ∈ xs → x ∈ (y ∷ xs)

infix 50 ◌∈◌
pub all_in : {A : Type 0} (P : A → Type 0) (x : A) (xs : List A) → All P xs → x ∈ xs → P x
all_in P x xs a here = a.0
all_in P x xs a (there m) = all_in P x _ a.1 m

pub in_drop : {A : Type 0} {x : A} (n : ℕ) (xs : List A) → x ∈ drop n xs → x ∈ xs
in_drop zero xs m = m
in_drop (suc n) [] m = m
in_drop (suc n) (y ∷ ys) m = there (in_drop n ys m)

-- the entry at a position
pub all_at : {A : Type 0} (P : A → Type 0) (xs : List A) (i : ℕ) (x : A) → All P xs → get_elem? xs i ≡ some x → P x
all_at P [] i x a e = absurd (let z : ◌≡◌ {A = ℕ} 0 1 = cc in omega arith)
all_at P (y ∷ ys) zero x a e = let q : y ≡ x = cc in subst P q a.0
all_at P (y ∷ ys) (suc i) x a e = all_at P ys i x a.1 e

-- ---- tests that are computed

-- of all entries of a list
abbrev pub each : {A : Type 0} → (A → Bool) → List A → Bool
each f [] = true
each f (x ∷ xs) = f x && each f xs

pub each_getD : {A : Type 0} (f : A → Bool) (xs : List A) (i : ℕ) (d : A) → each f xs ≡ true → f d ≡ true
    → f (get_or xs i d) ≡ true
each_getD f [] i d e h = h
each_getD f (x ∷ xs) zero d e h = left_true (f x) (each f xs) e
each_getD f (x ∷ xs) (suc i) d e h = each_getD f xs i d (right_true (f x) (each f xs) e) h

-- of a number: whether it is in a list
abbrev pub is_in : ℕ → List ℕ → Bool
is_in n [] = false
is_in n (x ∷ xs) = eqb n x || is_in n xs

pub is_in_all : (P : ℕ → Type 0) (n : ℕ) (xs : List ℕ) → is_in n xs ≡ true → All P xs → P n
is_in_all P n [] e a = clash (sym e)
is_in_all P n (x ∷ xs) e a =
    either_true (eqb n x) (is_in n xs) (λ q. subst P (sym (eqb-true n x q)) a.0) (λ q. is_in_all P n xs q a.1) e

pub is_in_each : (f : ℕ → Bool) (n : ℕ) (xs : List ℕ) → is_in n xs ≡ true → each f xs ≡ true → f n ≡ true
is_in_each f n [] e a = clash (sym e)
is_in_each f n (x ∷ xs) e a =
    parts_true (f x) (each f xs) a
    λ p q. either_true (eqb n x) (is_in n xs) (λ z. subst (λ (y : ℕ). f y ≡ true) (sym (eqb-true n x z)) p)
    (λ z. is_in_each f n xs z q) e

-- of all numbers below n

abbrev pub every : (ℕ → Bool) → ℕ → Bool
every f zero = true
every f (suc n) = f n && every f n

pub every_below : (f : ℕ → Bool) (n k : ℕ) → every f n ≡ true → k < n → f k ≡ true
every_below f zero k e h = absurd (omega arith)
every_below f (suc n) k e h = parts_true (f n) (every f n) e λ p q. go (eqb k n) refl p (λ l. every_below f n k q l)
  where
    go : (b : Bool) → eqb k n ≡ b → f n ≡ true → (k < n → f k ≡ true) → f k ≡ true
    go true d p r = subst (λ (x : ℕ). f x ≡ true) (sym (eqb-true k n d)) p
    go false d p r = r (omega (arith, eqb-false k n d))
