-- The bytes of a tree determine its records, if these fit their fields. Assumes nothing.
use mathlib.Core.Path.{◌≡◌, refl, sym, ap, ap₂, ◌∙◌, subst}
use mathlib.Core.Option.{Option, none, some}
use mathlib.Core.List.{List, [], ◌∷◌, ◌++◌, append_assoc}
use Prim.Native.Nat.{ℕ, ◌/◌, ◌%◌, ◌^◌, ◌<◌}
use native.Mathlib.Omega.{arith}
use native.Mathlib.Nat.{div-div-eq-div-mul, div-lt_iff_lt-mul}
use lib.Dec.{lit<}
use lib.ListN.{length}
use Rattle.definition.specs.Tag as Tag
use Rattle.definition.specs.Source.{Place}
use Rattle.definition.specs.Node.{Num, byte, two, eight, Rec, u16, place_bytes, at_place, nums_bytes, field, rec_bytes, recs_bytes}
use Rattle.definition.specs.Format as F
use Rattle.definition.specs.Format.{Part, Sort, Row, rows, find}
use Rattle.definition.proofs.Tests.{All}
use Rattle.definition.proofs.Tokens.{Placed}
use Rattle.definition.proofs.Leaves.{Suits, nothing, with_text, with_byte, with_base, with_count, with_eight, Body, bare, at}
use Rattle.definition.proofs.Fit.{body, Fit}

u16_inj : (m n : ℕ) → m < 65536 → n < 65536 → m / 256 % 256 ≡ n / 256 % 256 → m % 256 ≡ n % 256 → m ≡ n
u16_inj m n h k p q = omega arith

digit : (x y : ℕ) → x / 256 ≡ y / 256 → x % 256 ≡ y % 256 → x ≡ y
digit x y p q = omega arith

top : (x y : ℕ) → x < 256 → y < 256 → x % 256 ≡ y % 256 → x ≡ y
top x y h k e = omega arith

below : (m : ℕ) → m < 18446744073709551616 → m / 2 ^ 56 < 256
below m h = (div-lt_iff_lt-mul (lit< tt)).1 h

u64_inj : (m n : ℕ) → m < 18446744073709551616 → n < 18446744073709551616 → m / 2 ^ 56 % 256 ≡ n / 2 ^ 56 % 256
    → m / 2 ^ 48 % 256 ≡ n / 2 ^ 48 % 256 → m / 2 ^ 40 % 256 ≡ n / 2 ^ 40 % 256
    → m / 2 ^ 32 % 256 ≡ n / 2 ^ 32 % 256
    → m / 2 ^ 24 % 256 ≡ n / 2 ^ 24 % 256 → m / 2 ^ 16 % 256 ≡ n / 2 ^ 16 % 256
    → m / 2 ^ 8 % 256 ≡ n / 2 ^ 8 % 256 → m % 256 ≡ n % 256 → m ≡ n
u64_inj m n h k a b c d e f g o =
    let a₇ : m / 2 ^ 56 ≡ n / 2 ^ 56 = top (m / 2 ^ 56) (n / 2 ^ 56) (below m h) (below n k) a in
    let a₆ : m / 2 ^ 48 ≡ n / 2 ^ 48 = digit (m / 2 ^ 48) (n / 2 ^ 48)
    (div-div-eq-div-mul m (2 ^ 48) 256 ∙ a₇ ∙ sym (div-div-eq-div-mul n (2 ^ 48) 256)) b in
    let a₅ : m / 2 ^ 40 ≡ n / 2 ^ 40 = digit (m / 2 ^ 40) (n / 2 ^ 40)
    (div-div-eq-div-mul m (2 ^ 40) 256 ∙ a₆ ∙ sym (div-div-eq-div-mul n (2 ^ 40) 256)) c in
    let a₄ : m / 2 ^ 32 ≡ n / 2 ^ 32 = digit (m / 2 ^ 32) (n / 2 ^ 32)
    (div-div-eq-div-mul m (2 ^ 32) 256 ∙ a₅ ∙ sym (div-div-eq-div-mul n (2 ^ 32) 256)) d in
    let a₃ : m / 2 ^ 24 ≡ n / 2 ^ 24 = digit (m / 2 ^ 24) (n / 2 ^ 24)
    (div-div-eq-div-mul m (2 ^ 24) 256 ∙ a₄ ∙ sym (div-div-eq-div-mul n (2 ^ 24) 256)) e in
    let a₂ : m / 2 ^ 16 ≡ n / 2 ^ 16 = digit (m / 2 ^ 16) (n / 2 ^ 16)
    (div-div-eq-div-mul m (2 ^ 16) 256 ∙ a₃ ∙ sym (div-div-eq-div-mul n (2 ^ 16) 256)) f in
    let a₁ : m / 2 ^ 8 ≡ n / 2 ^ 8 = digit (m / 2 ^ 8) (n / 2 ^ 8)
    (div-div-eq-div-mul m (2 ^ 8) 256 ∙ a₂ ∙ sym (div-div-eq-div-mul n (2 ^ 8) 256)) g in
    digit m n a₁ o

heads : {x y : ℕ} {xs ys : List ℕ} → x ∷ xs ≡ y ∷ ys → x ≡ y
heads e = cc

tails : {x y : ℕ} {xs ys : List ℕ} → x ∷ xs ≡ y ∷ ys → xs ≡ ys
tails e = cc

pub record Both (A B : Type 0) : Type 0 where
  pub left : A
  pub right : B

cancel : (xs ys r q : List ℕ) → length xs ≡ length ys → xs ++ r ≡ ys ++ q → Both (xs ≡ ys) (r ≡ q)
cancel [] [] r q h e = record { left = refl; right = e }
cancel [] (y ∷ ys) r q h e = absurd (omega arith)
cancel (x ∷ xs) [] r q h e = absurd (omega arith)
cancel (x ∷ xs) (y ∷ ys) r q h e =
    let c : Both (xs ≡ ys) (r ≡ q) = cancel xs ys r q (omega arith) (tails e) in
    record { left = ap₂ {C = List ℕ} (λ a b. a ∷ b) (heads e) c.left; right = c.right }

-- equal bytes of the same parts have equal numbers and texts
same_parts : {ps : List Part} {ms ns : List Num} {t u : List ℕ} → Suits ps ms t → Suits ps ns u
    → nums_bytes ms ++ t ≡ nums_bytes ns ++ u → Both (ms ≡ ns) (t ≡ u)
unfolding nums_bytes
same_parts nothing nothing e = record { left = refl; right = refl }
same_parts (with_text a) (with_text b) e = record { left = refl; right = e }
same_parts (with_byte l h a) (with_byte m k b) e =
    let c = same_parts a b (tails e) in record { left = λ i. byte (heads e i) ∷ c.left i; right = c.right }
same_parts (with_base h a) (with_base k b) e =
    let c = same_parts a b (tails e) in record { left = λ i. byte (heads e i) ∷ c.left i; right = c.right }
same_parts (with_count {n = m} h a) (with_count {n} k b) e =
    let c = same_parts a b (tails (tails e)) in
    let v : m ≡ n = u16_inj m n (omega arith) (omega arith) (heads e) (heads (tails e)) in
    record { left = λ i. two (v i) ∷ c.left i; right = c.right }
same_parts (with_eight {n = m} h a) (with_eight {n} k b) e =
    let e₂ = tails (tails e) in
    let e₄ = tails (tails e₂) in
    let e₆ = tails (tails e₄) in
    let c = same_parts a b (tails (tails e₆)) in
    let v : m ≡ n = u64_inj m n h k (heads e) (heads (tails e)) (heads e₂) (heads (tails e₂)) (heads e₄)
    (heads (tails e₄)) (heads e₆) (heads (tails e₆)) in
    record { left = λ i. eight (v i) ∷ c.left i; right = c.right }

same_place : (p q : Place) (r t : List ℕ) → Placed 1 p → Placed 1 q → place_bytes p ++ r ≡ place_bytes q ++ t
    → Both (p ≡ q) (r ≡ t)
same_place p q r t h k e =
    let e₂ = tails (tails e) in
    let l : p.line ≡ q.line = u16_inj _ _ (omega arith) (omega arith) (heads e) (heads (tails e)) in
    let c : p.column ≡ q.column = u16_inj _ _ (omega arith) (omega arith) (heads e₂) (heads (tails e₂)) in
    record { left = λ i. record { line = l i; column = c i }; right = tails (tails e₂) }

-- and equal places
same_body : {ps : List Part} {p q : Option Place} {ms ns : List Num} {t u : List ℕ} → Body ps p ms t → Body ps q ns u
    → at_place p ++ (nums_bytes ms ++ t) ≡ at_place q ++ (nums_bytes ns ++ u)
    → Both (p ≡ q) (Both (ms ≡ ns) (t ≡ u))
same_body (bare a) (bare b) e = record { left = refl; right = same_parts a b e }
same_body (at {p} h a) (at {p = q} k b) e =
    let c = same_place p q _ _ h k e in
    record { left = ap some c.left; right = same_parts a b c.right }
same_body {ms = ms} {ns = ns} {t = t} {u = u} (bare a) (at {p = q} {ps = ps} k b) e = elim a [ ]
same_body {ms = ms} {ns = ns} {t = t} {u = u} (at {p = p} {ps = ps} h a) (bare b) e = elim b [ ]

same_rec : (r q : Rec) → Fit r → Fit q → r.tag ≡ q.tag → body r ≡ body q → r ≡ q
unfolding body
same_rec r q f g t e =
    let w : g.row ≡ f.row = cc (f.found, g.found, t) in
    let b = subst (λ (w : Row). Body w.body q.place q.numbers q.text) w g.holds in
    let c = same_body f.holds b (sym (append_assoc (at_place r.place) (nums_bytes r.numbers) r.text) ∙ e
    ∙ append_assoc (at_place q.place) (nums_bytes q.numbers) q.text) in
    λ i. record { tag = t i; place = c.left i; numbers = c.right.left i; text = c.right.right i }

sort_of : Option Row → Sort
sort_of none = F.node 0
sort_of (some w) = w.sort

-- no node has the tag of the module
never : (r : Rec) → Fit r → Tag.Module ≡ r.tag → ⊥
unfolding find rows sort_of
never r f e =
    let m : F.root ≡ F.node f.kind = ap (λ (u : ℕ). sort_of (find u rows)) e ∙ ap sort_of f.found ∙ f.node in
    let z : ◌≡◌ {A = ℕ} 0 1 = cc in absurd (omega arith)

-- equal fields have equal tags and bodies
fields : (t u : ℕ) (b c r q : List ℕ) → length b < 65536 → length c < 65536 → field t b ++ r ≡ field u c ++ q
    → Both (t ≡ u) (Both (b ≡ c) (r ≡ q))
fields t u b c r q h k e =
    record {
      left = heads e;
      right = cancel b c r q (u16_inj (length b) (length c) h k (heads (tails e)) (heads (tails (tails e))))
          (tails (tails (tails e)));
    }

-- equal trees have equal records and equal counts of items
pub same_tree : (xs ys : List Rec) (m n : ℕ) → All Fit xs → All Fit ys → m < 65536 → n < 65536
    → recs_bytes xs ++ field Tag.Module (u16 m) ≡ recs_bytes ys ++ field Tag.Module (u16 n) → Both (xs ≡ ys) (m ≡ n)
unfolding recs_bytes rec_bytes body
same_tree [] [] m n f g h k e =
    record {
      left = refl;
      right = u16_inj m n h k (heads (tails (tails (tails e)))) (heads (tails (tails (tails (tails e)))));
    }
same_tree [] (y ∷ ys) m n f g h k e = absurd (never y g.0 (heads e))
same_tree (x ∷ xs) [] m n f g h k e = absurd (never x f.0 (sym (heads e)))
same_tree (x ∷ xs) (y ∷ ys) m n f g h k e =
    let c : Both (x.tag ≡ y.tag) (Both (body x ≡ body y)
    (recs_bytes xs ++ field Tag.Module (u16 m) ≡ recs_bytes ys ++ field Tag.Module (u16 n))) =
    fields x.tag y.tag (body x) (body y) (recs_bytes xs ++ field Tag.Module (u16 m))
    (recs_bytes ys ++ field Tag.Module (u16 n)) f.0.short g.0.short
    (sym (append_assoc (rec_bytes x) (recs_bytes xs) (field Tag.Module (u16 m))) ∙ e
    ∙ append_assoc (rec_bytes y) (recs_bytes ys) (field Tag.Module (u16 n))) in
    let d : Both (xs ≡ ys) (m ≡ n) = same_tree xs ys m n f.1 g.1 h k c.right.right in
    record { left = λ i. same_rec x y f.0 g.0 c.left c.right.left i ∷ d.left i; right = d.right }
