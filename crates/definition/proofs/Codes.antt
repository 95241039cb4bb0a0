-- The number of a character that the decoder gives: below 128 it is the first byte, it is above 127 just where that is,
-- above 255 just where that is above 0xC3, and it gives the bytes back. Assumes nothing.
use mathlib.Core.Path.{◌≡◌, refl, ap, subst}
use mathlib.Core.Bool.{Bool, true, false}
use mathlib.Core.List.{List, [], ◌∷◌, ◌++◌}
use Prim.Native.Nat.{ℕ, zero, suc, pred, ◌+◌, ◌-◌, ◌/◌, ◌%◌, ◌≤◌, ◌<◌}
use native.Mathlib.Omega.{arith}
use borrow.Author.Tests.{lt-ltb, le-ltb, ltb-true, ltb-false, eqb-true, eqb-false, leb-true, leb-false}
use lib.Dec.{eqb, ltb, leb}
use lib.ListN.{get_or}
use Rattle.definition.specs.Choice.{pick, first}
use Rattle.definition.specs.Classes.{is_foreign, is_digit}
use Rattle.definition.specs.Source.{Ch, Lead, single, with_more, wrong, lead, six_more, code_of}
use Rattle.definition.specs.Understood.{last_six, encode}
use Rattle.definition.proofs.Tests.{between_bounds, picked, each}

-- of a first byte and those after it
pub record CodedAs (b : ℕ) (m : List ℕ) : Type 0 where
  pub low : b < 128 → code_of b m ≡ b
  pub high : 128 ≤ b → 128 ≤ code_of b m
  pub bytes : encode (code_of b m) ≡ b ∷ m
  pub small : code_of b m < 0x110000

abbrev pub Coded : Ch → Type 0
Coded c = CodedAs c.byte c.more

pub coded_single : (b : ℕ) → b < 128 → CodedAs b []
coded_single b l = record { low = λ _. refl; high = λ h. h; bytes = rw (lt-ltb b 128 l); small = omega (arith, l) }

-- a number below 128 has a first byte below it
pub coded_below : {b : ℕ} {m : List ℕ} → CodedAs b m → code_of b m < 128 → b < 128
coded_below {b} {m} q h = go (ltb b 128) refl
  where
    go : (t : Bool) → ltb b 128 ≡ t → b < 128
    go true e = ltb-true b 128 e
    go false e = absurd (omega (arith, h, q.high (ltb-false b 128 e)))

-- a first byte below 128 is the only one
pub coded_alone : {b : ℕ} {m : List ℕ} → CodedAs b m → b < 128 → m ≡ []
coded_alone {b} {m} q l =
    let e : encode b ≡ b ∷ m = rw (q.low l) at q.bytes in
    let f : b ∷ [] ≡ b ∷ m = rw (lt-ltb b 0x80 l) at e in
    cc

-- of a number above 127 the first byte is at least 0xC2; of one above 255 it is above 0xC3
pub coded_first : {b : ℕ} {m : List ℕ} → CodedAs b m → 128 ≤ b → 0xC2 ≤ b
coded_first {b} {m} q h = omega (arith, first (code_of b m) (q.high h), ap (λ (x : List ℕ). get_or x 0 0) q.bytes)
  where
    by : (t : Bool) (x y : List ℕ) → 0xC2 ≤ get_or x 0 0 → 0xC2 ≤ get_or y 0 0 → 0xC2 ≤ get_or (pick t x y) 0 0
    by t x y p q = picked (λ (z : List ℕ). 0xC2 ≤ get_or z 0 0) t x y (λ _. p) q

    first : (n : ℕ) → 128 ≤ n → 0xC2 ≤ get_or (encode n) 0 0
    first n l =
        rw (le-ltb n 0x80 l)
        (by (ltb n 0x800) _ _ (omega arith) (by (ltb n 0x10000) _ _ (omega arith) (omega arith)))

pub coded_foreign : {b : ℕ} {m : List ℕ} → CodedAs b m → 0xC3 < b → is_foreign (code_of b m) ≡ true
coded_foreign {b} {m} q h = go (ltb (code_of b m) 256) refl
  where
    go : (t : Bool) → ltb (code_of b m) 256 ≡ t → is_foreign (code_of b m) ≡ true
    go true e =
        let l : 128 ≤ code_of b m = q.high (omega (arith, h)) in
        let k : code_of b m < 256 = ltb-true _ 256 e in
        let z : 0xC0 + code_of b m / 64 ≡ b =
        cc (rw (le-ltb (code_of b m) 0x80 l, lt-ltb (code_of b m) 0x800 (omega (arith, k))) at q.bytes) in
        absurd (omega (arith, k, z, h))
    go false e = lt-ltb 255 (code_of b m) (omega (arith, ltb-false _ 256 e))

-- of two bytes the second is 0x80 to 0xBF
pub coded_second : {b x : ℕ} → CodedAs b (x ∷ []) → 0xC2 ≤ b → b ≤ 0xC3 → x < 256 → (0x80 ≤ x) × (x ≤ 0xBF)
coded_second {b} {x} q h k l =
    let n = six_more (b - 0xC0) x in
    let e : last_six n ≡ x = cc (rw (le-ltb n 0x80 (omega (arith, h)), lt-ltb n 0x800 (omega (arith, k, l))) at q.bytes) in
    omega (arith, e)

-- above 127 all bytes are
pub coded_high : {b : ℕ} {m : List ℕ} → CodedAs b m → 128 ≤ code_of b m → each (ltb 127) (b ∷ m) ≡ true
coded_high {b} {m} q h = subst (λ (x : List ℕ). each (ltb 127) x ≡ true) q.bytes (high (code_of b m) h)
  where
    by : (t : Bool) (x y : List ℕ) → each (ltb 127) x ≡ true → each (ltb 127) y ≡ true → each (ltb 127) (pick t x y) ≡ true
    by t x y p q = picked (λ (z : List ℕ). each (ltb 127) z ≡ true) t x y (λ _. p) q

    above : (n x : ℕ) → 128 ≤ x → ltb 127 (x + n) ≡ true
    above n x l = lt-ltb 127 (x + n) (omega arith)

    high : (n : ℕ) → 128 ≤ n → each (ltb 127) (encode n) ≡ true
    high n l =
        rw (le-ltb n 0x80 l)
        (by (ltb n 0x800) _ _ (rw (above (n / 64) 0xC0 (omega arith), above (n % 64) 0x80 (omega arith)))
        (by (ltb n 0x10000) _ _
        (rw (above (n / 4096) 0xE0 (omega arith), above ((n / 64) % 64) 0x80 (omega arith), above (n % 64) 0x80 (omega arith)))
        (rw (
          above (n / 262144) 0xF0 (omega arith),
          above ((n / 4096) % 64) 0x80 (omega arith),
          above ((n / 64) % 64) 0x80 (omega arith),
          above (n % 64) 0x80 (omega arith),
        ))))

-- a digit is its byte
pub coded_digit : {b : ℕ} {m : List ℕ} → CodedAs b m → is_digit (code_of b m) ≡ true → code_of b m ≡ b
coded_digit {b} {m} q e =
    q.low (coded_below q (omega (arith, (between_bounds 48 57 (code_of b m) e).1)))

-- ---- of two, three and four bytes

coded_above : (b : ℕ) (m : List ℕ) → 128 ≤ b → 128 ≤ code_of b m → code_of b m < 0x110000
    → encode (code_of b m) ≡ b ∷ m → CodedAs b m
coded_above b m h k l e = record { low = λ j. absurd (omega (arith, h, j)); high = λ _. k; bytes = e; small = l }

encode_two : (n b x : ℕ) → 0x80 ≤ n → n < 0x800 → 0xC0 + n / 64 ≡ b → last_six n ≡ x → encode n ≡ b ∷ x ∷ []
encode_two n b x h k p q = rw (le-ltb n 0x80 h, lt-ltb n 0x800 k, p, q)

encode_three : (n b x y : ℕ) → 0x800 ≤ n → n < 0x10000 → 0xE0 + n / 4096 ≡ b → last_six (n / 64) ≡ x → last_six n ≡ y
    → encode n ≡ b ∷ x ∷ y ∷ []
encode_three n b x y h k p q r = rw (le-ltb n 0x80 (omega (arith, h)), le-ltb n 0x800 h, lt-ltb n 0x10000 k, p, q, r)

encode_four : (n b x y z : ℕ) → 0x10000 ≤ n → 0xF0 + n / 262144 ≡ b → last_six (n / 4096) ≡ x → last_six (n / 64) ≡ y
    → last_six n ≡ z → encode n ≡ b ∷ x ∷ y ∷ z ∷ []
encode_four n b x y z h p q r t =
    rw (le-ltb n 0x80 (omega (arith, h)), le-ltb n 0x800 (omega (arith, h)), le-ltb n 0x10000 h, p, q, r, t)

-- a byte after the first
abbrev Continuation : ℕ → Type 0
Continuation x = (0x80 ≤ x) × (x ≤ 0xBF)

coded_two : (b x : ℕ) → 0xC2 ≤ b → b < 0xE0 → Continuation x → CodedAs b (x ∷ [])
coded_two b x h k l =
    let n = six_more (b - 0xC0) x in
    coded_above b (x ∷ []) (omega (arith, h)) (omega (arith, h)) (omega (arith, k, l))
    (encode_two n b x (omega (arith, h)) (omega (arith, k, l)) (omega (arith, h, l)) (omega (arith, l)))

-- the second byte x such that no shorter spelling would do, and the number is not too large
coded_three : (b x y : ℕ) → 0xE0 ≤ b → b < 0xF0 → Continuation x → 0x20 ≤ six_more (b - 0xE0) x → Continuation y
    → CodedAs b (x ∷ y ∷ [])
coded_three b x y h k l s m =
    let n = six_more (six_more (b - 0xE0) x) y in
    coded_above b (x ∷ y ∷ []) (omega (arith, h)) (omega (arith, s)) (omega (arith, k, l, m))
    (encode_three n b x y (omega (arith, s)) (omega (arith, k, l, m)) (omega (arith, h, l, m)) (omega (arith, l, m))
    (omega (arith, m)))

coded_four : (b x y z : ℕ) → 0xF0 ≤ b → Continuation x → 0x10 ≤ six_more (b - 0xF0) x → six_more (b - 0xF0) x < 0x110
    → Continuation y → Continuation z → CodedAs b (x ∷ y ∷ z ∷ [])
coded_four b x y z h l s t m o =
    let n = six_more (six_more (six_more (b - 0xF0) x) y) z in
    coded_above b (x ∷ y ∷ z ∷ []) (omega (arith, h)) (omega (arith, s)) (omega (arith, t, m, o))
    (encode_four n b x y z (omega (arith, s)) (omega (arith, h, l, m, o)) (omega (arith, l, m, o))
    (omega (arith, m, o)) (omega (arith, o)))

-- ---- along the decoder

-- b and m are coded with any n bytes more, the next of them from lo to hi
abbrev pub Completes : ℕ → List ℕ → ℕ → ℕ → ℕ → Type 0
Completes b m zero lo hi = ⊥
Completes b m (suc zero) lo hi = (x : ℕ) → lo ≤ x → x ≤ hi → CodedAs b (m ++ (x ∷ []))
Completes b m (suc (suc n)) lo hi = (x : ℕ) → lo ≤ x → x ≤ hi → Completes b (m ++ (x ∷ [])) (suc n) 0x80 0xBF

pub completes_end : (b : ℕ) (m : List ℕ) (n lo hi x : ℕ) → Completes b m n lo hi → lo ≤ x → x ≤ hi → leb n 1 ≡ true
    → CodedAs b (m ++ (x ∷ []))
completes_end b m zero lo hi x q h k e = absurd q
completes_end b m (suc zero) lo hi x q h k e = q x h k
completes_end b m (suc (suc n)) lo hi x q h k e = absurd (omega (arith, leb-true (suc (suc n)) 1 e))

pub completes_more : (b : ℕ) (m : List ℕ) (n lo hi x : ℕ) → Completes b m n lo hi → lo ≤ x → x ≤ hi → leb n 1 ≡ false
    → Completes b (m ++ (x ∷ [])) (pred n) 0x80 0xBF
completes_more b m zero lo hi x q h k e = absurd q
completes_more b m (suc zero) lo hi x q h k e = absurd (omega (arith, leb-false (suc zero) 1 e))
completes_more b m (suc (suc n)) lo hi x q h k e = q x h k

abbrev pub LeadCompletes : ℕ → Lead → Type 0
LeadCompletes b single = b < 128
LeadCompletes b (with_more n lo hi) = Completes b [] n lo hi
LeadCompletes b wrong = Unit {0}

tested : (b : ℕ) (t : Bool) (x y : Lead) → (t ≡ true → LeadCompletes b x) → (t ≡ false → LeadCompletes b y)
    → LeadCompletes b (pick t x y)
tested b true x y p q = p refl
tested b false x y p q = q refl

-- three bytes or four, the second from lo to hi
three : (b lo hi : ℕ) → 0xE0 ≤ b → b < 0xF0 → 0x80 ≤ lo → hi ≤ 0xBF → 0x20 ≤ six_more (b - 0xE0) lo
    → Completes b [] 2 lo hi
three b lo hi h k i j s x l u y l' u' =
    coded_three b x y h k (omega (arith, i, l), omega (arith, j, u)) (omega (arith, s, l)) (l', u')

four : (b lo hi : ℕ) → 0xF0 ≤ b → 0x80 ≤ lo → hi ≤ 0xBF → 0x10 ≤ six_more (b - 0xF0) lo → six_more (b - 0xF0) hi < 0x110
    → Completes b [] 3 lo hi
four b lo hi h i j s t x l u y l' u' z l'' u'' =
    coded_four b x y z h (omega (arith, i, l), omega (arith, j, u)) (omega (arith, s, l)) (omega (arith, t, u))
    (l', u') (l'', u'')

pub lead_completes : (b : ℕ) → LeadCompletes b (lead b)
unfolding lead first
lead_completes b =
    tested b (ltb b 0x80) _ _ (λ s. ltb-true b 0x80 s) λ _. tested b (ltb b 0xC2) _ _ (λ _. tt)
    λ c. tested b (ltb b 0xE0) _ _ (λ u x l m. coded_two b x (ltb-false b 0xC2 c) (ltb-true b 0xE0 u) (l, m))
    λ e. let h : 0xE0 ≤ b = ltb-false b 0xE0 e in
    tested b (eqb b 0xE0) _ _
    (λ i. let k = eqb-true b 0xE0 i in three b 0xA0 0xBF h (omega (arith, k)) (omega arith) (omega arith)
    (omega (arith, k)))
    λ n. let k : 0xE0 < b = omega (arith, h, eqb-false b 0xE0 n) in
    tested b (eqb b 0xED) _ _
    (λ i. three b 0x80 0x9F h (omega (arith, eqb-true b 0xED i)) (omega arith) (omega arith) (omega (arith, k)))
    λ _. tested b (ltb b 0xF0) _ _
    (λ i. three b 0x80 0xBF h (ltb-true b 0xF0 i) (omega arith) (omega arith) (omega (arith, k)))
    λ f. let i : 0xF0 ≤ b = ltb-false b 0xF0 f in
    tested b (eqb b 0xF0) _ _
    (λ g. let j = eqb-true b 0xF0 g in four b 0x90 0xBF i (omega arith) (omega arith) (omega (arith, j))
    (omega (arith, j)))
    λ m. let j : 0xF0 < b = omega (arith, i, eqb-false b 0xF0 m) in
    tested b (ltb b 0xF4) _ _
    (λ g. four b 0x80 0xBF i (omega arith) (omega arith) (omega (arith, j)) (omega (arith, ltb-true b 0xF4 g)))
    λ _. tested b (eqb b 0xF4) _ _
    (λ g. four b 0x80 0x8F i (omega arith) (omega arith) (omega (arith, j)) (omega (arith, eqb-true b 0xF4 g))) λ _. tt
