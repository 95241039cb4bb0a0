-- What it is for the walk over a stored file to accept, field by field. Assumes nothing.
use mathlib.Core.Path.{◌≡◌, refl, subst}
use mathlib.Core.Bool.{Bool, true, false}
use mathlib.Core.Option.{Option, none, some}
use mathlib.Core.List.{List, [], ◌∷◌}
use Prim.Native.Nat.{ℕ, zero, suc, ◌+◌, ◌*◌, ◌≤◌}
use native.Mathlib.Omega.{arith}
use borrow.Author.Tests.{ltb-false}
use lib.Dec.{ltb}
use lib.ListN.{length, take}
use Rattle.definition.specs.Format.{Row, rows, find, Numbers, no_numbers}
use Rattle.definition.specs.Stored.{numbers, Field, end, bad, skipped, found, step, Phase, waiting, closed, judge, Step, step_at, finish, Loaded, steps, refused, ahead, walk, load}
use Rattle.definition.proofs.StoredFields.{field_of, Stepped, is_bad, is_skipped, is_found, stepped}

-- the kinds of children, by the numbers of a body
abbrev pub kinds : Row → Numbers → List ℕ
kinds w m = w.children m.byte m.count

-- The walk from the offset n on, where k bytes are the rest of the field before, gives these steps: it ends after the
-- module, passes a byte, skips a field, or finds a field that stands right
pub data Accepts : ℕ → ℕ → Phase → List ℕ → List Step → Type 0 where
  ended : {k n m : ℕ} → Accepts k n (closed m) [] []
  passes : {k n b : ℕ} {p : Phase} {bs : List ℕ} {ss : List Step} → Accepts k (suc n) p bs ss
      → Accepts (suc k) n p (b ∷ bs) ss
  skips : {n b h l : ℕ} {p : Phase} {bs : List ℕ} {ss : List Step} → h * 256 + l ≤ length bs → ltb b 0x70 ≡ false
      → Accepts (suc (suc (h * 256 + l))) (suc n) p (h ∷ l ∷ bs) ss → Accepts 0 n p (b ∷ h ∷ l ∷ bs) ss
  finds : {n b h l : ℕ} {p : Phase} {bs : List ℕ} {ss : List Step} (w : Row) (m : Numbers) (q : Phase)
      → h * 256 + l ≤ length bs → ltb b 0x70 ≡ true → find b rows ≡ some w
      → numbers w.body (take (h * 256 + l) bs) no_numbers ≡ some m → judge w.sort (kinds w m) p ≡ some q
      → Accepts (suc (suc (h * 256 + l))) (suc n) q (h ∷ l ∷ bs) ss
      → Accepts 0 n p (b ∷ h ∷ l ∷ bs) (step_at n (field_of (h * 256 + l) w m) ∷ ss)

finished : (k n : ℕ) (p : Phase) (ss : List Step) → finish p ≡ steps ss → Accepts k n p [] ss
finished k n (waiting st) ss e = let z : ◌≡◌ {A = ℕ} 0 1 = cc in absurd (omega arith)
finished k n (closed m) ss e = let z : [] ≡ ss = cc in subst (Accepts k n (closed m) []) z ended

ahead_steps : (s : Step) (x : Loaded) (ss : List Step) → ahead (s ∷ []) x ≡ steps ss
    → (ts : List Step) × (x ≡ steps ts) × (s ∷ ts ≡ ss)
ahead_steps s (steps ts) ss e = (ts, refl, cc)
ahead_steps s (refused n) ss e = let z : ◌≡◌ {A = ℕ} 0 1 = cc in absurd (omega arith)

-- what the walk goes on with, by what stands there
abbrev follows : Field → ℕ → Phase → List ℕ → Loaded
follows f n p bs =
    elim f as (λ _. Loaded) [
      | end ↦ finish p
      | bad ↦ refused 14
      | skipped size ↦ walk (suc (suc size)) (suc n) p bs
      | found f ↦ elim (judge f.sort f.children p) as (λ _. Loaded) [
        | none ↦ refused 15
        | some q ↦ ahead (step_at n f ∷ []) (walk (suc (suc f.size)) (suc n) q bs)
      ]
    ]

field_accepts : (b n : ℕ) (bs : List ℕ) (f : Field) → Stepped b bs f → (p : Phase) (ss : List Step)
    → follows f n p bs ≡ steps ss
    → ((k : ℕ) (q : Phase) (ts : List Step) → walk k (suc n) q bs ≡ steps ts → Accepts k (suc n) q bs ts)
    → Accepts 0 n p (b ∷ bs) ss
field_accepts b n bs f is_bad p ss e r = let z : ◌≡◌ {A = ℕ} 0 1 = cc in absurd (omega arith)
field_accepts b n bs f (is_skipped {h} {l} z t) p ss e r = skips z t (r (suc (suc (h * 256 + l))) p ss e)
field_accepts b n bs f (is_found {h} {l} {bs = cs} w m z t i j) p ss e r = go (judge w.sort (kinds w m) p) refl e
  where
    s : Step
    s = step_at n (field_of (h * 256 + l) w m)

    go : (o : Option Phase) → judge w.sort (kinds w m) p ≡ o
        → elim o as (λ _. Loaded) [
          | none ↦ refused 15
          | some q ↦ ahead (step_at n (field_of (h * 256 + l) w m) ∷ []) (walk (suc (suc (h * 256 + l))) (suc n) q (h ∷ l ∷ cs))
        ] ≡ steps ss
        → Accepts 0 n p (b ∷ h ∷ l ∷ cs) ss
    go none g e = let z : ◌≡◌ {A = ℕ} 0 1 = cc in absurd (omega arith)
    go (some q) g e =
        let x : _ = ahead_steps _ (walk (suc (suc (h * 256 + l))) (suc n) q (h ∷ l ∷ cs)) ss e in
        subst (Accepts 0 n p (b ∷ h ∷ l ∷ cs)) x.2 (finds w m q z t i j g (r (suc (suc (h * 256 + l))) q x.0 x.1))

accepts : (bs : List ℕ) (k n : ℕ) (p : Phase) (ss : List Step) → walk k n p bs ≡ steps ss → Accepts k n p bs ss
unfolding walk
accepts [] k n p ss e = finished k n p ss e
accepts (b ∷ bs) (suc k) n p ss e = passes (accepts bs k (suc n) p ss e)
accepts (b ∷ bs) zero n p ss e =
    field_accepts b n bs (step (b ∷ bs)) (stepped b bs) p ss e (λ k q ts. accepts bs k (suc n) q ts)

-- an accepted file
pub record Stored (file : List ℕ) (ss : List Step) : Type 0 where
  pub short : length file ≤ 65536
  pub walked : Accepts 0 0 (waiting []) file ss

pub stored : (file : List ℕ) (ss : List Step) → load file ≡ steps ss → Stored file ss
unfolding load
stored file ss e = go (ltb 65536 (length file)) refl e
  where
    go : (b : Bool) → ltb 65536 (length file) ≡ b
        → elim b as (λ _. Loaded) [ true ↦ refused 14 | false ↦ walk 0 0 (waiting []) file ] ≡ steps ss → Stored file ss
    go true l e = let z : ◌≡◌ {A = ℕ} 0 1 = cc in absurd (omega arith)
    go false l e = record { short = ltb-false _ _ l; walked = accepts file 0 0 (waiting []) ss e }

-- each step takes three bytes at least
few : {k n : ℕ} {p : Phase} {bs : List ℕ} {ss : List Step} → Accepts k n p bs ss → k ≤ length bs
    → 3 * length ss + k ≤ length bs
few ended h = omega arith
few (passes a) h = omega (arith, few a (omega arith))
few (skips z t a) h = omega (arith, few a (omega arith))
few (finds w m q z t i j g a) h = omega (arith, few a (omega arith))

-- so 87,380 words have room for the steps
pub few_steps : (file : List ℕ) (ss : List Step) → load file ≡ steps ss → length ss ≤ 21845
few_steps file ss e = let s : Stored file ss = stored file ss e in omega (arith, few s.walked (omega arith), s.short)
