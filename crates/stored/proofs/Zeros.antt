-- Words that are cleared, or are zero already. Assumes nothing.
use mathlib.Core.Path.{◌≡◌, refl, sym, ap, ◌∙◌, subst}
use mathlib.Core.List.{List, [], ◌∷◌, ◌++◌, append-nil, append_assoc}
use Prim.Native.Nat.{ℕ, zero, suc, ◌+◌, ◌-◌, ◌≤◌, ◌<◌}
use native.Mathlib.Omega.{arith}
use lib.ListN.{length, take, set, get_or, replicate}
use lib.Seq.{take-suc, take-suc-set}
use Rattle.std.proofs.lemmas.List.{length-set, replicate-append-replicate}
use Rattle.slices.specs.Cleared.{Cleared}
use Rattle.stored.specs.Parts.{Bounded}
use Rattle.stored.specs.Clear.{Zeroed}

pub zero_start : (w : List ℕ) (n : ℕ) → Zeroed w n w n
zero_start w n =
    let none : 0 ≡ n - n = omega arith in
    record {
      is = sym (append-nil (take n w)) ∙ ap (λ k. take n w ++ replicate k 0) none;
      low = omega arith;
      size = refl;
    }

-- some zeros more
zeros_more : {w v u : List ℕ} {n i : ℕ} (k : ℕ) → Zeroed w n v i → take (i + k) u ≡ take i v ++ replicate k 0 → length u ≡ length v
    → Zeroed w n u (i + k)
zeros_more {w} {v} {u} {n} {i} k z e s =
    let c : (i - n) + k ≡ i + k - n = omega (arith, z.low) in
    record {
      is =
          e ∙ ap (λ l. l ++ replicate k 0) z.is ∙ append_assoc (take n w) (replicate (i - n) 0) (replicate k 0)
          ∙ ap (λ l. take n w ++ l) (replicate-append-replicate (i - n) k 0 ∙ ap (λ m. replicate m 0) c);
      low = omega (arith, z.low);
      size = s ∙ z.size;
    }

pub zero_set : {w v : List ℕ} {n i : ℕ} → Zeroed w n v i → i < length v → Zeroed w n (set v i 0) (i + 1)
zero_set {w} {v} {n} {i} z h =
    let one : suc i ≡ i + 1 = omega arith in
    zeros_more 1 z (ap (λ m. take m (set v i 0)) (sym one) ∙ take-suc-set v i 0 h) (length-set v i 0)

-- a block that another function cleared
pub zero_block : {w v u : List ℕ} {n i j : ℕ} → Zeroed w n v i → Zeroed v i u j → Zeroed w n u j
zero_block {w} {v} {u} {n} {i} {j} z b =
    let same : i + (j - i) ≡ j = omega (arith, b.low) in
    subst (Zeroed w n u) same (zeros_more (j - i) z (ap (λ m. take m u) same ∙ b.is) b.size)

-- words that are zero already
zero_there : {w v : List ℕ} {n i : ℕ} (k : ℕ) → Zeroed w n v i → Bounded v i k 0 → i + k ≤ length v → Zeroed w n v (i + k)
zero_there {w} {v} {n} {i} zero z b h = subst (Zeroed w n v) (omega arith) z
zero_there {w} {v} {n} {i} (suc k) z b h =
    let y : Zeroed w n v (i + k) = zero_there k z (λ j l. b j (omega arith)) (omega arith) in
    let here : get_or v (i + k) 0 ≡ 0 = omega (arith, b k (omega arith)) in
    let one : suc (i + k) ≡ i + k + 1 = omega arith in
    let more : take (i + k + 1) v ≡ take (i + k) v ++ replicate 1 0 =
    ap (λ m. take m v) (sym one) ∙ take-suc v (i + k) 0 (omega arith) ∙ ap (λ x. take (i + k) v ++ (x ∷ [])) here in
    subst (Zeroed w n v) (omega arith) (zeros_more 1 y more refl)

pub zero_already : (v : List ℕ) (at k n : ℕ) → Bounded v at k n → n ≡ 0 → at + k ≤ length v → Zeroed v at v (at + k)
zero_already v at k n b e h = zero_there k (zero_start v at) (λ j l. omega (arith, b j l, e)) h

pub zero_rest : {w v u : List ℕ} {n i : ℕ} → Zeroed w n v i → i ≤ length v → Cleared v i u → Cleared w n u
zero_rest {w} {v} {u} {n} {i} z h c =
    let m : (i - n) + (length v - i) ≡ length w - n = omega (arith, z.low, z.size, h) in
    record {
      is =
          c.is ∙ ap (λ l. l ++ replicate (length v - i) 0) z.is
          ∙ append_assoc (take n w) (replicate (i - n) 0) (replicate (length v - i) 0)
          ∙ ap (λ l. take n w ++ l) (replicate-append-replicate (i - n) (length v - i) 0 ∙ ap (λ k. replicate k 0) m);
    }
