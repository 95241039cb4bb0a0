-- Records of a slice: its chunks of one size. Assumes nothing.
use mathlib.Core.Path.{◌≡◌, refl, ap, ◌∙◌}
use mathlib.Core.List.{List, ◌∷◌}
use Prim.Native.Nat.{ℕ, zero, suc, ◌+◌, ◌-◌, ◌*◌, ◌<◌, ◌≤◌}
use native.Mathlib.Omega.{arith}
use lib.ListN.{length, get_or, take, drop}
use Rattle.std.proofs.Math.Nat.{mul-suc}
use Rattle.std.proofs.lemmas.List.{get_or-take, get_or-drop}
use Rattle.std.specs.List.{slice_range}
use Rattle.std.specs.Simd.{first_chunks}
use Rattle.definition.specs.Records.{words_at, error_at}

pub chunks_length : {A : Type 0} (N n : ℕ) (xs : List A) → length (first_chunks N n xs) ≡ n
chunks_length N zero xs = refl
chunks_length N (suc n) xs = ap suc (chunks_length N n (drop N xs))

chunks_take : {A : Type 0} (N n k : ℕ) (xs : List A) → n ≤ k → take n (first_chunks N k xs) ≡ first_chunks N n xs
chunks_take N zero k xs h = refl
chunks_take N (suc n) zero xs h = absurd (omega arith)
chunks_take N (suc n) (suc k) xs h = ap (λ l. take N xs ∷ l) (chunks_take N n k (drop N xs) (omega arith))

-- the first n of k chunks
pub chunks_part : {A : Type 0} (N n k : ℕ) (xs : List A) {cs r : List (List A)} → cs ≡ first_chunks N k xs → n ≤ k
    → r ≡ slice_range cs 0 n → r ≡ first_chunks N n xs
chunks_part N n k xs {cs} e h p = let z : n - 0 ≡ n = omega arith in p ∙ ap (λ m. take m cs) z ∙ ap (take n) e ∙ chunks_take N n k xs h

-- a word of a record is the word where it stands in the slice
pub chunk_at : (N n i j : ℕ) (ws r : List ℕ) → i < n → j < N → get_or (get_or (first_chunks N n ws) i r) j 0 ≡ get_or ws (N * i + j) 0
chunk_at N zero i j ws r h k = absurd (omega arith)
chunk_at N (suc n) zero j ws r h k = get_or-take N ws j 0 k ∙ ap (λ m. get_or ws m 0) (omega arith)
chunk_at N (suc n) (suc i) j ws r h k =
    chunk_at N n i j (drop N ws) r (omega arith) k ∙ get_or-drop N ws (N * i + j) 0
    ∙ ap (λ m. get_or ws m 0) (omega (arith, mul-suc N i))

-- so are all words of a token's record, and of an error's
module _ (ws : List ℕ) (n i : ℕ) (r : List ℕ) (h : i < n) where
  pub chunk_words : words_at (get_or (first_chunks 8 n ws) i r) 0 ≡ words_at ws i
  chunk_words = rw (at 0 (omega arith) ∙ first, at 1 (omega arith), at 2 (omega arith), at 3 (omega arith), at 4 (omega arith), at 5 (omega arith), at 6 (omega arith), at 7 (omega arith))
    where
      at : (j : ℕ) → j < 8 → get_or (get_or (first_chunks 8 n ws) i r) j 0 ≡ get_or ws (8 * i + j) 0
      at j k = chunk_at 8 n i j ws r h k

      first : get_or ws (8 * i + 0) 0 ≡ get_or ws (8 * i) 0
      first = let z : 8 * i + 0 ≡ 8 * i = omega arith in ap (λ m. get_or ws m 0) z

  pub chunk_error : error_at (get_or (first_chunks 4 n ws) i r) 0 ≡ error_at ws i
  chunk_error = rw (at 0 (omega arith) ∙ first, at 1 (omega arith), at 2 (omega arith), at 3 (omega arith))
    where
      at : (j : ℕ) → j < 4 → get_or (get_or (first_chunks 4 n ws) i r) j 0 ≡ get_or ws (4 * i + j) 0
      at j k = chunk_at 4 n i j ws r h k

      first : get_or ws (4 * i + 0) 0 ≡ get_or ws (4 * i) 0
      first = let z : 4 * i + 0 ≡ 4 * i = omega arith in ap (λ m. get_or ws m 0) z
