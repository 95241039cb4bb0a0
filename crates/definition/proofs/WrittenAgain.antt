-- What is accepted, written again from its steps, is the same file without its skipped fields; that is accepted too,
-- with the same steps but for their offsets. Assumes nothing.
use mathlib.Core.Path.{◌≡◌, refl, sym, ap, ◌∙◌, subst}
use mathlib.Core.Bool.{Bool, true, false}
use mathlib.Core.List.{List, [], ◌∷◌, ◌++◌, map}
use Prim.Native.Nat.{ℕ, zero, suc, ◌+◌, ◌*◌, ◌/◌, ◌%◌, ◌≤◌, ◌<◌}
use native.Mathlib.Omega.{arith}
use borrow.Author.Tests.{le-ltb}
use lib.Dec.{ltb}
use lib.ListN.{length, take, drop, length-take, drop_of_length-le}
use lib.Seq.{drop-drop}
use Rattle.definition.specs.Choice.{pick}
use Rattle.definition.specs.Node.{field}
use Rattle.definition.specs.Stored.{word, Phase, waiting, Step, steps, ahead, walk, load}
use Rattle.definition.specs.StoredTerms.{written_again, without, unskipped, unplaced}
use Rattle.definition.proofs.Tests.{All}
use Rattle.definition.proofs.StoredFields.{listed}
use Rattle.definition.proofs.StoredWalk.{walk_found}
use Rattle.definition.proofs.Accepts.{Accepts, ended, passes, skips, finds, kinds, Stored, stored}

-- each is a byte
abbrev pub Bytes : List ℕ → Type 0
Bytes bs = All (λ b. b < 256) bs

-- ---- lists

drop_next : (xs : List ℕ) (n b : ℕ) (bs : List ℕ) → drop n xs ≡ b ∷ bs → drop (suc n) xs ≡ bs
drop_next xs n b bs e =
    let next : suc n ≡ n + 1 = omega arith in
    ap (λ (k : ℕ). drop k xs) next ∙ sym (drop-drop 1 n xs) ∙ ap (drop 1) e

whole_take : (k : ℕ) (bs : List ℕ) → k ≤ length bs → length (take k bs) ≡ k
whole_take k bs h = omega (arith, length-take k bs)

-- the bytes of the present field, and those after it
rest_without : (stays : Bool) (bs : List ℕ) → without stays 0 bs ≡ without true 0 bs
unfolding without
rest_without stays [] = refl
rest_without stays (b ∷ bs) = refl

pass_without : (stays : Bool) (k : ℕ) (bs : List ℕ) → k ≤ length bs
    → without stays k bs ≡ pick stays (take k bs) [] ++ without true 0 (drop k bs)
unfolding without
pass_without true zero bs h = refl
pass_without false zero bs h = rest_without false bs
pass_without stays (suc k) [] h = absurd (omega arith)
pass_without true (suc k) (b ∷ bs) h = ap (λ (l : List ℕ). b ∷ l) (pass_without true k bs (omega arith))
pass_without false (suc k) (b ∷ bs) h = pass_without false k bs (omega arith)

-- ---- one field

module _ (b h l : ℕ) (bs : List ℕ) where
  -- a field that stays: its bytes, and those after it
  kept : ltb b 0x70 ≡ true → h < 256 → l < 256 → h * 256 + l ≤ length bs
      → without true 0 (b ∷ h ∷ l ∷ bs) ≡ field b (take (h * 256 + l) bs) ++ without true 0 (drop (h * 256 + l) bs)
  unfolding without
  kept t x y z =
      let body : List ℕ = take (h * 256 + l) bs in
      let after : List ℕ = without true 0 (drop (h * 256 + l) bs) in
      let whole : length body ≡ h * 256 + l = whole_take (h * 256 + l) bs z in
      let high : h ≡ length body / 256 % 256 = omega (arith, whole) in
      let low : l ≡ length body % 256 = omega (arith, whole) in
      rw (without, t)
      (ap (λ (r : List ℕ). b ∷ h ∷ l ∷ r) (pass_without true (h * 256 + l) bs z)
      ∙ λ i. b ∷ high i ∷ low i ∷ (body ++ after))

  -- a field that is skipped
  left_out : ltb b 0x70 ≡ false → h * 256 + l ≤ length bs
      → without true 0 (b ∷ h ∷ l ∷ bs) ≡ without true 0 (drop (h * 256 + l) bs)
  unfolding without
  left_out t z = rw (without, t) (pass_without false (h * 256 + l) bs z)

-- ---- written again

again_from : (file : List ℕ) {k n : ℕ} {p : Phase} {bs : List ℕ} {ss : List Step} → Accepts k n p bs ss → k ≤ length bs
    → Bytes bs → drop n file ≡ bs → written_again file ss ≡ without true 0 (drop k bs)
unfolding written_again without
again_from file (ended {k}) h a d = rw (drop_of_length-le {A = ℕ} [] {i = k} (omega arith))
again_from file (passes {k} {n} {b} {bs = bs} x) h a d =
    again_from file x (omega arith) a.1 (drop_next file n b bs d)
again_from file (skips {n} {b} {h = i} {l} {bs = bs} z t x) h a d =
    again_from file x (omega arith) a.1 (drop_next file n b (i ∷ l ∷ bs) d) ∙ sym (left_out b i l bs t z)
again_from file (finds {n} {b} {h = i} {l} {bs = bs} {ss = ss} w m q z t f j g x) h a d =
    let size : ℕ = i * 256 + l in
    let next : drop (suc n) file ≡ i ∷ l ∷ bs = drop_next file n b (i ∷ l ∷ bs) d in
    let body : drop (n + 3) file ≡ bs = sym (drop-drop 3 n file) ∙ ap (drop 3) d in
    ap (λ (xs : List ℕ). field w.tag (take size xs) ++ written_again file ss) body
    ∙ ap (λ (k : ℕ). field k (take size bs) ++ written_again file ss) (sym (listed b w f).tag)
    ∙ ap (λ (xs : List ℕ). field b (take size bs) ++ xs) (again_from file x (omega arith) a.1 next)
    ∙ sym (kept b i l bs t a.1.0 a.1.1.0 z)

-- ---- accepted again

record Same (n : ℕ) (p : Phase) (bs : List ℕ) (ss : List Step) : Type 0 where
  found : List Step
  walked : walk 0 n p bs ≡ steps found
  same : map unplaced found ≡ map unplaced ss

still_from : {k n : ℕ} {p : Phase} {bs : List ℕ} {ss : List Step} → Accepts k n p bs ss → k ≤ length bs → Bytes bs
    → (o : ℕ) → Same o p (without true 0 (drop k bs)) ss
unfolding walk without
still_from (ended {k}) h a o =
    record { found = []; walked = rw (drop_of_length-le {A = ℕ} [] {i = k} (omega arith)); same = refl }
still_from (passes x) h a o = still_from x (omega arith) a.1 o
still_from (skips {b = b} {h = i} {l} {p} {bs} {ss} z t x) h a o =
    subst (λ (xs : List ℕ). Same o p xs ss) (sym (left_out b i l bs t z)) (still_from x (omega arith) a.1 o)
still_from (finds {b = b} {h = i} {l} {p} {bs} {ss} w m q z t f j g x) h a o =
    let body : List ℕ = take (i * 256 + l) bs in
    let after : List ℕ = without true 0 (drop (i * 256 + l) bs) in
    let whole : length body ≡ i * 256 + l = whole_take (i * 256 + l) bs z in
    let tag : b ≡ w.tag = (listed b w f).tag in
    let s : Step = record { tag = b; children = length (kinds w m); offset = o + 3; size = length body } in
    let next : ℕ = o + length (field b body) in
    let y : Same next q after ss = still_from x (omega arith) a.1 next in
    record {
      found = s ∷ y.found;
      walked =
          ap (walk 0 o p) (kept b i l bs t a.1.0 a.1.1.0 z)
          ∙ walk_found b body after w m o p q (omega (arith, whole, a.1.0, a.1.1.0)) f j g
          ∙ ap (ahead (s ∷ [])) y.walked;
      same = λ x. record { tag = tag x; children = length (kinds w m); offset = 0; size = whole x } ∷ y.same x;
    }

-- ---- the file

pick_short : (stays : Bool) (b : ℕ) (bs : List ℕ) → length (pick stays (b ∷ []) [] ++ bs) ≤ suc (length bs)
pick_short true b bs = omega arith
pick_short false b bs = omega arith

without_short : (stays : Bool) (k : ℕ) (bs : List ℕ) → length (without stays k bs) ≤ length bs
unfolding without
without_short stays k [] = omega arith
without_short stays (suc k) (b ∷ bs) =
    omega (arith, pick_short stays b (without stays k bs), without_short stays k bs)
without_short stays zero (b ∷ bs) =
    let next : ℕ = suc (suc (word bs 0)) in
    omega (arith, pick_short (ltb b 0x70) b (without (ltb b 0x70) next bs), without_short (ltb b 0x70) next bs)

-- what is accepted, written again from its steps, is the file without its skipped fields
pub written_same : (file : List ℕ) → Bytes file → (ss : List Step) → load file ≡ steps ss
    → written_again file ss ≡ unskipped file
unfolding unskipped
written_same file a ss e = again_from file (stored file ss e).walked (omega arith) a refl

-- without its skipped fields it is accepted too, with the same steps but for their offsets
pub accepted_same : (file : List ℕ) → Bytes file → (ss : List Step) → load file ≡ steps ss
    → (ts : List Step) × (load (unskipped file) ≡ steps ts) × (map unplaced ts ≡ map unplaced ss)
unfolding unskipped load
accepted_same file a ss e =
    let shorter : List ℕ = without true 0 file in
    let w : Stored file ss = stored file ss e in
    let s : Same 0 (waiting []) shorter ss = still_from w.walked (omega arith) a 0 in
    let short : length shorter ≤ 65536 = omega (arith, w.short, without_short true 0 file) in
    (s.found, rw (load, le-ltb 65536 (length shorter) short) s.walked, s.same)
