-- Which nodes the records of a reading leave, according to the table: the body of each record is as the table has it
-- for its tag, and the nodes that its children leave become one node of its own kind. Assumes nothing.
use mathlib.Core.Path.{◌≡◌, refl, ap, subst}
use mathlib.Core.Bool.{true, ◌||◌}
use mathlib.Core.Option.{Option, none, some}
use mathlib.Core.List.{List, [], ◌∷◌, ◌++◌, append_assoc}
use Prim.Native.Nat.{ℕ, zero, suc, ◌^◌, ◌≤◌, ◌<◌}
use lib.Dec.{eqb}
use lib.ListN.{replicate}
use Rattle.definition.specs.Source.{Place, utf8}
use Rattle.definition.specs.Node.{Num, byte, two, eight, Rec}
use Rattle.definition.specs.Format as F
use Rattle.definition.specs.Format.{Part, Row, rows, find, children_of}
use Rattle.definition.proofs.Tokens.{Placed}

-- the numbers and the text are possible for these parts of a body
pub data Suits : List Part → List Num → List ℕ → Type 0 where
  nothing : Suits [] [] []
  with_text : {t : List ℕ} → utf8 t ≡ true → Suits (F.text ∷ []) [] t
  with_byte : {lo hi n : ℕ} {ps : List Part} {ns : List Num} {t : List ℕ} → lo ≤ n → n ≤ hi → Suits ps ns t
      → Suits (F.byte lo hi ∷ ps) (byte n ∷ ns) t
  with_base : {n : ℕ} {ps : List Part} {ns : List Num} {t : List ℕ} → eqb n 2 || eqb n 10 || eqb n 16 ≡ true
      → Suits ps ns t → Suits (F.base ∷ ps) (byte n ∷ ns) t
  with_count : {n : ℕ} {ps : List Part} {ns : List Num} {t : List ℕ} → n ≤ 2048 → Suits ps ns t
      → Suits (F.count ∷ ps) (two n ∷ ns) t
  with_eight : {n : ℕ} {ps : List Part} {ns : List Num} {t : List ℕ} → n < 2 ^ 64 → Suits ps ns t
      → Suits (F.eight ∷ ps) (eight n ∷ ns) t

-- and so is the place
pub data Body : List Part → Option Place → List Num → List ℕ → Type 0 where
  bare : {ps : List Part} {ns : List Num} {t : List ℕ} → Suits ps ns t → Body ps none ns t
  at : {p : Place} {ps : List Part} {ns : List Num} {t : List ℕ} → Placed 1 p → Suits ps ns t
      → Body (F.place ∷ ps) (some p) ns t

-- the records leave nodes of these kinds, in order
pub data Leaves : List Rec → List ℕ → Type 0 where
  none_left : Leaves [] []
  also : {xs ys : List Rec} {ks ls : List ℕ} → Leaves xs ks → Leaves ys ls → Leaves (xs ++ ys) (ks ++ ls)
  made : {rs : List Rec} {w : Row} {k : ℕ} (r : Rec) → find r.tag rows ≡ some w → w.sort ≡ F.node k
      → Body w.body r.place r.numbers r.text → Leaves rs (children_of w r)
      → Leaves (rs ++ (r ∷ [])) (k ∷ [])

-- the record of the root, whose children are all the nodes that the records leave
pub record Rooted (rs : List Rec) (r : Rec) : Type 0 where
  pub row : Row
  pub found : find r.tag rows ≡ some row
  pub root : row.sort ≡ F.root
  pub holds : Body row.body r.place r.numbers r.text
  pub leaves : Leaves rs (children_of row r)

replicate_more : (n k : ℕ) → replicate n k ++ (k ∷ []) ≡ replicate (suc n) k
replicate_more zero k = refl
replicate_more (suc n) k = ap (λ (l : List ℕ). k ∷ l) (replicate_more n k)

-- one more node of the kind k
pub one_more : {xs ys : List Rec} (n k : ℕ) → Leaves xs (replicate n k) → Leaves ys (k ∷ [])
    → Leaves (xs ++ ys) (replicate (suc n) k)
one_more {xs} {ys} n k p q = subst (Leaves (xs ++ ys)) (replicate_more n k) (also p q)

-- three lists of records, one after another
pub all_three : {xs ys zs : List Rec} {ks ls ms : List ℕ} → Leaves xs ks → Leaves ys ls → Leaves zs ms
    → Leaves (xs ++ ys ++ zs) (ks ++ (ls ++ ms))
all_three {xs} {ys} {zs} {ks} {ls} {ms} p q r =
    subst (Leaves (xs ++ ys ++ zs)) (append_assoc ks ls ms) (also (also p q) r)

-- a record without children
pub leaf : {w : Row} {k : ℕ} (r : Rec) → find r.tag rows ≡ some w → w.sort ≡ F.node k → children_of w r ≡ []
    → Body w.body r.place r.numbers r.text → Leaves (r ∷ []) (k ∷ [])
leaf r f s c b = made {rs = []} r f s b (rw c none_left)
