-- One field: the row of its tag, its body, and the three bytes before it. Assumes nothing.
use mathlib.Core.Path.{◌≡◌, refl, sym, ap, ◌∙◌}
use mathlib.Core.Bool.{Bool, true, false, not}
use mathlib.Core.Option.{Option, none, some}
use mathlib.Core.List.{List, [], ◌∷◌}
use Prim.Native.Nat.{ℕ, ◌+◌, ◌*◌, ◌≤◌, ◌<◌}
use native.Mathlib.Omega.{arith}
use borrow.Author.Tests.{le-leb, lt-ltb, le-ltb, lt-leb}
use lib.ListN.{length, take, drop, get_or, length-drop, length-take}
use Rattle.definition.specs.Choice.{pick}
use Rattle.definition.specs.Source.{is_some}
use Rattle.definition.specs.Format as F
use Rattle.definition.specs.Format.{Row, rows, find, no_numbers}
use Rattle.definition.specs.Stored as S
use Rattle.definition.specs.Stored.{word, with_row, Field, end, bad, skipped, found, step}
use Rattle.definition.specs.Numbers.{tag_number, is_tag}
use Rattle.definition.specs.declared.tag.Tag.{Tag}
use Rattle.definition.proofs.Tests.{clash, every, every_below}
use Rattle.definition.proofs.StoredFields.{listed}
use Rattle.stored.specs.declared.nodes.Role.{Role}
use Rattle.stored.specs.Table.{row_of, parts_in, sort_of, children_of, ByRow}

-- ---- the row of a number

-- a row is found for the numbers of tags and no others
abbrev as_tag : ℕ → Bool
as_tag n = pick (is_tag n) (is_some (find n rows)) (not (is_some (find n rows)))

all_as_tags : every as_tag 0x70 ≡ true
unfolding find rows
all_as_tags = refl

pub no_row : (n : ℕ) → n < 0x70 → is_tag n ≡ false → find n rows ≡ none
no_row n h t = go (find n rows) refl (rw t at (every_below as_tag 0x70 n all_as_tags h))
  where
    go : (o : Option Row) → find n rows ≡ o → not (is_some (find n rows)) ≡ true → find n rows ≡ none
    go none e s = e
    go (some w) e s = clash (sym (rw e at s))

has_row : (n : ℕ) → n < 0x70 → is_tag n ≡ true → (w : Row) × (find n rows ≡ some w)
has_row n h t = go (find n rows) refl (rw t at (every_below as_tag 0x70 n all_as_tags h))
  where
    go : (o : Option Row) → find n rows ≡ o → is_some (find n rows) ≡ true → (w : Row) × (find n rows ≡ some w)
    go none e s = clash (sym (rw e at s))
    go (some w) e s = (w, e)

-- ---- a body with its row

module _ (tag : Tag) (n : ℕ) (body : List ℕ) (h : n < 0x70) (q : (tag_number tag ≡ n) × (is_tag n ≡ true)) where
  w : Row
  w = (has_row n h q.1).0

  f : find n rows ≡ some w
  unfolding w has_row
  f = (has_row n h q.1).1

  pub bad_body : S.numbers (parts_in (row_of tag)) body no_numbers ≡ none → with_row (length body) body (find n rows) ≡ bad
  bad_body e = rw (f, rw (q.0, f) at e)

  pub good_body : (x : Role) → ByRow (row_of tag) (S.numbers (parts_in (row_of tag)) body no_numbers) x
      → with_row (length body) body (find n rows)
      ≡ found (record { tag = n; size = length body; sort = sort_of x; children = children_of x })
  good_body x p =
      let m : F.Numbers = p.numbers in
      let b : S.numbers w.body body no_numbers ≡ some m = rw (q.0, f) at p.read in
      let same : w.tag ≡ n = sym (listed n w f).tag in
      let s : sort_of x ≡ w.sort = rw (q.0, f) at p.sort in
      let k : children_of x ≡ w.children m.byte m.count = rw (q.0, f) at p.children in
      rw (f, b) (λ i. found (record { tag = same i; size = length body; sort = sym s i; children = sym k i }))

-- ---- three bytes, and a body

pub step_end : (bs : List ℕ) → length bs ≡ 0 → step bs ≡ end
unfolding step
step_end [] h = refl
step_end (b ∷ bs) h = absurd (omega arith)

pub step_short : (bs : List ℕ) → (length bs ≡ 0 → ⊥) → length bs < 3 → step bs ≡ bad
unfolding step
step_short [] z h = absurd (z refl)
step_short (t ∷ []) z h = refl
step_short (t ∷ k ∷ []) z h = refl
step_short (t ∷ k ∷ l ∷ bs) z h = absurd (omega arith)

pub step_long : (bs : List ℕ) → 3 ≤ length bs → length bs < 3 + word bs 1 → step bs ≡ bad
unfolding step
step_long [] z h = absurd (omega arith)
step_long (t ∷ []) z h = absurd (omega arith)
step_long (t ∷ k ∷ []) z h = absurd (omega arith)
step_long (t ∷ k ∷ l ∷ bs) z h =
    let far : length bs < k * 256 + l = omega (arith, h) in
    rw (step, lt-leb (k * 256 + l) (length bs) far)

pub step_skips : (bs : List ℕ) → 3 ≤ length bs → 3 + word bs 1 ≤ length bs → 0x70 ≤ get_or bs 0 0
    → step bs ≡ skipped (word bs 1)
unfolding step
step_skips [] z h k = absurd (omega arith)
step_skips (t ∷ []) z h k = absurd (omega arith)
step_skips (t ∷ k ∷ []) z h i = absurd (omega arith)
step_skips (t ∷ k ∷ l ∷ bs) z h i = rw (step, le-leb (k * 256 + l) (length bs) (omega arith), le-ltb t 0x70 i)

pub step_row : (bs : List ℕ) → 3 ≤ length bs → 3 + word bs 1 ≤ length bs → get_or bs 0 0 < 0x70
    → step bs ≡ with_row (word bs 1) (take (word bs 1) (drop 3 bs)) (find (get_or bs 0 0) rows)
unfolding step
step_row [] z h k = absurd (omega arith)
step_row (t ∷ []) z h k = absurd (omega arith)
step_row (t ∷ k ∷ []) z h i = absurd (omega arith)
step_row (t ∷ k ∷ l ∷ bs) z h i = rw (step, le-leb (k * 256 + l) (length bs) (omega arith), lt-ltb t 0x70 i)

pub rowed : (bs : List ℕ) → 3 ≤ length bs → 3 + word bs 1 ≤ length bs → get_or bs 0 0 < 0x70
    → (size : ℕ) → size ≡ word bs 1 → (x : Field)
    → with_row (length (take size (drop 3 bs))) (take size (drop 3 bs)) (find (get_or bs 0 0) rows) ≡ x → step bs ≡ x
rowed bs z h i size s x e =
    let l : length (take size (drop 3 bs)) ≡ size = omega (arith, length-take size (drop 3 bs), length-drop 3 bs) in
    step_row bs z h i ∙ ap (λ (k : ℕ). with_row k (take k (drop 3 bs)) (find (get_or bs 0 0) rows)) (sym s)
    ∙ ap (λ (k : ℕ). with_row k (take size (drop 3 bs)) (find (get_or bs 0 0) rows)) (sym l) ∙ e
