-- The walk over a stored file, field by field: over the bytes of a field, and at an offset, as a loop goes over it; and
-- how children come off the kinds that wait. Assumes nothing.
use mathlib.Core.Path.{◌≡◌, refl, sym, ap, ◌∙◌, subst}
use mathlib.Core.Option.{Option, none, some}
use mathlib.Core.List.{List, [], ◌∷◌, ◌++◌, append_assoc}
use Prim.Native.Nat.{ℕ, zero, suc, ◌+◌, ◌≤◌, ◌<◌}
use native.Mathlib.Omega.{arith}
use lib.ListN.{length, drop}
use lib.Seq.{drop-drop}
use Rattle.definition.specs.Node.{field}
use Rattle.definition.specs.Format.{Row, rows, find, Numbers, no_numbers}
use Rattle.definition.specs.Stored.{numbers, Found, Field, end, bad, skipped, found, step, Phase, off, pop, judge, step_at, finish, Loaded, refused, ahead, walk, walk_from, Step, steps}
use Rattle.definition.proofs.StoredFields.{listed, step_found, Stepped, is_bad, is_skipped, is_found, stepped}

-- ---- steps ahead

pub ahead_none : (l : Loaded) → l ≡ ahead [] l
ahead_none (steps ss) = refl
ahead_none (refused n) = refl

pub ahead_both : (ss ts : List Step) (l : Loaded) → ahead ss (ahead ts l) ≡ ahead (ss ++ ts) l
ahead_both ss ts (steps us) = ap steps (sym (append_assoc ss ts us))
ahead_both ss ts (refused n) = refl

-- ---- over the bytes of a field

pass : (xs : List ℕ) (n : ℕ) (q : Phase) (rest : List ℕ)
    → walk (length xs) n q (xs ++ rest) ≡ walk 0 (n + length xs) q rest
unfolding walk
pass [] n q rest = ap (λ (m : ℕ). walk 0 m q rest) (omega arith)
pass (x ∷ xs) n q rest = pass xs (suc n) q rest ∙ ap (λ (m : ℕ). walk 0 m q rest) (omega arith)

-- a field that stands right
pub walk_found : (t : ℕ) (body rest : List ℕ) (w : Row) (m : Numbers) (n : ℕ) (p q : Phase) → length body < 65536
    → find t rows ≡ some w → numbers w.body body no_numbers ≡ some m → judge w.sort (w.children m.byte m.count) p ≡ some q
    → walk 0 n p (field t body ++ rest)
    ≡ ahead (record { tag = t; children = length (w.children m.byte m.count); offset = n + 3; size = length body } ∷ [])
    (walk 0 (n + length (field t body)) q rest)
unfolding walk
walk_found t body rest w m n p q h f e j =
    let c : ℕ = length (w.children m.byte m.count) in
    let onward : Loaded = walk (length body) (suc (suc (suc n))) q (body ++ rest) in
    let on : walk (length body) (suc (suc (suc n))) q (body ++ rest) ≡ walk 0 (n + length (field t body)) q rest =
    pass body (suc (suc (suc n))) q rest ∙ ap (λ (k : ℕ). walk 0 k q rest) (omega arith) in
    rw (walk, step_found t body rest w m h f e, j)
    (ap (λ (k : ℕ). ahead (record { tag = k; children = c; offset = n + 3; size = length body } ∷ []) onward) (sym (listed t w f).tag)
    ∙ ap (ahead (record { tag = t; children = c; offset = n + 3; size = length body } ∷ [])) on)

-- ---- at an offset

passed : (k n : ℕ) (p : Phase) (bs : List ℕ) → k ≤ length bs → walk k n p bs ≡ walk 0 (n + k) p (drop k bs)
unfolding walk
passed zero n p bs h = ap (λ (m : ℕ). walk 0 m p bs) (omega arith)
passed (suc k) n p [] h = absurd (omega arith)
passed (suc k) n p (b ∷ bs) h =
    passed k (suc n) p bs (omega arith) ∙ ap (λ (m : ℕ). walk 0 m p (drop k bs)) (omega arith)

-- how long a field is
abbrev pub size_of : Field → ℕ
size_of end = 0
size_of bad = 0
size_of (skipped size) = 3 + size
size_of (found f) = 3 + f.size

-- it stands within the bytes
within : {b : ℕ} {bs : List ℕ} {f : Field} → Stepped b bs f → size_of f ≤ length (b ∷ bs)
within is_bad = omega arith
within (is_skipped z t) = omega arith
within (is_found w m z t i j) = omega arith

pub stands_within : (bs : List ℕ) (f : Field) → step bs ≡ f → size_of f ≤ length bs
unfolding step
stands_within [] f e = let z : end ≡ f = e in subst (λ f. size_of f ≤ 0) z (omega arith)
stands_within (b ∷ bs) f e = subst (λ f. size_of f ≤ suc (length bs)) e (within (stepped b bs))

module _ (b : ℕ) (bs : List ℕ) (n size : ℕ) where
  after_it : (q : Phase) → suc (suc size) ≤ length bs
      → walk (suc (suc size)) (suc n) q bs ≡ walk 0 (n + (3 + size)) q (drop (3 + size) (b ∷ bs))
  after_it q h =
      let m : suc n + (suc (suc size)) ≡ n + (3 + size) = omega arith in
      let k : suc (suc (suc size)) ≡ 3 + size = omega arith in
      passed (suc (suc size)) (suc n) q bs h
      ∙ ap (λ (x : ℕ). walk 0 x q (drop (suc (suc (suc size))) (b ∷ bs))) m
      ∙ ap (λ (x : ℕ). walk 0 (n + (3 + size)) q (drop x (b ∷ bs))) k

  over : (p : Phase) → step (b ∷ bs) ≡ skipped size
      → walk 0 n p (b ∷ bs) ≡ walk 0 (n + (3 + size)) p (drop (3 + size) (b ∷ bs))
  unfolding walk
  over p e = rw (walk, e) (after_it p (omega (arith, stands_within (b ∷ bs) (skipped size) e)))

on : (b : ℕ) (bs : List ℕ) (n : ℕ) (p q : Phase) (f : Found) → step (b ∷ bs) ≡ found f → judge f.sort f.children p ≡ some q
    → walk 0 n p (b ∷ bs) ≡ ahead (step_at n f ∷ []) (walk 0 (n + (3 + f.size)) q (drop (3 + f.size) (b ∷ bs)))
unfolding walk
on b bs n p q f e j =
    let h : suc (suc f.size) ≤ length bs = omega (arith, stands_within (b ∷ bs) (found f) e) in
    rw (walk, e, j) (ap (ahead (step_at n f ∷ [])) (after_it b bs n f.size q h))

module _ (file : List ℕ) (n : ℕ) (p : Phase) where
  pub at_end : step (drop n file) ≡ end → walk_from file n p ≡ finish p
  unfolding walk
  at_end e = go (drop n file) e
    where
      go : (bs : List ℕ) → step bs ≡ end → walk 0 n p bs ≡ finish p
      go [] e = refl
      go (b ∷ bs) e = rw (walk, e)

  pub at_bad : step (drop n file) ≡ bad → walk_from file n p ≡ refused 14
  unfolding walk step
  at_bad e = go (drop n file) e
    where
      go : (bs : List ℕ) → step bs ≡ bad → walk 0 n p bs ≡ refused 14
      go [] e = let z : ◌≡◌ {A = ℕ} 0 1 = cc in absurd (omega arith)
      go (b ∷ bs) e = rw (walk, e)

  pub at_skipped : (size : ℕ) → step (drop n file) ≡ skipped size → walk_from file n p ≡ walk_from file (n + (3 + size)) p
  unfolding step
  at_skipped size e = go (drop n file) e ∙ ap (walk 0 (n + (3 + size)) p) (drop-drop (3 + size) n file)
    where
      go : (bs : List ℕ) → step bs ≡ skipped size → walk 0 n p bs ≡ walk 0 (n + (3 + size)) p (drop (3 + size) bs)
      go [] e = let z : ◌≡◌ {A = ℕ} 0 1 = cc in absurd (omega arith)
      go (b ∷ bs) e = over b bs n size p e

  pub at_wrong : (f : Found) → step (drop n file) ≡ found f → judge f.sort f.children p ≡ none → walk_from file n p ≡ refused 15
  unfolding walk step
  at_wrong f e j = go (drop n file) e
    where
      go : (bs : List ℕ) → step bs ≡ found f → walk 0 n p bs ≡ refused 15
      go [] e = let z : ◌≡◌ {A = ℕ} 0 1 = cc in absurd (omega arith)
      go (b ∷ bs) e = rw (walk, e, j)

  pub at_found : (f : Found) (q : Phase) → step (drop n file) ≡ found f → judge f.sort f.children p ≡ some q
      → walk_from file n p ≡ ahead (step_at n f ∷ []) (walk_from file (n + (3 + f.size)) q)
  unfolding step
  at_found f q e j =
      go (drop n file) e
      ∙ ap (λ (bs : List ℕ). ahead (step_at n f ∷ []) (walk 0 (n + (3 + f.size)) q bs)) (drop-drop (3 + f.size) n file)
    where
      go : (bs : List ℕ) → step bs ≡ found f
          → walk 0 n p bs ≡ ahead (step_at n f ∷ []) (walk 0 (n + (3 + f.size)) q (drop (3 + f.size) bs))
      go [] e = let z : ◌≡◌ {A = ℕ} 0 1 = cc in absurd (omega arith)
      go (b ∷ bs) e = on b bs n p q f e j

-- ---- children

abbrev pub then_pop : List ℕ → Option (List ℕ) → Option (List ℕ)
then_pop ks none = none
then_pop ks (some st) = pop ks st

none_popped : (o : Option (List ℕ)) → o ≡ then_pop [] o
unfolding pop
none_popped none = refl
none_popped (some st) = refl

one_popped : (k : ℕ) (ks : List ℕ) (o : Option (List ℕ)) → off k (then_pop ks o) ≡ then_pop (k ∷ ks) o
unfolding pop
one_popped k ks none = refl
one_popped k ks (some st) = refl

pub pop_append : (xs ys st : List ℕ) → pop (xs ++ ys) st ≡ then_pop xs (pop ys st)
unfolding pop
pop_append [] ys st = none_popped (pop ys st)
pop_append (x ∷ xs) ys st = ap (off x) (pop_append xs ys st) ∙ one_popped x xs (pop ys st)
