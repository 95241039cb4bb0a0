-- The steps of an accepted file are those of one tree, the module's, and then those of error fields; the counts of
-- children are the tree's. Assumes nothing.
use mathlib.Core.Path.{◌≡◌, refl, sym, ap, ◌∙◌, subst}
use mathlib.Core.Bool.{Bool, true, false, not}
use mathlib.Core.Option.{Option, none, some}
use mathlib.Core.List.{List, [], ◌∷◌, ◌++◌, append-nil, append_assoc}
use Prim.Native.Nat.{ℕ, zero, suc, ◌+◌, ◌*◌, ◌≤◌}
use native.Mathlib.Omega.{arith}
use borrow.Author.Tests.{not-true}
use lib.Dec.{eqb, leb}
use lib.ListN.{length}
use Rattle.definition.specs.Tag as Tag
use Rattle.definition.specs.Choice.{pick}
use Rattle.definition.specs.Classes.{between}
use Rattle.definition.specs.Source.{is_some}
use Rattle.definition.specs.Format as F
use Rattle.definition.specs.Format.{Sort, root, error, Row, rows, find}
use Rattle.definition.specs.Stored.{Phase, waiting, closed, off, pop, then_put, then_closed, judge, Step, step_at, steps, load}
use Rattle.definition.specs.StoredTerms.{Tree, node, Trees, no_trees, more, Taken, take_off, alone, tree_of, tree_steps, trees_steps, count, Counted, AllCounted, after_module, Errors, StoredTree}
use Rattle.definition.proofs.Tests.{left_true, right_true, each}
use Rattle.definition.proofs.StoredFields.{field_of}
use Rattle.definition.proofs.Accepts.{Accepts, ended, passes, skips, finds, kinds, stored}

-- ---- tags and sorts

-- whether the tag is one of the sort: the module's, an error field's, or another
abbrev tells : ℕ → Sort → Bool
tells t (F.node k) = not (eqb t Tag.Module)
tells t root = eqb t Tag.Module
tells t (error n) = between Tag.ReportedError Tag.TokenError t

-- a test of all rows, of the one that is found
each_found : (f : Row → Bool) (ws : List Row) → each f ws ≡ true → (t : ℕ) (w : Row) → find t ws ≡ some w → f w ≡ true
unfolding find
each_found f [] a t w e = let z : ◌≡◌ {A = ℕ} 0 1 = cc in absurd (omega arith)
each_found f (v ∷ ws) a t w e = go (eqb t v.tag) e (each_found f ws (right_true (f v) (each f ws) a) t w)
  where
    go : (b : Bool) → elim b as (λ _. Option Row) [ true ↦ some v | false ↦ find t ws ] ≡ some w
        → (find t ws ≡ some w → f w ≡ true) → f w ≡ true
    go true e r = let z : v ≡ w = cc in subst (λ (w : Row). f w ≡ true) z (left_true (f v) (each f ws) a)
    go false e r = r e

told : (t : ℕ) (w : Row) → find t rows ≡ some w → tells w.tag w.sort ≡ true
unfolding rows
told t w e = each_found (λ w. tells w.tag w.sort) rows refl t w e

-- ---- as many trees as kinds wait

pick_some : {A : Type 0} (b : Bool) (x y : A) → pick b (some x) none ≡ some y → x ≡ y
pick_some true x y e = cc
pick_some false x y e = let z : ◌≡◌ {A = ℕ} 0 1 = cc in absurd (omega arith)

-- how many kinds are taken off
pub popped : (ks st us : List ℕ) → pop ks st ≡ some us → length st ≡ length ks + length us
unfolding pop
popped [] st us e = let z : st ≡ us = cc in omega (arith, ap length z)
popped (k ∷ ks) st us e = go (pop ks st) e (popped ks st)
  where
    go : (o : Option (List ℕ)) → off k o ≡ some us
        → ((vs : List ℕ) → o ≡ some vs → length st ≡ length ks + length vs) → length st ≡ suc (length ks) + length us
    go none e f = let z : ◌≡◌ {A = ℕ} 0 1 = cc in absurd (omega arith)
    go (some []) e f = let z : ◌≡◌ {A = ℕ} 0 1 = cc in absurd (omega arith)
    go (some (j ∷ vs)) e f = omega (arith, f (j ∷ vs) refl, ap length (pick_some (eqb j k) vs us e))

-- so many trees can be taken off
record Off (n : ℕ) (ts : Trees) (st : List Tree) : Type 0 where
  off : Taken
  is : take_off n ts st ≡ some off
  left : length st ≡ n + length off.left

taken_off : (n : ℕ) (ts : Trees) (st : List Tree) → n ≤ length st → Off n ts st
unfolding take_off
taken_off zero ts st h = record { off = record { taken = ts; left = st }; is = refl; left = omega arith }
taken_off (suc n) ts [] h = absurd (omega arith)
taken_off (suc n) ts (t ∷ st) h =
    let o : Off n (more t ts) st = taken_off n (more t ts) st (omega arith) in
    record { off = o.off; is = o.is; left = omega (arith, o.left) }

-- ---- a tree is built

by_itself : (t : Tree) (us : List Tree) → length us ≡ 0 → is_some (alone t us) ≡ true
by_itself t [] h = refl
by_itself t (u ∷ us) h = absurd (omega arith)

-- what a node's field has left of the kinds that wait, and the phase after it
record Put (k : ℕ) (ks st : List ℕ) (q : Phase) : Type 0 where
  left : List ℕ
  number : length st ≡ length ks + length left
  phase : q ≡ waiting (k ∷ left)

module _ (ks st : List ℕ) (q : Phase) where
  put : (k : ℕ) → then_put k (pop ks st) ≡ some q → Put k ks st q
  put k e = go (pop ks st) e (popped ks st)
    where
      go : (o : Option (List ℕ)) → then_put k o ≡ some q
          → ((us : List ℕ) → o ≡ some us → length st ≡ length ks + length us) → Put k ks st q
      go none e f = let z : ◌≡◌ {A = ℕ} 0 1 = cc in absurd (omega arith)
      go (some us) e f = record { left = us; number = f us refl; phase = cc }

  -- the module's takes them all
  all_off : then_closed (pop ks st) ≡ some q → (length st ≡ length ks) × (q ≡ closed 0)
  all_off e = go (pop ks st) e (popped ks st)
    where
      go : (o : Option (List ℕ)) → then_closed o ≡ some q
          → ((us : List ℕ) → o ≡ some us → length st ≡ length ks + length us)
          → (length st ≡ length ks) × (q ≡ closed 0)
      go none e f = let z : ◌≡◌ {A = ℕ} 0 1 = cc in absurd (omega arith)
      go (some []) e f = (omega (arith, f [] refl), cc)
      go (some (u ∷ us)) e f = let z : ◌≡◌ {A = ℕ} 0 1 = cc in absurd (omega arith)

-- after the module, error fields alone
ends : {k n : ℕ} {p : Phase} {bs : List ℕ} {ss : List Step} → Accepts k n p bs ss → (m : ℕ) → p ≡ closed m → Errors ss
ends ended m e = tt
ends (passes x) m e = ends x m e
ends (skips z t x) m e = ends x m e
ends (finds {b = b} {p = p} {ss = ss} w i q z t f j g x) m e =
    let judged : judge w.sort (kinds w i) (closed m) ≡ some q = sym (ap (judge w.sort (kinds w i)) e) ∙ g in
    go w.sort (told b w f) judged (λ k e. ends x k e)
  where
    go : (y : Sort) → tells w.tag y ≡ true → judge y (kinds w i) (closed m) ≡ some q
        → ((k : ℕ) → q ≡ closed k → Errors ss)
        → (between Tag.ReportedError Tag.TokenError w.tag ≡ true) × Errors ss
    go (F.node k) t e r = let z : ◌≡◌ {A = ℕ} 0 1 = cc in absurd (omega arith)
    go root t e r = let z : ◌≡◌ {A = ℕ} 0 1 = cc in absurd (omega arith)
    go (error k) t e r = (t, r k (sym (pick_some (leb m k) (closed k) q e)))

-- a tree is built of the steps before, and those after are errors
record Builds (ts : List Tree) (ss : List Step) : Type 0 where
  tree : is_some (tree_of ts ss) ≡ true
  errors : Errors (after_module ss)

builds : {k n : ℕ} {p : Phase} {bs : List ℕ} {ss : List Step} → Accepts k n p bs ss
    → (st : List ℕ) → p ≡ waiting st → (ts : List Tree) → length ts ≡ length st → Builds ts ss
unfolding tree_of after_module
builds ended st e ts h = let z : ◌≡◌ {A = ℕ} 0 1 = cc in absurd (omega arith)
builds (passes x) st e ts h = builds x st e ts h
builds (skips z t x) st e ts h = builds x st e ts h
builds (finds {n} {b} {h = i} {l} {ss = ss} w m q z t f j g x) st e ts h =
    let judged : judge w.sort (kinds w m) (waiting st) ≡ some q = sym (ap (judge w.sort (kinds w m)) e) ∙ g in
    go w.sort (told b w f) judged (λ st e ts h. builds x st e ts h)
  where
    Next : Type 0
    Next = (st : List ℕ) → q ≡ waiting st → (ts : List Tree) → length ts ≡ length st → Builds ts ss

    s : Step
    s = step_at n (field_of (i * 256 + l) w m)

    taken : length (kinds w m) ≤ length st → Off (length (kinds w m)) no_trees ts
    taken enough = taken_off (length (kinds w m)) no_trees ts (omega (arith, enough, h))

    inner : eqb w.tag Tag.Module ≡ false → (k : ℕ) → Put k (kinds w m) st q → Next → Builds ts (s ∷ ss)
    inner t k u r =
        let o : Off (length (kinds w m)) no_trees ts = taken (omega (arith, u.number)) in
        let built : List Tree = node s o.off.taken ∷ o.off.left in
        let y : Builds built ss = r (k ∷ u.left) u.phase built (omega (arith, h, o.left, u.number)) in
        record { tree = rw (tree_of, o.is, t) y.tree; errors = rw (after_module, t) y.errors }

    top : eqb w.tag Tag.Module ≡ true → (length st ≡ length (kinds w m)) × (q ≡ closed 0) → Builds ts (s ∷ ss)
    top t u =
        let o : Off (length (kinds w m)) no_trees ts = taken (omega (arith, u.0)) in
        let none_left : length o.off.left ≡ 0 = omega (arith, h, o.left, u.0) in
        record {
          tree = rw (tree_of, o.is, t) (by_itself (node s o.off.taken) o.off.left none_left);
          errors = rw (after_module, t) (ends x 0 u.1);
        }

    go : (y : Sort) → tells w.tag y ≡ true → judge y (kinds w m) (waiting st) ≡ some q → Next → Builds ts (s ∷ ss)
    go (F.node k) t e r = inner (not-true (eqb w.tag Tag.Module) t) k (put (kinds w m) st q k e) r
    go root t e r = top t (all_off (kinds w m) st q e)
    go (error k) t e r = let z : ◌≡◌ {A = ℕ} 0 1 = cc in absurd (omega arith)

-- ---- its steps and its counts

-- the steps of the trees on a stack
stack_steps : List Tree → List Step
stack_steps [] = []
stack_steps (t ∷ st) = stack_steps st ++ tree_steps t

abbrev StackCounted : List Tree → Type 0
StackCounted [] = Unit {0}
StackCounted (t ∷ st) = Counted t × StackCounted st

record OffLaws (n : ℕ) (ts : Trees) (st : List Tree) (x : Taken) : Type 0 where
  steps : stack_steps st ++ trees_steps ts ≡ stack_steps x.left ++ trees_steps x.taken
  number : n + count ts ≡ count x.taken
  taken : AllCounted x.taken
  left : StackCounted x.left

off_laws : (n : ℕ) (ts : Trees) (st : List Tree) (x : Taken) → AllCounted ts → StackCounted st
    → take_off n ts st ≡ some x → OffLaws n ts st x
unfolding take_off stack_steps trees_steps
off_laws zero ts st x a b e =
    let z : record { taken = ts; left = st } ≡ x = cc in
    subst (OffLaws 0 ts st) z (record { steps = refl; number = omega arith; taken = a; left = b })
off_laws (suc n) ts [] x a b e = let z : ◌≡◌ {A = ℕ} 0 1 = cc in absurd (omega arith)
off_laws (suc n) ts (t ∷ st) x a b e =
    let o : OffLaws n (more t ts) st x = off_laws n (more t ts) st x (b.0, a) b.1 e in
    record {
      steps = append_assoc (stack_steps st) (tree_steps t) (trees_steps ts) ∙ o.steps;
      number = omega (arith, o.number);
      taken = o.taken;
      left = o.left;
    }

record Laws (st : List Tree) (ss : List Step) (t : Tree) : Type 0 where
  steps : stack_steps st ++ ss ≡ tree_steps t ++ after_module ss
  counted : Counted t

-- the trees taken off stand under the step
moved : (s : Step) (ss : List Step) (st : List Tree) (x : Taken)
    → stack_steps st ++ trees_steps no_trees ≡ stack_steps x.left ++ trees_steps x.taken
    → stack_steps st ++ (s ∷ ss) ≡ stack_steps (node s x.taken ∷ x.left) ++ ss
unfolding stack_steps tree_steps
moved s ss st x e =
    let z : stack_steps st ≡ stack_steps x.left ++ trees_steps x.taken = sym (append-nil (stack_steps st)) ∙ e in
    ap (λ (l : List Step). l ++ (s ∷ ss)) z ∙ simp append_assoc

laws : (ss : List Step) (st : List Tree) (t : Tree) → StackCounted st → tree_of st ss ≡ some t → Laws st ss t
unfolding tree_of after_module
laws [] st t a e = let z : ◌≡◌ {A = ℕ} 0 1 = cc in absurd (omega arith)
laws (s ∷ ss) st t a e = go (take_off s.children no_trees st) refl e (laws ss)
  where
    module_law : eqb s.tag Tag.Module ≡ true → (x : Taken) → OffLaws s.children no_trees st x
        → (us : List Tree) → us ≡ x.left → alone (node s x.taken) us ≡ some t → Laws st (s ∷ ss) t
    module_law m x o (u ∷ us) l e = let z : ◌≡◌ {A = ℕ} 0 1 = cc in absurd (omega arith)
    module_law m x o [] l e =
        let z : node s x.taken ≡ t = cc in
        subst (Laws st (s ∷ ss)) z (unfold stack_steps in record {
          steps =
              moved s ss st x o.steps
              ∙ ap (λ (us : List Tree). stack_steps (node s x.taken ∷ us) ++ ss) (sym l)
              ∙ ap (λ (l : List Step). tree_steps (node s x.taken) ++ l) (sym (rw (after_module, m)));
          counted = (omega (arith, o.number), o.taken);
        })

    step_law : eqb s.tag Tag.Module ≡ false → (x : Taken) → OffLaws s.children no_trees st x
        → Laws (node s x.taken ∷ x.left) ss t → Laws st (s ∷ ss) t
    step_law m x o y =
        record {
          steps =
              moved s ss st x o.steps
              ∙ y.steps
              ∙ ap (λ (l : List Step). tree_steps t ++ l) (sym (rw (after_module, m)));
          counted = y.counted;
        }

    go : (o : Option Taken) → take_off s.children no_trees st ≡ o
        → elim o as (λ _. Option Tree) [
          | none ↦ none
          | some x ↦ elim (eqb s.tag Tag.Module) as (λ _. Option Tree) [
            | true ↦ alone (node s x.taken) x.left
            | false ↦ tree_of (node s x.taken ∷ x.left) ss
          ]
        ] ≡ some t
        → ((st : List Tree) (t : Tree) → StackCounted st → tree_of st ss ≡ some t → Laws st ss t)
        → Laws st (s ∷ ss) t
    go none p e r = let z : ◌≡◌ {A = ℕ} 0 1 = cc in absurd (omega arith)
    go (some x) p e r = last (eqb s.tag Tag.Module) refl e
      where
        o : OffLaws s.children no_trees st x
        o = off_laws s.children no_trees st x tt a p

        last : (b : Bool) → eqb s.tag Tag.Module ≡ b
            → elim b as (λ _. Option Tree) [
              | true ↦ alone (node s x.taken) x.left
              | false ↦ tree_of (node s x.taken ∷ x.left) ss
            ] ≡ some t
            → Laws st (s ∷ ss) t
        last true m e = module_law m x o x.left refl e
        last false m e =
            step_law m x o (r (node s x.taken ∷ x.left) t ((omega (arith, o.number), o.taken), o.left) e)

-- the steps of an accepted file are those of one tree, the module's, and then those of error fields
pub stored_tree : (file : List ℕ) (ss : List Step) → load file ≡ steps ss → StoredTree ss
unfolding stack_steps
stored_tree file ss e = go (tree_of [] ss) refl b.tree
  where
    b : Builds [] ss
    b = builds (stored file ss e).walked [] refl [] refl

    go : (o : Option Tree) → tree_of [] ss ≡ o → is_some o ≡ true → StoredTree ss
    go none p h = let z : ◌≡◌ {A = ℕ} 0 1 = cc in absurd (omega arith)
    go (some t) p h =
        let l : Laws [] ss t = laws ss [] t tt p in
        record { tree = t; built = p; counted = l.counted; steps = l.steps; errors = b.errors }
