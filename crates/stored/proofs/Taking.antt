-- How children come off the nodes that wait, run by run, the last run first. Assumes nothing.
use mathlib.Core.Path.{◌≡◌, refl, sym, ap, ◌∙◌}
use mathlib.Core.Option.{Option, none, some}
use mathlib.Core.List.{List, [], ◌++◌}
use Prim.Native.Nat.{ℕ, suc, ◌+◌, ◌-◌, ◌≤◌, ◌<◌}
use native.Mathlib.Omega.{arith}
use borrow.Author.Tests.{eq-eqb, ne_eqb}
use lib.Dec.{eqb}
use lib.ListN.{length, drop, get_or, replicate, length-append, length-replicate, length-drop}
use lib.Seq.{drop-cons}
use Rattle.std.proofs.lemmas.List.{replicate-append-replicate}
use Rattle.definition.specs.Choice.{pick}
use Rattle.definition.specs.Stored.{pop}
use Rattle.definition.proofs.StoredWalk.{then_pop, pop_append}
use Rattle.definition.proofs.StoredTree.{popped}
use Rattle.stored.specs.Nodes.{Came}

-- more children than nodes
too_few : (ks st : List ℕ) → length st < length ks → pop ks st ≡ none
too_few ks st h = go (pop ks st) refl
  where
    go : (o : Option (List ℕ)) → pop ks st ≡ o → pop ks st ≡ none
    go none e = e
    go (some us) e = absurd (omega (arith, popped ks st us e))

-- ---- a run of one kind

-- i nodes of the kind k come off those from an offset on
abbrev pub Standing : List ℕ → ℕ → ℕ → ℕ → Type 0
Standing w from k i = pop (replicate i k) (drop from w) ≡ some (drop (from + i) w)

module _ (w : List ℕ) (from k : ℕ) where
  pub stand_start : Standing w from k 0
  unfolding pop
  stand_start = ap (λ n. some (drop n w)) (omega arith)

  -- one node more
  next : (i : ℕ) → Standing w from k i → from + i < length w
      → pop (replicate (suc i) k) (drop from w)
      ≡ pick (eqb (get_or w (from + i) 0) k) (some (drop (suc (from + i)) w)) none
  unfolding pop
  next i p h = rw (p, drop-cons w (from + i) 0 h) refl

  pub stand_more : (i : ℕ) → Standing w from k i → from + i < length w → get_or w (from + i) 0 ≡ k
      → Standing w from k (i + 1)
  stand_more i p h e =
      let q : suc i ≡ i + 1 = omega arith in
      let r : suc (from + i) ≡ from + (i + 1) = omega arith in
      ap (λ n. pop (replicate n k) (drop from w)) (sym q) ∙ next i p h
      ∙ ap (λ b. pick b (some (drop (suc (from + i)) w)) none) (eq-eqb _ _ e) ∙ ap (λ n. some (drop n w)) r

  -- another node
  pub stand_stop : (n i : ℕ) → Standing w from k i → from + i < length w → (get_or w (from + i) 0 ≡ k → ⊥) → i < n
      → pop (replicate n k) (drop from w) ≡ none
  stand_stop n i p h e l =
      let q : (n - suc i) + suc i ≡ n = omega arith in
      let none_there : pop (replicate (suc i) k) (drop from w) ≡ none =
      next i p h ∙ ap (λ b. pick b (some (drop (suc (from + i)) w)) none) (ne_eqb _ _ e) in
      ap (λ ks. pop ks (drop from w)) (ap (λ m. replicate m k) (sym q) ∙ sym (replicate-append-replicate (n - suc i) (suc i) k))
      ∙ pop_append (replicate (n - suc i) k) (replicate (suc i) k) (drop from w)
      ∙ ap (then_pop (replicate (n - suc i) k)) none_there

  pub stand_short : (n : ℕ) → length w - from < n → pop (replicate n k) (drop from w) ≡ none
  stand_short n h = too_few (replicate n k) (drop from w) (omega (arith, length-replicate n k, length-drop from w))

-- ---- after other children

pub not_first : (ys w xs : List ℕ) → pop ys w ≡ none → pop (xs ++ ys) w ≡ none
not_first ys w xs e = pop_append xs ys w ∙ ap (then_pop xs) e

pub none_came : (w : List ℕ) → Came [] w 0
unfolding pop
none_came w = record { number = refl; short = omega arith; off = refl }

module _ {ks w : List ℕ} {n : ℕ} (c : Came ks w n) (xs : List ℕ) where
  pub came_not : pop xs (drop n w) ≡ none → pop (xs ++ ks) w ≡ none
  came_not e = pop_append xs ks w ∙ ap (then_pop xs) c.off ∙ e

  pub came_more : (m : ℕ) → m ≡ length xs → n + m ≤ length w → pop xs (drop n w) ≡ some (drop (n + m) w)
      → Came (xs ++ ks) w (n + m)
  came_more m e h p = record {
    number = omega (arith, length-append xs ks, c.number, e);
    short = h;
    off = pop_append xs ks w ∙ ap (then_pop xs) c.off ∙ p;
  }
