-- Parts of a sentence written one after the other. Assumes nothing.
use mathlib.Core.Path.{◌≡◌, refl, sym, ap, ◌∙◌, subst}
use mathlib.Core.List.{List, [], ◌∷◌, ◌++◌, append_assoc, append-nil}
use Prim.Native.Nat.{ℕ, ◌+◌, ◌<◌, ◌≤◌}
use native.Mathlib.Omega.{arith}
use lib.ListN.{length, get_or, take, length-append}
use lib.Seq.{take_all}
use Rattle.std.proofs.lemmas.List.{take_more}
use Rattle.std.proofs.lemmas.List.Concat.{flat_map-append}
use Rattle.std.specs.List.{flat_map}
use Rattle.sentences.specs.Said.{Short, Said}
use Rattle.sentences.specs.Contract.{Told}
use Rattle.sentences.specs.declared.write.Sentence.{Sentence}

pub said_none : {o : List ℕ} {n : ℕ} → Said [] o n o n
said_none {o} {n} = record { end = omega arith; is = λ _. sym (append-nil (take n o)); size = refl }

pub said_same : {bs cs o o' : List ℕ} {n m : ℕ} → Said bs o n o' m → bs ≡ cs → Said cs o n o' m
said_same {o = o} {o'} {n} {m} s e = subst (λ (x : List ℕ). Said x o n o' m) e s

pub short_same : {bs cs : List ℕ} {n : ℕ} → Short cs n → bs ≡ cs → Short bs n
short_same {n = n} h e = subst (λ (x : List ℕ). Short x n) (sym e) h

said_then : {a b o o' o'' : List ℕ} {n m k : ℕ} → Said a o n o' m → Said b o' m o'' k → Said (a ++ b) o n o'' k
said_then {a} {b} {o} {o'} {o''} {n} {m} {k} s t =
    record {
      end = omega (arith, s.end, t.end, length-append a b);
      is = λ h. t.is (omega (arith, h, s.size)) ∙ ap (λ (x : List ℕ). x ++ b) (s.is (omega (arith, h, t.end)))
          ∙ append_assoc (take n o) a b;
      size = t.size ∙ s.size;
    }

-- ---- by a sentence

pub told_none : {w : Sentence} → Told [] w w
told_none = record { said = λ _. said_none; same = refl }

pub told_same : {bs cs : List ℕ} {w r : Sentence} → Told bs w r → bs ≡ cs → Told cs w r
told_same {w = w} {r = r} t e = subst (λ (x : List ℕ). Told x w r) e t

pub told_then : {a b : List ℕ} {w v r : Sentence} → Told a w v → Told b v r → Told (a ++ b) w r
told_then {a} {b} s t =
    record {
      said = λ h.
          let l : length (a ++ b) ≡ length a + length b = length-append a b in
          let p = s.said (omega (arith, h, l)) in
          said_then p (t.said (omega (arith, h, l, p.end)));
      same = t.same ∙ s.same;
    }

-- at the end of a message
pub told_last : {a b : List ℕ} {w v r : Sentence} → Told a w v → Told b v r → Told (a ++ (b ++ [])) w r
told_last {a} {b} s t = told_same (told_then s t) (ap (λ (x : List ℕ). a ++ x) (sym (append-nil b)))

-- ---- one after the other

module _ {A : Type 0} (f : A → List ℕ) (xs : List A) where
  pub told_each : {i j : ℕ} {x : A} {w v r : Sentence} → Told (flat_map f (take i xs)) w v → i < length xs → x ≡ get_or xs i x → j ≡ i + 1
      → Told (f x) v r → Told (flat_map f (take j xs)) w r
  told_each {i} {j} {x} q h e k t =
      told_same (told_then q t)
      (rw (k, take_more xs i x h, ← e) (sym (flat_map-append f (take i xs) (x ∷ []) ∙ ap (λ (y : List ℕ). flat_map f (take i xs) ++ y) (append-nil (f x)))))

  pub told_all : {i : ℕ} {w r : Sentence} → Told (flat_map f (take i xs)) w r → length xs ≤ i → Told (flat_map f xs) w r
  told_all {i} q h = told_same q (ap (flat_map f) (take_all i xs h))

-- ---- the sentence

-- it can be counted
pub told_short : {bs cs : List ℕ} {w r : Sentence} → Told bs w r → bs ≡ cs → Short cs w.at → Said cs w.out.now w.at r.out.now r.at
told_short t e h = said_same (t.said (omega (arith, h, ap length e))) e
