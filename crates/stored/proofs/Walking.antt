-- The walk over a stored file, field by field. Assumes nothing.
use mathlib.Core.Path.{◌≡◌, refl, sym, ap, ◌∙◌, subst}
use mathlib.Core.Option.{none, some}
use mathlib.Core.List.{List, [], ◌∷◌, ◌++◌, append-nil}
use Prim.Native.Nat.{ℕ, ◌+◌, ◌*◌, ◌-◌, ◌≤◌, ◌<◌}
use native.Mathlib.Omega.{arith}
use lib.ListN.{length, take, drop, replicate, length-append, length-drop, drop_of_length-le}
use borrow.Author.Tests.{le-ltb, lt-ltb}
use Rattle.std.proofs.lemmas.List.{length-take-le}
use Rattle.definition.specs.declared.refusal.Refusal.{Refusal}
use Rattle.definition.specs.Numbers.{refusal_number}
use Rattle.definition.specs.Operations.{filled}
use Rattle.definition.specs.Stored as S
use Rattle.definition.specs.Stored.{Field, end, bad, skipped, found, step, Step, step_at, judge, steps, refused, ahead, walk_from, load, steps_words, load_into}
use Rattle.definition.proofs.StoredWalk.{ahead_none, ahead_both, at_end, at_bad, at_skipped, at_wrong, at_found, size_of, stands_within}
use Rattle.stored.specs.declared.field.Found.{Found}
use Rattle.stored.specs.declared.judge.Phase.{Phase}
use Rattle.stored.specs.declared.judge.Judged.{Judged}
use Rattle.stored.specs.declared.Reached.{Reached}
use Rattle.stored.specs.Table.{as_found, sort_of, children_of}
use Rattle.stored.specs.Nodes.{as_phase, phase_of, Judgement}
use Rattle.stored.specs.Walk.{Walked, WroteStep, Finished, Finishes, walked, answer}
use Rattle.std.specs.Prelude.{Option, Some, None, Result, Ok, Err, MatchResult}
use Rattle.std.specs.Result.{result_unwrap_or}
use Rattle.slices.specs.Cleared.{Cleared}
use Rattle.slices.specs.Written.{Wrote}

-- ---- a step is written

pub wrote : {o o' : List ℕ} {m : ℕ} (r : Reached) (f : Found) (n : ℕ) → n ≡ length (as_found f).children
    → Wrote o (4 * r.count) (f.number ∷ n ∷ (r.at + 3) ∷ f.size ∷ []) o' m
    → WroteStep r f o (record { at = r.at + 3 + f.size; count = r.count + 1 }) o'
unfolding steps_words
wrote {o} {o'} {m} r f n k w =
    let same : 4 * (r.count + 1) ≡ m = omega (arith, w.count) in
    record {
      at = refl;
      count = refl;
      words = ap (λ (x : ℕ). take x o') same ∙ w.put ∙ ap (λ n. take (4 * r.count) o ++ (f.number ∷ n ∷ (r.at + 3) ∷ f.size ∷ [])) k;
      size = w.size;
    }

-- ---- the walk goes on

words_append : (ss ts : List Step) → steps_words (ss ++ ts) ≡ steps_words ss ++ steps_words ts
unfolding steps_words
words_append [] ts = refl
words_append (s ∷ ss) ts = ap (λ (l : List ℕ). s.tag ∷ s.children ∷ s.offset ∷ s.size ∷ l) (words_append ss ts)

pub walk_start : (file o : List ℕ) → Walked file (S.waiting []) (record { at = 0; count = 0 }) o
unfolding steps_words
walk_start file o =
    record { done = []; count = refl; written = refl; rest = ahead_none (walked file); few = omega arith; inside = omega arith }

-- the offset after a field
after : (file : List ℕ) (p : S.Phase) (at size : ℕ) (at' : ℕ) → at' ≡ at + 3 + size
    → walk_from file (at + (3 + size)) p ≡ walk_from file at' p
after file p at size at' e = ap (λ n. walk_from file n p) (omega (arith, e))

-- the field ends within the file
field_inside : (file : List ℕ) (at : ℕ) (f : Field) → at ≤ length file → step (drop at file) ≡ f
    → at + size_of f ≤ length file
field_inside file at f h e = omega (arith, stands_within (drop at file) f e, length-drop at file)

module _ {file o : List ℕ} {p : S.Phase} {r : Reached} (w : Walked file p r o) where
  pub walk_skips : (size : ℕ) (r' : Reached) → step (drop r.at file) ≡ skipped size
      → (r'.at ≡ r.at + 3 + size) × (r'.count ≡ r.count) → Walked file p r' o
  walk_skips size r' e g = record {
    done = w.done;
    count = g.1 ∙ w.count;
    written = ap (λ n. take (4 * n) o) g.1 ∙ w.written;
    rest = w.rest ∙ ap (ahead w.done) (at_skipped file r.at p size e ∙ after file p r.at size r'.at g.0);
    few = omega (arith, w.few, g.0, g.1);
    inside = omega (arith, field_inside file r.at (skipped size) w.inside e, g.0);
  }

  pub walk_finds : {o' : List ℕ} (f : Found) (q : S.Phase) (r' : Reached) → step (drop r.at file) ≡ found (as_found f)
      → judge (sort_of f.role) (children_of f.role) p ≡ some q → WroteStep r f o r' o' → Walked file q r' o'
  walk_finds {o'} f q r' e j x =
      let s : Step = step_at r.at (as_found f) in
      record {
        done = w.done ++ (s ∷ []);
        count = omega (arith, x.count, w.count, length-append w.done (s ∷ []));
        written = x.words ∙ ap (λ l. l ++ steps_words (s ∷ [])) w.written ∙ sym (words_append w.done (s ∷ []));
        rest =
            w.rest ∙ ap (ahead w.done) (at_found file r.at p (as_found f) q e j)
            ∙ ahead_both w.done (s ∷ []) _
            ∙ ap (ahead (w.done ++ (s ∷ []))) (after file q r.at f.size r'.at x.at);
        few = omega (arith, w.few, x.at, x.count);
        inside = omega (arith, field_inside file r.at (found (as_found f)) w.inside e, x.at);
      }

  -- a refusal of the field here
  refuse : (n : ℕ) → walk_from file r.at p ≡ refused n → walked file ≡ refused n
  refuse n e = w.rest ∙ ap (ahead w.done) e

  pub walk_bad : (n : ℕ) → (step (drop r.at file) ≡ bad) × (n ≡ 14) → walked file ≡ refused n
  walk_bad n e = refuse n (at_bad file r.at p e.0 ∙ ap refused (sym e.1))

  pub walk_wrong : (f : Found) → step (drop r.at file) ≡ found (as_found f)
      → judge (sort_of f.role) (children_of f.role) p ≡ none → walked file ≡ refused 15
  walk_wrong f e j = refuse 15 (at_wrong file r.at p (as_found f) e j)

-- room for a field
pub walk_room : {file o : List ℕ} {p : S.Phase} {r : Reached} → Walked file p r o → length file ≤ 65536
    → (f : Field) → step (drop r.at file) ≡ f → r.at + size_of f ≤ 65536
walk_room {file} {o} {p} {r} w h f e = omega (arith, field_inside file r.at f w.inside e)

-- after a field there are fewer bytes left
pub field_shorter : {file o : List ℕ} {p : S.Phase} {r : Reached} → Walked file p r o → (f : Field)
    → step (drop r.at file) ≡ f → (at' : ℕ) → at' ≡ r.at + size_of f → 0 < size_of f → length file - at' < length file - r.at
field_shorter {file} {o} {p} {r} w f e at' h z = omega (arith, field_inside file r.at f w.inside e, h, z)

-- ---- the loop

-- the walk in a phase: there are no more nodes that wait than steps
pub record Walking (file : List ℕ) (n : ℕ) (p : Phase) (w : List ℕ) (r : Reached) (o : List ℕ) : Type 0 where
  pub walk : Walked file (as_phase p w) r o
  pub nodes : length w ≡ 21845
  pub high : p.top ≤ length w
  pub few : 21845 ≤ p.top + r.count
  pub words : length o ≡ n

pub walking_start : (file o w : List ℕ) → length w ≡ 21845
    → Walking file (length o) (record { top = 21845; last = None }) w (record { at = 0; count = 0 }) o
walking_start file o w e =
    let none_wait : drop 21845 w ≡ [] = drop_of_length-le w {i = 21845} (omega (arith, e)) in
    record {
      walk = subst (λ st. Walked file (S.waiting st) (record { at = 0; count = 0 }) o) (sym none_wait) (walk_start file o);
      nodes = e;
      high = omega (arith, e);
      few = omega arith;
      words = refl;
    }

module _ {file w o : List ℕ} {n : ℕ} {p : Phase} {r : Reached} (b : Walking file n p w r o) where
  pub walking_skips : (size : ℕ) (r' : Reached) → step (drop r.at file) ≡ skipped size
      → (r'.at ≡ r.at + 3 + size) × (r'.count ≡ r.count) → Walking file n p w r' o
  walking_skips size r' e g = record {
    walk = walk_skips b.walk size r' e g;
    nodes = b.nodes;
    high = b.high;
    few = omega (arith, b.few, g.1);
    words = b.words;
  }

  module _ (f : Found) (e : step (drop r.at file) ≡ found (as_found f)) where
    -- there is room for one node more
    pub walking_room : length file ≤ 65536 → 1 ≤ p.top
    walking_room h = omega (arith, b.few, b.walk.few, walk_room b.walk h (found (as_found f)) e)

    pub walking_finds : {v o' : List ℕ} (j : Judged) (r' : Reached) → Judgement f.role p w j v → length v ≡ length w
        → WroteStep r f o r' o' → Walking file n j.phase v r' o'
    walking_finds {v} j r' g l x = record {
      walk = walk_finds b.walk f (as_phase j.phase v) r' e g.phase x;
      nodes = l ∙ b.nodes;
      high = g.high;
      few = omega (arith, b.few, g.low, x.count);
      words = x.size ∙ b.words;
    }

  -- the file ends
  at_finish : step (drop r.at file) ≡ end → walked file ≡ ahead b.walk.done (S.finish (as_phase p []))
  at_finish e =
      b.walk.rest
      ∙ ap (ahead b.walk.done) (at_end file r.at (as_phase p w) e ∙ same p.last (drop p.top w) (drop p.top []))
    where
      same : (last : Option ℕ) (st us : List ℕ) → S.finish (phase_of last st) ≡ S.finish (phase_of last us)
      same None st us = refl
      same (Some last) st us = refl

  pub walking_ends : (a : Result ℕ Refusal) → Finishes p r.count a → step (drop r.at file) ≡ end → length file ≤ 65536
      → 87380 ≤ n
      → MatchResult a (λ m. Finished (walked file) m o) (λ e. walked file ≡ refused (refusal_number e))
  walking_ends (Ok m) g e h k = record {
    done = b.walk.done;
    all = at_finish e ∙ ap (ahead b.walk.done) g.1 ∙ ap steps (append-nil b.walk.done);
    count = g.0 ∙ b.walk.count;
    written = ap (λ m. take (4 * m) o) g.0 ∙ b.walk.written;
    few = omega (arith, g.0, b.walk.few, b.walk.inside, b.words);
  }
  walking_ends (Err x) g e h k = at_finish e ∙ ap (ahead b.walk.done) g

-- ---- the operation

pub load_long : (file : List ℕ) → 65536 < length file → load file ≡ refused 14
unfolding load
load_long file h = rw (load, lt-ltb 65536 (length file) h)

pub load_is : (file : List ℕ) → length file ≤ 65536 → load file ≡ walked file
unfolding load
load_is file h = rw (load, le-ltb 65536 (length file) h)

-- the slice is too short
pub load_short : (file o : List ℕ) → length o < 87380 → record { number = 3; count = 0; records = o } ≡ load_into file o
unfolding load_into
load_short file o h = sym (rw (load_into, lt-ltb (length o) 87380 h))

-- the slice is filled
pub loaded : (file o o' : List ℕ) {x : List ℕ} (r : Result ℕ Refusal) (n : ℕ) → 87380 ≤ length o → n ≡ result_unwrap_or r 0
    → MatchResult r (λ n. Finished (load file) n o') (λ e. load file ≡ refused (refusal_number e)) → length o' ≡ length o
    → Cleared o' (4 * n) x → answer r x ≡ load_into file o
unfolding load_into
loaded file o o' {x} (Ok m) n h c f l z =
    let w : take (4 * n) o' ≡ steps_words f.done = ap (λ k. take (4 * k) o') c ∙ f.written in
    let s : length (steps_words f.done) ≡ 4 * n =
    sym (ap length w) ∙ length-take-le (4 * n) o' (omega (arith, f.few, c)) in
    let y : x ≡ filled (length o) (steps_words f.done) =
    z.is ∙ ap (λ ws. ws ++ replicate (length o' - 4 * n) 0) w
    ∙ ap (λ k. steps_words f.done ++ replicate k 0) (omega (arith, l, s)) in
    rw (load_into, le-ltb (length o) 87380 h, f.all) (λ i. record { number = 0; count = f.count i; records = y i })
loaded file o o' {x} (Err e) n h c f l z =
    let w : take (4 * n) o' ≡ [] = ap (λ k. take (4 * k) o') c in
    let y : x ≡ filled (length o) [] =
    z.is ∙ ap (λ ws. ws ++ replicate (length o' - 4 * n) 0) w ∙ ap (λ k. replicate k 0) (omega (arith, l, c)) in
    rw (load_into, le-ltb (length o) 87380 h, f) (λ i. record { number = refusal_number e; count = 0; records = y i })
