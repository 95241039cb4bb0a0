-- What is said, stated over the parameters of functions and over a sentence. Assumes nothing.
use Rattle.std.specs.Prelude.{◌≡◌, ◌+◌, ◌<◌, ◌^◌, ℕ, List, length}
use Rattle.definition.specs.Slices.{MutLent, old, new}
use Rattle.sentences.specs.Said as S
use Rattle.sentences.specs.declared.write.Sentence.{Sentence}

abbrev pub Said : List ℕ → MutLent → ℕ → ℕ → Type 0
Said bs out at r = S.Said bs (old out) at (new out) r

-- the bytes are said after those of the sentence w, if so many can be counted; its slice is the same
pub record Told (bs : List ℕ) (w r : Sentence) : Type 0 where
  pub said : w.at + length bs < 2 ^ 64 → S.Said bs w.out.now w.at r.out.now r.at
  pub same : r.out.ghost_name ≡ w.out.ghost_name
