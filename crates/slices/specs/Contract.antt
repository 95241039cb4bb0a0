-- The record of Written, stated over the parameters of functions and over writers. Assumes nothing.
use Rattle.std.specs.Prelude.{◌≡◌, List, ℕ}
use Rattle.definition.specs.Slices.{MutLent, old, new}
use Rattle.slices.specs.Written as W
use Rattle.slices.specs.declared.Writer.{Writer}

abbrev pub Wrote : List ℕ → MutLent → ℕ → ℕ → Type 0
Wrote t text n r = W.Wrote (old text) n t (new text) r

-- a writer wrote the elements t, to the slice that it had
pub record Put {T : Type 0} (t : List T) (w r : Writer T) : Type 0 where
  pub wrote : W.Wrote w.out.now w.at t r.out.now r.at
  pub same : r.out.ghost_name ≡ w.out.ghost_name
