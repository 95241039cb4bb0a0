-- The record of Put, stated over the parameters of the function. Assumes nothing.
use Rattle.std.specs.Prelude.{ℕ}
use Rattle.definition.specs.Slices.{MutLent, old, new}
use Rattle.definition.specs.Node.{Rec}
use Rattle.node.specs.Put as P

abbrev pub Wrote : Rec → MutLent → ℕ → ℕ → Type 0
Wrote v file pos r = P.Wrote (old file) pos v (new file) r
