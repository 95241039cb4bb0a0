-- A text that can be quoted. Assumes nothing.
use Rattle.std.specs.Prelude.{List, [], ◌∷◌, ℕ, zero, suc, ◌≤◌, length}
use Rattle.std.specs.Borrow.{Bor}
use Rattle.source.specs.Place.{Stands, origin}

-- UTF-8, and no longer than a script
pub record Quotes (text : List ℕ) : Type 0 where
  pub stands : Stands text origin
  pub short : length text ≤ 16384

-- what a table has at an index; nothing past its end
unfoldable pub entry : List (Bor (List ℕ)) → ℕ → List ℕ
entry [] i = []
entry (t ∷ ts) zero = t.now
entry (t ∷ ts) (suc i) = entry ts i
