-- Runs a function of the parser, where n more counted calls may be opened. Assumes nothing.
use Rattle.std.specs.Prelude.{ℕ, suc, length}
use Rattle.definition.specs.Act.{Loop, Left, Act, St, Res, run}
use Rattle.definition.specs.Parser.{loops, parse}

unfoldable pub turns : ℕ → (l : Loop) → St → Res (Left l)
turns n l t = loops (λ h u. parse n h u) (suc (suc (length t.tokens))) l t

unfoldable pub go : {A : Type 0} → ℕ → Act A → St → Res A
unfolding turns
go n m s = run (λ h t. parse n h t) (λ l t. turns n l t) m s
