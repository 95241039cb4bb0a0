-- What the parser knows of records that are validated. Assumes nothing.
use Rattle.std.specs.Prelude.{◌≡◌, List, ℕ, ◌+◌, ◌*◌, ◌≤◌, length}
use Rattle.std.proofs.Math.Option.{some}
use Rattle.definition.specs.Records.{errors_of}
use Rattle.definition.specs.Operations.{Validated}
use Rattle.steps.specs.Tokens.{Held, Parts, rest, budget}

-- n token records in T with texts in X, and m error records in E, validated as h
pub record Tested (T : List ℕ) (n : ℕ) (E : List ℕ) (m : ℕ) (X : List ℕ) (h : Validated) : Type 0 where
  pub held : Held T n
  pub parts : Parts T X n
  pub tokens : rest T X n 0 ≡ h.tokens
  pub room : budget T n 0 ≤ 16 * n + 16384
  pub errors : errors_of E 0 m ≡ some h.errors
  pub few : m ≤ 255
  pub words : 4 * m ≤ length E
