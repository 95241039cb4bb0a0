use mathlib.Core.Path.{◌≡◌}
use mathlib.Core.List.{List}
use Prim.Native.Nat.{ℕ}
use Rattle.std.specs.Simd.{first_chunks}
use Rattle.validate.proofs.Turns.{Tokens}
use Rattle.validate.proofs.valid_tokens.Given as goal

abbrev pub invariant-loop-words : goal.invariant-loop-words
invariant-loop-words l = (tokens : List ℕ) (n : ℕ) → l.records ≡ first_chunks 8 n tokens → Tokens tokens l.text n l.previous l.words-index
