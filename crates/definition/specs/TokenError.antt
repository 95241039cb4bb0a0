-- The numbers of token errors (docs/FORMAT.md, Token errors). Assumes nothing.
use Rattle.std.specs.Prelude.{ℕ}

abbrev pub UnknownEscape : ℕ
UnknownEscape = 1

abbrev pub UnclosedString : ℕ
UnclosedString = 2

abbrev pub NoAssembly : ℕ
NoAssembly = 3

abbrev pub UnknownCharacter : ℕ
UnknownCharacter = 4
