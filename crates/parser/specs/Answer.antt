-- The answer of Read, and what the end of a file holds. Assumes nothing.
use Rattle.std.specs.Prelude.{◌≡◌, Result, List, ◌++◌, ℕ, ◌+◌, ◌*◌, ◌≤◌, length, take}
use Rattle.definition.specs.declared.refusal.Refusal.{Refusal}
use Rattle.definition.specs.Numbers.{number_in, count_in}
use Rattle.definition.specs.Tag as Tag
use Rattle.definition.specs.Node.{u16, field}
use Rattle.definition.specs.Fallible as F
use Rattle.definition.specs.Fallible.{errs_bytes}
use Rattle.definition.specs.Operations as O
use Rattle.definition.specs.Operations.{filled}
use Rattle.fallible.specs.declared.error.Error.{Error}
use Rattle.fallible.specs.Lists.{errs}
use Rattle.steps.specs.Tokens.{budget}

abbrev pub answer : Result ℕ Refusal → List ℕ → O.Written
answer r o = record { number = number_in r; bytes = count_in r; file = o }

-- ---- after the tree

-- a file: the tree, the module's field, the token errors, the reported errors, the full list
abbrev pub tree_file : List ℕ → ℕ → List F.Err → List F.Err → List F.Err → List ℕ
tree_file tree count es reported full = tree ++ field Tag.Module (u16 count) ++ errs_bytes Tag.TokenError es ++ errs_bytes Tag.ReportedError reported ++ errs_bytes Tag.FullError full

-- room for what follows the tree after p, with m token errors
pub record RestRoom (o : List ℕ) (p m : ℕ) (r : List Error) (reported_count : ℕ) (f : List Error) (full_count : ℕ) : Type 0 where
  pub room : p + 10 * m + 10 * reported_count + 10 * full_count + 18 ≤ length o
  pub reps : reported_count ≤ length r
  pub fulls : full_count ≤ length f

-- what follows the tree is written and ends at q, with zeros after it
pub record RestWritten (o : List ℕ) (p count : ℕ) (es : List F.Err) (r : List Error) (reported_count : ℕ) (f : List Error) (full_count : ℕ) (o' : List ℕ) (q : ℕ) : Type 0 where
  pub end : q ≡ length (tree_file (take p o) count es (errs r reported_count) (errs f full_count))
  pub is : o' ≡ filled (length o) (tree_file (take p o) count es (errs r reported_count) (errs f full_count))

-- ---- tokens that are read

-- the n tokens account for no more file bytes than n tokens of a script, and there are no more than 255 token errors
pub record Bounded (T : List ℕ) (n m : ℕ) : Type 0 where
  pub room : budget T n 0 ≤ 16 * n + 16384
  pub few : m ≤ 255
