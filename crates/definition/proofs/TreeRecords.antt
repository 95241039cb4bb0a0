-- The tree of a file has at most two records more than there are tokens; that of `fn f` has two more.
-- Assumes nothing.
use mathlib.Core.Path.{◌≡◌, refl, ap, ◌∙◌}
use mathlib.Core.List.{List}
use Prim.Native.Nat.{ℕ, suc, ◌+◌, ◌≤◌}
use native.Mathlib.Omega.{arith}
use lib.ListN.{length, take, replicate}
use lib.Seq.{take_at}
use Rattle.definition.specs.Ascii.{ascii}
use Rattle.definition.specs.Operations.{read, whole, file_bytes}
use Rattle.definition.specs.Demand.{file_of, tokens_of_script}
use Rattle.definition.specs.TreeRecords.{tree_records}
use Rattle.definition.proofs.Counts.{few_records}
use Rattle.definition.proofs.Room.{light}
use Rattle.definition.proofs.Fields.{records_of_file}
use Rattle.definition.proofs.Accepted.{Accepted, accepted}
use Rattle.definition.proofs.AcceptedRead.{AcceptedRead, accepted_read, read_light}
use Rattle.definition.proofs.Claim.{file_is, tokens_are}

-- for an accepted script
pub script_records : (s o : List ℕ) → (whole s o).number ≡ 0
    → tree_records (file_of s o) ≤ 2 + length (tokens_of_script s)
script_records s o e =
    let a : Accepted s o = accepted s o e in
    let r : tree_records (file_of s o) ≡ suc (length a.items.recs) =
    ap tree_records (file_is s o a)
    ∙ records_of_file a.errors a.items a.last.full (omega (arith, (light a).0)) in
    omega (arith, r, few_records a.toks a.items a.last a.parsed, ap length (tokens_are s o a))

-- for n tokens that Read accepts
module _ (T : List ℕ) (n : ℕ) (E : List ℕ) (m : ℕ) (X o : List ℕ) (z : (read T n E m X o).number ≡ 0) where
  a : AcceptedRead T n E m X o
  a = accepted_read T n E m X o z

  written : List ℕ
  written = take (read T n E m X o).bytes (read T n E m X o).file

  written_is : written ≡ file_bytes a.errors a.items a.last.full
  unfolding written
  written_is = rw (a.bytes, a.file) (take_at _ _ _ refl)

  pub read_records : tree_records (take (read T n E m X o).bytes (read T n E m X o).file) ≤ 2 + n
  unfolding a written
  read_records =
      let r : tree_records written ≡ suc (length a.items.recs) =
      ap tree_records written_is
      ∙ records_of_file a.errors a.items a.last.full (omega (arith, (read_light T n E m X o z).0)) in
      omega (arith, r, few_records a.toks a.items a.last a.parsed, a.sized.many)

-- `fn f`: the file begins with 11, 40, 50 and 5F
pub four_records : tree_records (file_of (ascii "fn f") (replicate 65536 0)) ≡ 4
unfolding tree_records whole ascii
four_records = refl

pub two_tokens : length (tokens_of_script (ascii "fn f")) ≡ 2
unfolding tokens_of_script ascii
two_tokens = refl
