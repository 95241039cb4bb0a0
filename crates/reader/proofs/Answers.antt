-- What holds of each answer of `read_script`, by its contract. Assumes nothing.
use mathlib.Core.Path.{◌≡◌, ap, sym, ◌∙◌}
use mathlib.Core.List.{List}
use Prim.Native.Nat.{ℕ, ◌+◌, ◌≤◌}
use native.Mathlib.Omega.{arith}
use lib.ListN.{length, take}
use Rattle.definition.specs.Numbers.{number_in, count_in}
use Rattle.definition.specs.Operations as O
use Rattle.definition.specs.Operations.{whole}
use Rattle.definition.specs.Demand.{file_of, full_entries, tokens_of_script}
use Rattle.definition.specs.Pieces.{LostNothing}
use Rattle.definition.specs.TreeRecords.{tree_records}
use Rattle.definition.proofs.Claim.{clean_lost_nothing}
use Rattle.definition.proofs.Room.{room}
use Rattle.definition.proofs.TreeRecords.{script_records}
use Rattle.std.specs.Prelude.{Result, Ok}
use Rattle.definition.specs.declared.refusal.Refusal.{Refusal}
use Rattle.parser.specs.Answer.{answer}

-- for the script s and the file slice o the answer is r, with o' at exit
module _ (s o : List ℕ) {o' : List ℕ} (r : Result ℕ Refusal) (e : answer r o' ≡ whole s o) where
  pub number_is : (whole s o).number ≡ number_in r
  number_is = ap (λ (w : O.Written). w.number) (sym e)

  pub file_is : file_of s o ≡ take (count_in r) o'
  file_is = ap (λ (w : O.Written). take w.bytes w.file) (sym e)

-- the same where it is accepted
module _ (s o : List ℕ) {o' : List ℕ} {r : Result ℕ Refusal} (e : answer r o' ≡ whole s o) {n : ℕ} (z : r ≡ Ok n) where
  pub accepted_number : (whole s o).number ≡ 0
  accepted_number = number_is s o r e ∙ ap number_in z

  pub accepted_file : file_of s o ≡ take n o'
  accepted_file = file_is s o r e ∙ ap (λ (a : Result ℕ Refusal). take (count_in a) o') z

  -- the file fits into 65,536 bytes
  pub answer_room : n ≤ 65536
  answer_room = omega (arith, ap (λ (w : O.Written). w.bytes) e, ap count_in z, room s o accepted_number)

  -- its tree has at most two records more than the script has tokens
  pub answer_records : tree_records (take n o') ≤ 2 + length (tokens_of_script s)
  answer_records = omega (arith, ap tree_records accepted_file, script_records s o accepted_number)

  -- if it has no entry of the full list, nothing of the script is lost
  pub answer_lost_nothing : full_entries (take n o') ≡ 0 → LostNothing s
  answer_lost_nothing h = clean_lost_nothing s o accepted_number (ap full_entries accepted_file ∙ h)
