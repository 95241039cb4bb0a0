-- Demand 3 (docs/FORMAT.md) about two answers of `read_script`, by its contract. Assumes nothing.
use mathlib.Core.Path.{◌≡◌, ap, sym, ◌∙◌}
use mathlib.Core.List.{List}
use Prim.Native.Nat.{ℕ}
use Rattle.definition.specs.Operations.{whole}
use Rattle.definition.specs.Demand.{tree, full_entries}
use Rattle.definition.proofs.Claim.{one_tree}
use Rattle.std.specs.Prelude.{Result}
use Rattle.definition.specs.declared.refusal.Refusal.{Refusal}
use Rattle.parser.specs.Answer.{answer}
use Rattle.reader.specs.OneTree.{OneTree}
use Rattle.reader.proofs.Answers.{accepted_number, accepted_file}

-- for the script s and the file slice o the answer is r, with o' at exit; for t and p it is q, with p' at exit
pub one_tree_of_answers : (s o t p : List ℕ) {o' p' : List ℕ} {r q : Result ℕ Refusal} → answer r o' ≡ whole s o
    → answer q p' ≡ whole t p → OneTree s o' r t p' q
one_tree_of_answers s o t p a b n m x y h k e =
    one_tree s t o p
    (accepted_number s o a x)
    (accepted_number t p b y)
    (ap full_entries (accepted_file s o a x) ∙ h)
    (ap full_entries (accepted_file t p b y) ∙ k)
    (ap tree (accepted_file s o a x) ∙ e ∙ sym (ap tree (accepted_file t p b y)))
