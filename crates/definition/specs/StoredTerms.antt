-- Stored trees: the terms in which is stated what is shown of `load`. The theorems are in proofs/Loads.antt,
-- proofs/WrittenAgain.antt and proofs/StoredTree.antt. Assumes nothing.
use Rattle.std.specs.Prelude.{◌≡◌, Bool, true, false, List, [], ◌∷◌, ◌++◌, ℕ, zero, suc, ◌+◌, ◌*◌, eqb, ltb, length, take, drop}
use Rattle.std.proofs.Math.Option.{Option, none, some}
use Rattle.definition.specs.Tag as Tag
use Rattle.definition.specs.Choice.{pick}
use Rattle.definition.specs.Classes.{between}
use Rattle.definition.specs.Node.{Rec, at_place, nums_bytes, rec_bytes, recs_bytes, field}
use Rattle.definition.specs.Fallible.{Err}
use Rattle.definition.specs.Act.{Items}
use Rattle.definition.specs.Format.{Row, rows, find, children_of, module_rec}
use Rattle.definition.specs.Stored.{word, Step}

-- ---- the steps of a file that Read writes

abbrev pub child_count : Option Row → Rec → ℕ
child_count none r = 0
child_count (some w) r = length (children_of w r)

-- of a record whose field begins at n
abbrev pub rec_step : ℕ → Rec → Step
rec_step n r = record {
  tag = r.tag;
  children = child_count (find r.tag rows) r;
  offset = n + 3;
  size = length (at_place r.place ++ nums_bytes r.numbers ++ r.text);
}

unfoldable pub rec_steps : ℕ → List Rec → List Step
unfolding find rows nums_bytes rec_bytes
rec_steps n [] = []
rec_steps n (r ∷ rs) = rec_step n r ∷ rec_steps (n + length (rec_bytes r)) rs

-- of errors in fields of one tag
unfoldable pub err_steps : ℕ → ℕ → List Err → List Step
err_steps n tag [] = []
err_steps n tag (e ∷ es) = record { tag = tag; children = 0; offset = n + 3; size = 7 } ∷ err_steps (n + 10) tag es

-- of the tree, the token errors, the reported errors and the full list, where the tree takes n bytes
abbrev pub file_steps_at : ℕ → List Err → Items → List Err → List Step
file_steps_at n es i full =
    rec_steps 0 (i.recs ++ (module_rec i.count ∷ []))
    ++ err_steps n Tag.TokenError es
    ++ err_steps (n + 10 * length es) Tag.ReportedError i.errors
    ++ err_steps (n + 10 * length es + 10 * length i.errors) Tag.FullError full

unfoldable pub file_steps : List Err → Items → List Err → List Step
unfolding rec_steps err_steps recs_bytes
file_steps es i full = file_steps_at (length (recs_bytes i.recs) + 5) es i full

-- ---- written again

-- a step's field, with its body from the file
abbrev pub again : List ℕ → Step → List ℕ
again file s = field s.tag (take s.size (drop s.offset file))

unfoldable pub written_again : List ℕ → List Step → List ℕ
written_again file [] = []
written_again file (s ∷ ss) = again file s ++ written_again file ss

-- the bytes without the skipped fields, where the next n bytes are the former field's, which stays or not
unfoldable pub without : Bool → ℕ → List ℕ → List ℕ
without stays n [] = []
without stays (suc n) (b ∷ bs) = pick stays (b ∷ []) [] ++ without stays n bs
without stays zero (b ∷ bs) = pick (ltb b 0x70) (b ∷ []) [] ++ without (ltb b 0x70) (suc (suc (word bs 0))) bs

unfoldable pub unskipped : List ℕ → List ℕ
unfolding without
unskipped file = without true 0 file

-- a step but for where it stands
abbrev pub unplaced : Step → Step
unplaced s = record { tag = s.tag; children = s.children; offset = 0; size = s.size }

-- ---- the tree of the steps

-- a step and its children, in order
mutual
  pub data Tree : Type 0 where
    node : Step → Trees → Tree

  pub data Trees : Type 0 where
    no_trees : Trees
    more : Tree → Trees → Trees

-- so many trees off a stack, in the order in which they were put there, and the stack without them
pub record Taken : Type 0 where
  pub taken : Trees
  pub left : List Tree

unfoldable pub take_off : ℕ → Trees → List Tree → Option Taken
take_off zero ts st = some (record { taken = ts; left = st })
take_off (suc n) ts [] = none
take_off (suc n) ts (t ∷ st) = take_off n (more t ts) st

abbrev pub alone : Tree → List Tree → Option Tree
alone t [] = some t
alone t (u ∷ us) = none

-- the tree of the steps up to the module's: each takes its children off, and is put there with them
unfoldable pub tree_of : List Tree → List Step → Option Tree
unfolding take_off
tree_of st [] = none
tree_of st (s ∷ ss) =
    elim (take_off s.children no_trees st) [
      | none ↦ none
      | some x ↦ elim (eqb s.tag Tag.Module) [
        | true ↦ alone (node s x.taken) x.left
        | false ↦ tree_of (node s x.taken ∷ x.left) ss
      ]
    ]

-- the steps of a tree, children first
unfoldable mutual
  pub tree_steps : Tree → List Step
  tree_steps (node s ts) = trees_steps ts ++ (s ∷ [])

  pub trees_steps : Trees → List Step
  trees_steps no_trees = []
  trees_steps (more t ts) = tree_steps t ++ trees_steps ts

abbrev pub count : Trees → ℕ
count no_trees = 0
count (more t ts) = suc (count ts)

-- at each step, the count of children is how many it has
abbrev mutual
  pub Counted : Tree → Type 0
  Counted (node s ts) = (s.children ≡ count ts) × AllCounted ts

  pub AllCounted : Trees → Type 0
  AllCounted no_trees = Unit {0}
  AllCounted (more t ts) = Counted t × AllCounted ts

-- the steps after the module's
unfoldable pub after_module : List Step → List Step
after_module [] = []
after_module (s ∷ ss) = elim (eqb s.tag Tag.Module) [ true ↦ ss | false ↦ after_module ss ]

-- each is an error field's
abbrev pub Errors : List Step → Type 0
Errors [] = Unit {0}
Errors (s ∷ ss) = (between Tag.ReportedError Tag.TokenError s.tag ≡ true) × Errors ss

-- the steps are those of one tree, which is the one that is built of them, and then those of error fields
pub record StoredTree (ss : List Step) : Type 0 where
  pub tree : Tree
  pub built : tree_of [] ss ≡ some tree
  pub counted : Counted tree
  pub steps : ss ≡ tree_steps tree ++ after_module ss
  pub errors : Errors (after_module ss)
