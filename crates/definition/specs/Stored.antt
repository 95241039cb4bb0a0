-- Loading a stored tree (docs/FORMAT.md, Load): a body and a field by the table of Format, the walk over a file, and the
-- operation. Assumes nothing.
use Rattle.std.specs.Prelude.{Bool, true, false, ◌&&◌, ◌||◌, List, [], ◌∷◌, ◌++◌, ℕ, zero, suc, ◌+◌, ◌*◌, eqb, ltb, leb, length, take, drop, get_or}
use Rattle.std.proofs.Math.Option.{Option, none, some}
use Rattle.definition.specs.Choice.{pick}
use Rattle.definition.specs.Source.{utf8}
use Rattle.definition.specs.Classes.{between}
use Rattle.definition.specs.Format as F
use Rattle.definition.specs.Format.{Part, Sort, node, root, error, Row, rows, find, Numbers, no_numbers}
use Rattle.definition.specs.Operations.{filled}

-- ---- a body

-- the number in two bytes, at an offset
abbrev pub word : List ℕ → ℕ → ℕ
word bs i = get_or bs i 0 * 256 + get_or bs (suc i) 0

-- how many of the bytes left a part takes
abbrev pub width : Part → List ℕ → ℕ
width F.place bs = 4
width F.place_or_nowhere bs = 4
width (F.byte lo hi) bs = 1
width F.base bs = 1
width F.count bs = 2
width F.eight bs = 8
width F.text bs = length bs

abbrev pub is_place : ℕ → ℕ → Bool
is_place line column = between 1 16384 line && between 1 16384 column

-- whether the part may hold what the bytes begin with
abbrev pub may_hold : Part → List ℕ → Bool
may_hold F.place bs = is_place (word bs 0) (word bs 2)
may_hold F.place_or_nowhere bs = is_place (word bs 0) (word bs 2) || (eqb (word bs 0) 0 && eqb (word bs 2) 0)
may_hold (F.byte lo hi) bs = between lo hi (get_or bs 0 0)
may_hold F.base bs = eqb (get_or bs 0 0) 2 || eqb (get_or bs 0 0) 10 || eqb (get_or bs 0 0) 16
may_hold F.count bs = leb (word bs 0) 2048
may_hold F.eight bs = true
may_hold F.text bs = utf8 bs

abbrev pub fits : Part → List ℕ → Bool
fits p bs = leb (width p bs) (length bs) && may_hold p bs

-- the last byte and the last count, where n is what came before
abbrev pub noted : Part → List ℕ → Numbers → Numbers
noted F.place bs n = n
noted F.place_or_nowhere bs n = n
noted (F.byte lo hi) bs n = record { byte = get_or bs 0 0; count = n.count }
noted F.base bs n = record { byte = get_or bs 0 0; count = n.count }
noted F.count bs n = record { byte = n.byte; count = word bs 0 }
noted F.eight bs n = n
noted F.text bs n = n

-- the numbers of a body, if its parts are these
unfoldable pub numbers : List Part → List ℕ → Numbers → Option Numbers
unfolding utf8
numbers [] [] n = some n
numbers [] (b ∷ bs) n = none
numbers (p ∷ ps) bs n = elim (fits p bs) [ true ↦ numbers ps (drop (width p bs) bs) (noted p bs n) | false ↦ none ]

-- ---- a field

-- a field with a row: its tag, the length of its body, its sort, the kinds of its children
pub record Found : Type 0 where
  pub tag : ℕ
  pub size : ℕ
  pub sort : Sort
  pub children : List ℕ

-- What the bytes begin with: nothing; a field that is 14; one that is skipped, with the length of its body; one with a row
pub data Field : Type 0 where
  end bad : Field
  skipped : ℕ → Field
  found : Found → Field

abbrev pub with_numbers : ℕ → Row → Option Numbers → Field
with_numbers size w none = bad
with_numbers size w (some n) = found (record { tag = w.tag; size = size; sort = w.sort; children = w.children n.byte n.count })

abbrev pub with_row : ℕ → List ℕ → Option Row → Field
with_row size body none = bad
with_row size body (some w) = with_numbers size w (numbers w.body body no_numbers)

unfoldable pub step : List ℕ → Field
unfolding find rows numbers
step [] = end
step (t ∷ []) = bad
step (t ∷ h ∷ []) = bad
step (t ∷ h ∷ l ∷ bs) =
    let size = h * 256 + l in
    elim (leb size (length bs)) [
      | false ↦ bad
      | true ↦ elim (ltb t 0x70) [ true ↦ with_row size (take size bs) (find t rows) | false ↦ skipped size ]
    ]

-- ---- the file

-- Before the module, the kinds of the nodes that are not yet children, the last one first; after it, the list of the
-- last error field, 0 if there was none
pub data Phase : Type 0 where
  waiting : List ℕ → Phase
  closed : ℕ → Phase

-- the kind stands first, and is taken off
abbrev pub off : ℕ → Option (List ℕ) → Option (List ℕ)
off k none = none
off k (some []) = none
off k (some (j ∷ st)) = pick (eqb j k) (some st) none

-- the kinds of children are taken off, the last one first
unfoldable pub pop : List ℕ → List ℕ → Option (List ℕ)
pop [] st = some st
pop (k ∷ ks) st = off k (pop ks st)

abbrev pub then_put : ℕ → Option (List ℕ) → Option Phase
then_put k none = none
then_put k (some st) = some (waiting (k ∷ st))

abbrev pub then_closed : Option (List ℕ) → Option Phase
then_closed none = none
then_closed (some []) = some (closed 0)
then_closed (some (k ∷ st)) = none

-- the phase after a field of this sort, with children of these kinds; none if the field is 15
abbrev pub judge : Sort → List ℕ → Phase → Option Phase
judge (node k) ks (waiting st) = then_put k (pop ks st)
judge root ks (waiting st) = then_closed (pop ks st)
judge (error n) ks (waiting st) = none
judge (node k) ks (closed m) = none
judge root ks (closed m) = none
judge (error n) ks (closed m) = pick (leb m n) (some (closed n)) none

-- A step: the field's tag, the count of its children, the offset of its body in the file, the body's length
pub record Step : Type 0 where
  pub tag : ℕ
  pub children : ℕ
  pub offset : ℕ
  pub size : ℕ

-- of a field at an offset
abbrev pub step_at : ℕ → Found → Step
step_at at f = record { tag = f.tag; children = length f.children; offset = at + 3; size = f.size }

pub data Loaded : Type 0 where
  steps : List Step → Loaded
  refused : ℕ → Loaded

abbrev pub ahead : List Step → Loaded → Loaded
ahead ss (steps ts) = steps (ss ++ ts)
ahead ss (refused n) = refused n

abbrev pub finish : Phase → Loaded
finish (waiting st) = refused 15
finish (closed m) = steps []

-- from the offset at on, where the next n bytes are the rest of the field before
unfoldable pub walk : ℕ → ℕ → Phase → List ℕ → Loaded
unfolding step pop
walk n at p [] = finish p
walk (suc n) at p (b ∷ bs) = walk n (suc at) p bs
walk zero at p (b ∷ bs) =
    elim (step (b ∷ bs)) [
      | end ↦ finish p
      | bad ↦ refused 14
      | skipped size ↦ walk (suc (suc size)) (suc at) p bs
      | found f ↦ elim (judge f.sort f.children p) [
        | none ↦ refused 15
        | some q ↦ ahead (step_at at f ∷ []) (walk (suc (suc f.size)) (suc at) q bs)
      ]
    ]

-- from an offset of the file on, where a field begins
abbrev pub walk_from : List ℕ → ℕ → Phase → Loaded
walk_from file at p = walk 0 at p (drop at file)

unfoldable pub load : List ℕ → Loaded
unfolding walk
load file = elim (ltb 65536 (length file)) [ true ↦ refused 14 | false ↦ walk 0 0 (waiting []) file ]

-- ---- the operation

unfoldable pub steps_words : List Step → List ℕ
steps_words [] = []
steps_words (s ∷ ss) = s.tag ∷ s.children ∷ s.offset ∷ s.size ∷ steps_words ss

-- the number, the count of steps, and the slice of records
pub record Loading : Type 0 where
  pub number : ℕ
  pub count : ℕ
  pub records : List ℕ

abbrev pub loading : List ℕ → Loaded → Loading
loading o (steps ss) = record { number = 0; count = length ss; records = filled (length o) (steps_words ss) }
loading o (refused n) = record { number = n; count = 0; records = filled (length o) [] }

-- Load: the file, the slice of records, which must have four words for each of the 21,845 fields that 65,536 bytes can
-- hold
unfoldable pub load_into : List ℕ → List ℕ → Loading
unfolding load steps_words
load_into file o =
    elim (ltb (length o) 87380) [ true ↦ record { number = 3; count = 0; records = o } | false ↦ loading o (load file) ]
