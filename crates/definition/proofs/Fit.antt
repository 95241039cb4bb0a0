-- The records of every reading fit their fields: each is a node, its body is as the table has it for its tag, and the
-- length of the body fits two bytes. Assumes nothing.
use mathlib.Core.Path.{◌≡◌, ap}
use mathlib.Core.Option.{some}
use mathlib.Core.List.{List, [], ◌∷◌, ◌++◌}
use Prim.Native.Nat.{ℕ, ◌+◌, ◌<◌}
use native.Mathlib.Omega.{arith}
use lib.ListN.{length, length-append}
use Rattle.definition.specs.Node.{Rec, at_place, nums_bytes, rec_bytes, recs_bytes}
use Rattle.definition.specs.Format as F
use Rattle.definition.specs.Format.{Row, rows, find}
use Rattle.definition.proofs.Tests.{All, all_append}
use Rattle.definition.proofs.Room.{recs_append}
use Rattle.definition.proofs.Leaves.{Body, Leaves, none_left, also, made}

unfoldable pub body : Rec → List ℕ
body r = at_place r.place ++ nums_bytes r.numbers ++ r.text

-- a record of a node that fits its field
pub record Fit (r : Rec) : Type 0 where
  pub row : Row
  pub kind : ℕ
  pub found : find r.tag rows ≡ some row
  pub node : row.sort ≡ F.node kind
  pub holds : Body row.body r.place r.numbers r.text
  pub short : length (body r) < 65536

pub recs_length_append : (xs ys : List Rec)
    → length (recs_bytes (xs ++ ys)) ≡ length (recs_bytes xs) + length (recs_bytes ys)
recs_length_append xs ys = omega (arith, ap length (recs_append xs ys), length-append (recs_bytes xs) (recs_bytes ys))

-- records that leave nodes fit their fields, if together they are short
pub leaves_fit : {rs : List Rec} {ks : List ℕ} → Leaves rs ks → length (recs_bytes rs) < 65536 → All Fit rs
unfolding recs_bytes rec_bytes body
leaves_fit none_left h = tt
leaves_fit (also {xs} {ys} a b) h =
    let l = recs_length_append xs ys in
    all_append Fit xs ys (leaves_fit a (omega arith)) (leaves_fit b (omega arith))
leaves_fit (made {rs} {w} {k} r f s b a) h =
    let l : length (recs_bytes rs) + length (recs_bytes (r ∷ [])) < 65536 = omega
    (arith, recs_length_append rs (r ∷ [])) in
    all_append Fit rs (r ∷ []) (leaves_fit a (omega arith)) (
      record {
        row = w;
        kind = k;
        found = f;
        node = s;
        holds = b;
        short = simp length-append (omega (arith, simp length-append at l));
      },
      tt,
    )
