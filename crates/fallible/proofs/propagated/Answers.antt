use mathlib.Core.Path.{refl, ◌∙◌}
use native.Mathlib.Omega.{arith}
use Prim.Native.Nat.{◌-◌}
use lib.ListN.{drop, length-drop}
use lib.Seq.{take-paste}
use Rattle.fallible.proofs.Exchanges.{part_is}
use Rattle.fallible.proofs.propagated.Goals as goal

pub returns : goal.returns
returns c =
    let r = c.args.reported.now in
    record {
      is = refl;
      reported = rw c.copy_within.ensures.after
          (take-paste r c.args.t.reported (drop c.args.from r) (c.args.end - c.args.from) (omega arith) (simp length-drop (omega arith))
          ∙ rw (part_is r c.args.from (c.args.end - c.args.from) c.args.end (omega arith) (omega arith)));
    }
