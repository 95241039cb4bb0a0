use native.Mathlib.Omega.{arith}
use Rattle.std.specs.Prelude.{option_to_list}
use Rattle.slices.specs.Written.{Wrote}
use Rattle.slices.proofs.Writing.{wrote_none, wrote_trans}
use Rattle.turns.proofs.Numbers.{none_written, some_written, integer_law}
use Rattle.turns.proofs.integer_turn.Goals as goal
use Rattle.turns.proofs.integer_turn.Goals.{in-Some, in_default, then-end-st, else-end-st}

pub returns : goal.returns
returns c =
    let w : Wrote c.args.text.now c.args.turn.st.text (option_to_list c.args.first) c.match-first.text c.match-first.n =
    elim c.match-first.branch [
      | in-Some b ↦ rw (b.text-is, b.n-is, b.in-Some.is) b.put-n.ensures
      | in_default b ↦ rw (b.text-is, b.n-is, b.in_default.is) wrote_none
    ] in
    let y = wrote_trans w c.digits-end.ensures.wrote in
    elim c.if-end-st.branch [
      | then-end-st b ↦
          rw b.text-is (integer_law _ c.requires.0 c.digits-end.ensures.passed (none_written y b.if-end-st.true b.put.ensures)
          (omega (arith, b.put.ensures.count, c.digits-end.ensures.passed.forward)) (rw b.end-is at c.with_text.ensures))
      | else-end-st b ↦
          rw b.text-is (integer_law _ c.requires.0 c.digits-end.ensures.passed (some_written y b.if-end-st.false)
          c.digits-end.ensures.room (rw b.end-is at c.with_text.ensures))
    ]
