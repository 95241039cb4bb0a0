use mathlib.Core.Path.{sym, ◌∙◌}
use native.Mathlib.Omega.{arith}
use Rattle.slices.proofs.Writing.{put_trans}
use Rattle.node.proofs.Laws.{is_record, nums_length, place_length}
use Rattle.node.proofs.write_record.Goals as goal

pub put_all-requires : goal.put_all-requires
put_all-requires c = omega (arith, nums_length, place_length)

pub returns : goal.returns
returns c =
    let p = put_trans c.put.ensures (put_trans c.put_two.ensures (put_trans c.put_place.ensures (put_trans c.put_numbers.ensures c.put_all.ensures))) in
    let w = is_record _ _ _ (c.place_width.ensures.0 ∙ sym (place_length _)) (c.width.ensures.0 ∙ sym (nums_length _)) (rw c.from.ensures at p) in
    grind (arith, w, p.same)
