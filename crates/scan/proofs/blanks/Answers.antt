use mathlib.Core.Path.{sym, ◌∙◌}
use borrow.Author.Tests.{ltb-true}
use lib.Dec.{ltb}
use lib.ListN.{get_or}
use Rattle.definition.specs.Classes.{is_white}
use Rattle.definition.proofs.Tests.{left_true, parts_true}
use Rattle.source.proofs.Laws.{ascii_code}
use Rattle.scan.proofs.Runs.{skipped_none, skipped_more}
use Rattle.scan.proofs.blanks.Goals as goal

pub loop-c-init : goal.loop-c-init
loop-c-init c = skipped_none c.requires.stands

pub step_byte-c-requires : goal.step_byte-c-requires
step_byte-c-requires c =
    let b = get_or c.args.s.now c.loop-c.c.at 0 in
    let l = left_true (ltb b 128) (is_white b) (sym c.is_blank.ensures ∙ c.if-is_blank.true) in
    (c.loop-c.invariant.passed.stands, c.loop-c-test.true, ltb-true b 128 l, c.requires.small)

pub loop-c-preserved : goal.loop-c-preserved
loop-c-preserved c =
    let b = get_or c.args.s.now c.loop-c.c.at 0 in
    parts_true (ltb b 128) (is_white b) (sym c.is_blank.ensures ∙ c.if-is_blank.true)
    λ l w. skipped_more c.loop-c.invariant (rw (ascii_code c.args.s.now c.loop-c.c (ltb-true b 128 l)) w) c.step_byte-c.ensures
