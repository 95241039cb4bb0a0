use mathlib.Core.Path.{sym, ◌∙◌}
use Rattle.scan.proofs.Runs.{word_told, wording_none, wording_char, wording_end, wording_stop}
use Rattle.scan.proofs.wide_word.Goals as goal

pub loop-c-init : goal.loop-c-init
loop-c-init c = wording_none c.requires

pub loop-c-preserved : goal.loop-c-preserved
loop-c-preserved c =
    let w = word_told c.args.s.now c.loop-c.c _ c.code.ensures c.is_ok_and.ensures in
    wording_char c.loop-c.invariant c.loop-c-test.true (sym w ∙ c.if-is_ok_and.true) c.step-next.ensures c.put_char-n.ensures

pub returns-else-is_ok_and : goal.returns-else-is_ok_and
returns-else-is_ok_and c =
    let w = word_told c.args.s.now c.loop-c.c _ c.code.ensures c.is_ok_and.ensures in
    wording_stop c.loop-c.invariant c.loop-c-test.true (sym w ∙ c.if-is_ok_and.false)

pub returns-after-loop-c : goal.returns-after-loop-c
returns-after-loop-c c = wording_end c.loop-c.invariant c.loop-c-test.false
