use Rattle.scan.proofs.Laws.{assembling_more, assembling_close, assembling_out, copied_room}
use Rattle.scan.proofs.assembly.Goals as goal

pub returns-then-s-c-eq125 : goal.returns-then-s-c-eq125
returns-then-s-c-eq125 c = assembling_close c.loop-c.invariant c.step-next.ensures c.if-s-c-eq125.true

pub loop-c-preserved : goal.loop-c-preserved
loop-c-preserved c =
    assembling_more c.loop-c.invariant c.step-next.ensures c.if-s-c-eq125.false c.put_char-n.ensures
    (copied_room c.step-next.ensures c.put_char-n.ensures c.loop-c.invariant.spans.asks.room)

pub returns : goal.returns
returns c = assembling_out c.loop-c.invariant c.loop-c-test.false
