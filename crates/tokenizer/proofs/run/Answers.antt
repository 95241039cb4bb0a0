use Rattle.std.proofs.lemmas.Result.{err_from_is_err_and}
use Rattle.tokenizer.proofs.Looping.{loop_start, loop_blanks, loop_end, loop_stop, loop_more}
use Rattle.tokenizer.proofs.run.Goals as goal

pub loop-st-init : goal.loop-st-init
loop-st-init c = loop_start c.requires

pub returns-then-s-st : goal.returns-then-s-st
returns-then-s-st c = loop_end (loop_blanks c.loop-st.invariant c.blanks-st.ensures.skipped) c.if-s-st.true

pub turn-requires : goal.turn-requires
turn-requires c =
    let q = loop_blanks c.loop-st.invariant c.blanks-st.ensures.skipped in
    (q.ready, c.if-s-st.false, c.blanks-st.ensures.no_newline, q.wide)

pub returns-in_err-st : goal.returns-in_err-st
returns-in_err-st c =
    let q = loop_blanks c.loop-st.invariant c.blanks-st.ensures.skipped in
    let e = err_from_is_err_and c.from_residual.result c.from_residual.ensures.1 in
    rw (e.1, e.2) (loop_stop q c.if-s-st.false c.in_err-st.ensures.is)

pub loop-st-preserved : goal.loop-st-preserved
loop-st-preserved c =
    loop_more (loop_blanks c.loop-st.invariant c.blanks-st.ensures.skipped) c.if-s-st.false c.in_ok-st.ensures.is
