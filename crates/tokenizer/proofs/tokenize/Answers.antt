use Rattle.std.proofs.lemmas.Result.{err_from_is_err_and}
use Rattle.tokenizer.proofs.Answer.{wide_all, unfit, too_narrow, refused_answer, accepted_answer}
use borrow.Author.Rules.{rules}
use Rattle.tokenizer.proofs.tokenize.Goals as goal

pub returns-in_err-admitted : goal.returns-in_err-admitted
returns-in_err-admitted c =
    let e = err_from_is_err_and c.from_residual.result c.from_residual.ensures.1 in
    rw (e.1, e.2) (unfit _ _ _ _ c.in_err-admitted.ensures)

pub returns-then-not-wide : goal.returns-then-not-wide
returns-then-not-wide c = search (too_narrow, rules)

pub run-requires : goal.run-requires
run-requires c =
    let w = wide_all c.args.tokens.now c.args.errors.now c.args.text.now c.if-not-wide.false in
    (c.in_ok-admitted.ensures.0, c.in_ok-admitted.ensures.1, w.tokens, w.errors, w.text)

pub returns-in-Ok : goal.returns-in-Ok
returns-in-Ok c =
    accepted_answer c.args.script.now c.args.tokens.now c.args.errors.now c.args.text.now
    c.in_ok-admitted.ensures c.if-not-wide.false
    c.run.auto.tokens c.run.auto.errors c.run.auto.text c.in-Ok.ensures.is
    c.fill_from.ensures c.fill_from-in-Ok.ensures c.fill_from-in-Ok-2.ensures

pub returns-in-Err : goal.returns-in-Err
returns-in-Err c =
    refused_answer c.args.script.now c.args.tokens.now c.args.errors.now c.args.text.now
    c.in_ok-admitted.ensures c.if-not-wide.false
    c.run.auto.tokens c.run.auto.errors c.run.auto.text c.in-Err.ensures.is
    c.fill_from-in-Err.ensures c.fill_from-in-Err-2.ensures c.fill_from-in-Err-3.ensures
