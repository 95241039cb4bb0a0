use mathlib.Core.Path.{refl}
use Rattle.std.proofs.lemmas.Result.{err_from_is_err_and}
use Rattle.classes.specs.declared.character.Class.{Class}
use Rattle.turns.proofs.Turned.{passed_none, passed_trans}
use Rattle.tokenizer.proofs.Taking.{taken_foreign, digit_byte, taken, taken_nothing, taken_pair, taken_symbol, taken_error}
use Rattle.tokenizer.proofs.turn.Goals as goal

pub returns-in_err-n : goal.returns-in_err-n
returns-in_err-n c =
    let e = err_from_is_err_and c.from_residual.result c.from_residual.ensures.1 in
    rw (e.1, e.2, c.in_err-n.ensures.0) (taken_foreign c.requires.0.asks.stands c.requires.1 c.in_err-n.ensures.1)

pub step_along-c-requires : goal.step_along-c-requires
step_along-c-requires c =
    let a = c.requires.0.asks in
    (record { stands = a.stands; inside = c.requires.1; no_newline = c.requires.2 }, a.small)

pub returns-in-White : goal.returns-in-White
returns-in-White c =
    taken_nothing c.args.st Class.White c.in-White.is c.step_along-c.ensures c.in_ok-n.ensures.0 c.look-next.ensures
    c.class.ensures.class c.requires.0 (passed_none c.step_along-c.ensures.stands) refl

pub returns-in-Comment : goal.returns-in-Comment
returns-in-Comment c =
    taken_nothing c.args.st Class.Comment c.in-Comment.is c.step_along-c.ensures c.in_ok-n.ensures.0 c.look-next.ensures
    c.class.ensures.class c.requires.0 (passed_trans c.skip.ensures c.comment.ensures) (cc c.skip.ensures.is)

pub returns-in-Pair : goal.returns-in-Pair
returns-in-Pair c =
    taken_pair c.args.st _ c.step_along-c.ensures c.in_ok-n.ensures.0 c.look-next.ensures c.class.ensures.class c.requires.0
    c.in-Pair.is (rw c.in-Pair.is at c.class.ensures.kind) c.skip-in-Pair.ensures c.plain.ensures

pub returns-in-Symbol : goal.returns-in-Symbol
returns-in-Symbol c =
    taken_symbol c.args.st _ c.step_along-c.ensures c.in_ok-n.ensures.0 c.look-next.ensures c.class.ensures.class c.requires.0
    c.in-Symbol.is (rw c.in-Symbol.is at c.class.ensures.kind) c.plain-in-Symbol.ensures

pub returns-in-Quote : goal.returns-in-Quote
returns-in-Quote c =
    taken c.args.st Class.Quote c.in-Quote.is c.step_along-c.ensures c.in_ok-n.ensures.0 c.look-next.ensures
    c.class.ensures.class c.requires.0 c.string_turn.ensures

pub returns-in-Word : goal.returns-in-Word
returns-in-Word c =
    taken c.args.st Class.Word c.in-Word.is c.step_along-c.ensures c.in_ok-n.ensures.0 c.look-next.ensures
    c.class.ensures.class c.requires.0 c.word_turn.ensures

pub returns-in-Dash : goal.returns-in-Dash
returns-in-Dash c =
    taken c.args.st Class.Dash c.in-Dash.is c.step_along-c.ensures c.in_ok-n.ensures.0 c.look-next.ensures
    c.class.ensures.class c.requires.0 (c.dash_turn.ensures _)

pub returns-in-Zero : goal.returns-in-Zero
returns-in-Zero c =
    taken c.args.st Class.Zero c.in-Zero.is c.step_along-c.ensures c.in_ok-n.ensures.0 c.look-next.ensures
    c.class.ensures.class c.requires.0 (c.zero_turn.ensures _)

pub returns-in-Digit : goal.returns-in-Digit
returns-in-Digit c =
    let b = digit_byte _ c.requires.0.asks.stands c.requires.1 c.in_ok-n.ensures.0 c.class.ensures.class c.in-Digit.is in
    taken c.args.st Class.Digit c.in-Digit.is c.step_along-c.ensures c.in_ok-n.ensures.0 c.look-next.ensures
    c.class.ensures.class c.requires.0 (rw b at (c.integer_turn.ensures c.args.errors.now))

pub returns-in-Unknown : goal.returns-in-Unknown
returns-in-Unknown c =
    taken_error c.args.st Class.Unknown c.in-Unknown.is c.step_along-c.ensures c.in_ok-n.ensures.0 c.look-next.ensures
    c.class.ensures.class c.requires.0 refl c.with_error.ensures
