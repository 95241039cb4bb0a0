use native.Mathlib.Omega.{arith}
use Rattle.stored.proofs.Walking.{load_short, loaded}
use Rattle.stored.proofs.load.Goals as goal

pub returns-then-records-lt-STEP_WORDS : goal.returns-then-records-lt-STEP_WORDS
returns-then-records-lt-STEP_WORDS c = load_short _ _ c.if-records-lt-STEP_WORDS.true

pub returns : goal.returns
returns c =
    loaded c.args.file.now _ _ _ _ (omega (arith, c.if-records-lt-STEP_WORDS.false)) c.unwrap_or.ensures
    c.steps-loaded.ensures.0 c.steps-loaded.ensures.1 c.clear_from.ensures
