use Rattle.validate.proofs.Turns.{token_bad, token_early, token_more, tokens_end}
use Rattle.validate.proofs.valid_tokens.Goals as goal

pub returns-in_default : goal.returns-in_default
returns-in_default c = λ T n e. token_bad (c.loop-words.invariant T n e) e c.loop-words-test.true c.in_default.ensures

pub returns-then-not-follows : goal.returns-then-not-follows
returns-then-not-follows c = λ T n e.
    token_early (c.loop-words.invariant T n e) e c.loop-words-test.true c.in-Some.ensures c.follows.ensures c.if-not-follows.true

pub loop-words-preserved : goal.loop-words-preserved
loop-words-preserved c = λ T n e.
    token_more (c.loop-words.invariant T n e) e c.loop-words-test.true c.in-Some.ensures c.follows.ensures c.if-not-follows.false
    c.remember-previous.ensures

pub returns : goal.returns
returns c = λ T n e. tokens_end (c.loop-words.invariant T n e) e c.loop-words-test.false
