use native.Mathlib.Omega.{arith}
use Rattle.token_records.proofs.Chunks.{chunks_part}
use Rattle.validate.proofs.Turns.{beyond, too_many, short_tokens, short_errors, both_tested}
use Rattle.validate.proofs.valid_records.Goals as goal

pub returns-then-count-error_count : goal.returns-then-count-error_count
returns-then-count-error_count c = too_many _ _ _ _ _ c.if-count-error_count.true

pub returns-in_default : goal.returns-in_default
returns-in_default c =
    short_tokens _ _ _ _ _ c.if-count-error_count.false (beyond c.in_default.ensures.lookup.0 c.as_chunks.ensures.front_len)

pub returns-in_default-get : goal.returns-in_default-get
returns-in_default-get c =
    short_errors _ _ _ _ _ c.if-count-error_count.false (omega (arith, c.as_chunks.ensures.front_len, c.in-Some.ensures.lookup.0.1))
    (beyond c.in_default-get.ensures.lookup.0 c.as_chunks-2.ensures.front_len)

pub returns : goal.returns
returns c =
    let t = c.in-Some.ensures.lookup.0 in
    let e = c.in-Some-get.ensures.lookup.0 in
    both_tested _ _ _ _ _ c.if-count-error_count.false (omega (arith, c.as_chunks.ensures.front_len, t.1))
    (omega (arith, c.as_chunks-2.ensures.front_len, e.1))
    (c.valid_tokens.ensures c.args.tokens.now c.args.count
    (chunks_part 8 _ _ _ c.as_chunks.ensures.front (omega (arith, c.as_chunks.ensures.front_len, t.1)) t.2))
    (c.valid_errors.ensures c.args.errors.now c.args.error_count
    (chunks_part 4 _ _ _ c.as_chunks-2.ensures.front (omega (arith, c.as_chunks-2.ensures.front_len, e.1)) e.2))
