use native.Mathlib.Omega.{arith}
use Rattle.definition.specs.Records.{words_at}
use Rattle.token_records.proofs.Tested.{text_short, text_bad, text_none, text_some, text_inside}
use Rattle.token_records.proofs.token_text.Goals as goal
use Rattle.token_records.proofs.token_text.Goals.{in_default-valid_token-via-in-Some-valid_token+else-has_text, in_default-valid_token-via-in_default-valid_token}

pub returns-in_default : goal.returns-in_default
returns-in_default c = text_short _ _ _ (omega (arith, c.as_chunks.ensures.front_len, c.in_default.ensures.lookup.3))

pub slice_bounds-result-end-in-Some-valid_token : goal.slice_bounds-result-end-in-Some-valid_token
slice_bounds-result-end-in-Some-valid_token c =
    rw c.part-start.ensures.1 (text_inside c.args.text.now (words_at c.in-Some.words.now 0) c.in-Some-valid_token.ensures c.has_text.ensures c.if-has_text.true)

pub returns-in-Some-valid_token : goal.returns-in-Some-valid_token
returns-in-Some-valid_token c =
    rw (c.part-start.ensures.0, c.part-start.ensures.1) (text_some _ _ _ c.as_chunks.ensures.front c.as_chunks.ensures.front_len c.in-Some.ensures.lookup.3
    c.in-Some-valid_token.ensures c.has_text.ensures c.if-has_text.true)

pub returns-in_default-valid_token : goal.returns-in_default-valid_token
returns-in_default-valid_token c = elim c.in_default-valid_token.branch [
  | in_default-valid_token-via-in-Some-valid_token+else-has_text w ↦
      text_none _ _ _ c.as_chunks.ensures.front c.as_chunks.ensures.front_len c.in-Some.ensures.lookup.3
      w.in-Some-valid_token.ensures w.has_text.ensures w.if-has_text.false
  | in_default-valid_token-via-in_default-valid_token w ↦
      text_bad _ _ _ c.as_chunks.ensures.front c.as_chunks.ensures.front_len c.in-Some.ensures.lookup.3
      w.in_default-valid_token.ensures
]
