use borrow.Author.Rules.{rules}
use Rattle.definition.specs.Records.{words_at}
use Rattle.token_records.proofs.Tested.{valid_true, valid_false, no_kind}
use Rattle.token_records.proofs.valid_token.Goals as goal

pub returns-in_default : goal.returns-in_default
returns-in_default c = no_kind _ (words_at c.args.words.now 0) c.in_default.ensures.1

pub returns-then-fields_fit-text_fits : goal.returns-then-fields_fit-text_fits
returns-then-fields_fit-text_fits c =
    valid_true _ (words_at c.args.words.now 0) c.in-Ok.ensures.0 c.in-Ok.ensures.1 {n = c.ne.result} (search rules)
    c.valid_place.ensures c.base_fits.ensures c.lost_fits.ensures c.text_fits.ensures c.if-fields_fit-text_fits.true

pub returns-else-fields_fit-text_fits : goal.returns-else-fields_fit-text_fits
returns-else-fields_fit-text_fits c =
    valid_false _ (words_at c.args.words.now 0) c.in-Ok.ensures.0 c.in-Ok.ensures.1 {n = c.ne.result} (search rules)
    c.valid_place.ensures c.base_fits.ensures c.lost_fits.ensures c.text_fits.ensures c.if-fields_fit-text_fits.false
