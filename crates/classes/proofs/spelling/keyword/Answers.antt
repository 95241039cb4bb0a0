use mathlib.Core.Path.{refl, sym, ◌∙◌}
use Rattle.definition.specs.Tokenizer as Z
use Rattle.classes.proofs.Table.{same_is, found, nonzeros, search_some, search_more, search_end}
use Rattle.classes.proofs.spelling.keyword.Goals as goal

pub loop-spelled-init : goal.loop-spelled-init
unfolding Z.keyword found nonzeros
loop-spelled-init c = record { is = refl; nonzero = refl }

pub returns-then-eq : goal.returns-then-eq
returns-then-eq c =
    search_some c.loop-spelled.invariant _ c.loop-spelled-test.true
    (sym (same_is _ _) ∙ sym c.eq.ensures ∙ c.if-eq.true)

pub loop-spelled-preserved : goal.loop-spelled-preserved
loop-spelled-preserved c =
    search_more c.loop-spelled.invariant _ c.loop-spelled-test.true
    (sym (same_is _ _) ∙ sym c.eq.ensures ∙ c.if-eq.false)

pub returns : goal.returns
returns c = search_end c.loop-spelled.invariant c.loop-spelled-test.false
