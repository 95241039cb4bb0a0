use mathlib.Core.Path.{sym, ◌∙◌}
use Rattle.steps.proofs.SameKind.{same_number, other_number}
use Rattle.fallible.proofs.Calls.{left, not_refused, item_is, refused_is, exit_refused}
use Rattle.expression_laws.proofs.Turns.{one_turn}
use Rattle.expression_laws.proofs.Loops.{loop_asked}
use Rattle.items.proofs.Modules.{module_end, module_refused, module_next}
use native.Mathlib.Omega.{arith}
use Rattle.items.proofs.module.Goals as goal

pub returns-in-End : goal.returns-in-End
returns-in-End c =
    c.loop-tokens.invariant.1.rest (module_end c.loop-tokens.invariant.0 c.peek-t.ensures (same_number c.in-End.is))

pub returns-in_err-parsed : goal.returns-in_err-parsed
returns-in_err-parsed c = let g = sym c.recover.ensures ∙ c.in_err-parsed.was in
    rw (left c.from_residual.ensures.1) (rw (refused_is _ g) at
    (c.loop-tokens.invariant.1.rest
    (module_refused c.loop-tokens.invariant.0 c.peek-t.ensures (other_number c.in_default.not-End)
    c.top_level_item.ensures (exit_refused _ g))))

pub loop-tokens-preserved : goal.loop-tokens-preserved
loop-tokens-preserved c = let h = sym c.recover.ensures ∙ c.in_ok-parsed.was in
    let more = rw (sym (item_is _ h)) at c.counted-count.ensures in (
      loop_asked c.loop-tokens.invariant.0 c.peek-t.ensures (other_number c.in_default.not-End) c.top_level_item.ensures more
          (omega arith) (omega arith) (omega arith),
      one_turn c.loop-tokens.invariant.1 (omega arith) (omega arith) (omega arith)
          c.top_level_item.ensures.moved.at
          (λ _ _ _ _ l. module_next c.loop-tokens.invariant.0 c.peek-t.ensures (other_number c.in_default.not-End)
          c.top_level_item.ensures (not_refused _ h) more l),
    )
