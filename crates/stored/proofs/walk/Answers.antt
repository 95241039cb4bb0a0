use mathlib.Core.Path.{refl, ap, ◌∙◌}
use native.Mathlib.Omega.{arith}
use Rattle.definition.proofs.Question.{left}
use Rattle.stored.specs.Walk.{as_field}
use Rattle.stored.proofs.Walking.{walk_bad, walk_wrong, walk_room, field_shorter, walking_start, walking_skips, walking_room, walking_finds, walking_ends}
use Rattle.stored.proofs.walk.Goals as goal

pub loop-size-init : goal.loop-size-init
loop-size-init c = walking_start _ _ _ refl

pub returns-in_err-step : goal.returns-in_err-step
returns-in_err-step c =
    let b = c.loop-size.invariant in
    rw (left c.from_residual.ensures.1) (walk_bad b.walk _ c.in_err-step.ensures, b.words)

pub returns-in-End : goal.returns-in-End
returns-in-End c =
    let b = c.loop-size.invariant in
    (walking_ends b _ c.finish.ensures (c.in_ok-step.ensures ∙ ap as_field c.in-End.is) c.requires.0 c.requires.1, b.words)

pub skip-reached-requires : goal.skip-reached-requires
skip-reached-requires c =
    omega (arith, walk_room c.loop-size.invariant.walk c.requires.0 _ (c.in_ok-step.ensures ∙ ap as_field c.in-Skipped.is))

pub loop-size-smaller-in-Skipped : goal.loop-size-smaller-in-Skipped
loop-size-smaller-in-Skipped c =
    field_shorter c.loop-size.invariant.walk _ (c.in_ok-step.ensures ∙ ap as_field c.in-Skipped.is) _
    (omega (arith, c.skip-reached.ensures.0)) (omega arith)

pub loop-size-preserved-in-Skipped : goal.loop-size-preserved-in-Skipped
loop-size-preserved-in-Skipped c =
    walking_skips c.loop-size.invariant _ _ (c.in_ok-step.ensures ∙ ap as_field c.in-Skipped.is) c.skip-reached.ensures

pub judge-requires : goal.judge-requires
judge-requires c =
    let b = c.loop-size.invariant in
    (walking_room b c.in-Found.found (c.in_ok-step.ensures ∙ ap as_field c.in-Found.is) c.requires.0, b.high)

pub returns-in_default : goal.returns-in_default
returns-in_default c =
    let b = c.loop-size.invariant in
    (walk_wrong b.walk c.in-Found.found (c.in_ok-step.ensures ∙ ap as_field c.in-Found.is) c.in_default.ensures.0, b.words)

pub write_step-reached-requires : goal.write_step-reached-requires
write_step-reached-requires c =
    let b = c.loop-size.invariant in
    let j = c.in-Some.ensures.0 in
    let r = walk_room b.walk c.requires.0 _ (c.in_ok-step.ensures ∙ ap as_field c.in-Found.is) in
    (j.children, omega (arith, j.short, b.nodes), omega (arith, r), omega (arith, r, b.walk.few, b.words, c.requires.1))

pub loop-size-smaller : goal.loop-size-smaller
loop-size-smaller c =
    field_shorter c.loop-size.invariant.walk _ (c.in_ok-step.ensures ∙ ap as_field c.in-Found.is) _
    (omega (arith, c.write_step-reached.ensures.at)) (omega arith)

pub loop-size-preserved : goal.loop-size-preserved
loop-size-preserved c =
    walking_finds c.loop-size.invariant c.in-Found.found (c.in_ok-step.ensures ∙ ap as_field c.in-Found.is) _ _
    c.in-Some.ensures.0 c.in-Some.ensures.1 c.write_step-reached.ensures
