use Rattle.std.proofs.Common.{rules, subst, sym, IsTrue}
use Rattle.std.specs.List.{All}
use Rattle.std.proofs.lemmas.List.Elements.{All-take}
use Rattle.replay_cases.proofs.Runs.{Is, after_part, after_run}
use Rattle.replay_cases.proofs.all_are.Goals as goal

pub returns-then-not-each_is : goal.returns-then-not-each_is
returns-then-not-each_is g c =
    let P = Is g.T.PartialEq.eq c.args.value in
    let part = c.in-Some.ensures.cases.1 in (
      λ no. search (no, rules),
      λ all. subst IsTrue c.if-not-each_is.true (c.each_is-2.ensures.1 (subst (All P) (sym part) (All-take P 256 c.args.slice.now all))),
    )

pub loop-after-init : goal.loop-after-init
loop-after-init g c =
    let parts = c.in-Some.ensures.cases in
    after_part g.T.PartialEq.eq c.args.value 256 c.args.slice.now parts.1 parts.2 (c.each_is-2.ensures.0 (search rules))

pub loop-after-preserved : goal.loop-after-preserved
loop-after-preserved g c =
    let passed = c.in-Some-strip_prefix.ensures.cases in
    let invariant = c.loop-after.invariant in
    let on = after_run g.T.PartialEq.eq c.args.value g.met.T.PartialEq.laws _ c.loop-after.left.now c.in-Some.run'.now passed.0 passed.1 (c.each_is-2.ensures.0 (search rules)) in
    (λ all. on.0 (invariant.0 all), λ left. invariant.1 (on.1 left))

pub returns : goal.returns
returns g c =
    let invariant = c.loop-after.invariant in
    (λ yes. invariant.1 (c.each_is-3.ensures.0 yes), λ all. c.each_is-3.ensures.1 (invariant.0 all))
