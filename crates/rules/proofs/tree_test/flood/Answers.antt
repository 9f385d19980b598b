use Rattle.std.proofs.Common.{◌+◌, ◌-◌, sym, ap, ◌∙◌}
use Rattle.sets.proofs.Sets.{same_is}
use Rattle.chart.specs.Charts.{layout}
use Rattle.rules.specs.Trees.{rounds}
use Rattle.rules.proofs.Rounds.{rounds_step, rounds_none, rounds_fixed}
use Rattle.rules.proofs.tree_test.flood.Goals as goal

pub returns-then-eq : goal.returns-then-eq
returns-then-eq c =
    let l = layout c.args.chart.now in
    let reached = c.loop-round.reached in
    let fixed = sym c.spread_once-next.ensures ∙ same_is c.spread_once-next.result reached (sym c.eq.ensures ∙ c.if-eq.true) in
    sym (c.loop-round.invariant ∙ rounds_fixed l c.args.path (64 - c.loop-round._round) reached fixed)

pub loop-round-preserved : goal.loop-round-preserved
loop-round-preserved c =
    let l = layout c.args.chart.now in
    let i = c.loop-round._round in
    c.loop-round.invariant ∙ rounds_step l c.args.path 64 i c.loop-round.reached c.loop-round-test.true
    ∙ ap (rounds l c.args.path (64 - (i + 1))) (sym c.spread_once-next.ensures)

pub returns : goal.returns
returns c = sym (c.loop-round.invariant ∙ rounds_none (layout c.args.chart.now) c.args.path 64 c.loop-round._round c.loop-round.reached c.loop-round-test.false)
