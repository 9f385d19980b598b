use Rattle.std.proofs.Common.{◌≡◌, length}
use Rattle.chart.specs.Charts.{layout}
use Rattle.planner.specs.Plans.{at_step, entailed, releases_after}
use Rattle.planner.proofs.list.list_releases.Given as goal

-- the releases of the nodes before i are written
abbrev pub invariant-loop-i : goal.invariant-loop-i
invariant-loop-i l =
    (l.at ≡ length (entailed (layout l.query.chart.now) l.query.nodes.now (at_step l.plan) l.i))
    × (l.out ≡ releases_after (entailed (layout l.query.chart.now) l.query.nodes.now (at_step l.plan) l.i) l.initial.out)
