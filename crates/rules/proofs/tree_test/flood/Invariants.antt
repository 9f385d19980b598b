use Rattle.std.proofs.Common.{◌≡◌, ◌-◌}
use Rattle.chart.specs.Charts.{layout}
use Rattle.rules.specs.Trees.{rounds}
use Rattle.rules.proofs.tree_test.flood.Given as goal

-- the rounds still to come lead to the same
abbrev pub invariant-loop-round : goal.invariant-loop-round
invariant-loop-round l = rounds (layout l.chart) l.path 64 l.initial.reached ≡ rounds (layout l.chart) l.path (64 - l._round) l.reached
