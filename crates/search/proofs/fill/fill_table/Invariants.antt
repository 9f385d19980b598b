use Rattle.std.proofs.Common.{◌≡◌}
use Rattle.chart.specs.Charts.{layout}
use Rattle.search.specs.Rows.{Filled}
use Rattle.search.proofs.fill.fill_table.Given as goal

-- the rows of the nodes before i are filled
abbrev pub invariant-loop-i : goal.invariant-loop-i
invariant-loop-i g l =
    Filled (g.T.Tariff.pricing l.tariff) (g.P.Policy.reading l.policy (g.P.Policy.rules l.policy)) (layout (g.P.Policy.charted l.policy)) l.query.nodes.now l.i l.initial.table.places.now l.table.places.now
    × (l.table.servers ≡ l.initial.table.servers) × (l.table.places.ghost_name ≡ l.initial.table.places.ghost_name)
