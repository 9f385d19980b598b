use Rattle.chart.specs.Charts.{layout}
use Rattle.chart.proofs.Sound.{chart_sound}
use Rattle.assignments.proofs.Theorem.{table_stands}
use Rattle.assignments.proofs.laws.table_laws.Goals as goal

pub returns : goal.returns
returns g c =
    let t = c.args.tariff.now in
    λ may. table_stands (layout c.args.chart.now) (g.T.Tariff.pricing t) may (g.met.T.Tariff.lawful t) (chart_sound c.args.chart.now)
