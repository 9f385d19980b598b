use Rattle.chart.specs.Charts.{layout}
use Rattle.planner.proofs.Listed.{release_laws}
use Rattle.planner.proofs.laws.release_laws.Goals as goal

pub returns : goal.returns
returns c = release_laws (layout c.args.chart.now)
