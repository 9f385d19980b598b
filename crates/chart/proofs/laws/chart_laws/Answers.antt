use Rattle.chart.proofs.Meaning.{laws_hold}
use Rattle.chart.proofs.laws.chart_laws.Goals as goal

pub returns : goal.returns
returns c = laws_hold
