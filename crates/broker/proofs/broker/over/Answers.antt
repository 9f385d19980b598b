use Rattle.std.proofs.Common.{refl}
use Rattle.chart.specs.Charts.{layout}
use Rattle.broker.proofs.Calls.{opened}
use Rattle.broker.proofs.broker.over.Goals as goal

pub returns : goal.returns
returns g c = record { book = refl; reached = opened (layout (g.B.Policy.charted c.args.book)) (g.B.Book.fits c.args.book) (g.B.Policy.rules c.args.book) }
