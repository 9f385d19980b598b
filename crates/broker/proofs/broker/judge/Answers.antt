use Rattle.broker.proofs.Calls.{judging}
use Rattle.broker.proofs.broker.judge.Goals as goal

pub returns : goal.returns
returns g c =
    let b = c.args.book.now in
    let e = c.plan_query.ensures in
    judging (g.B.Policy.charted b) (g.B.Book.fits b) (g.B.Policy.rules b) (g.B.Policy.reading b) (g.B.Policy.lawful b) (g.T.Tariff.pricing c.args.tariff.now) c.args.nodes.now c.args.work.now _ c.args.plan.now _ c.args.releases.now _ c.plan_query.result
    (record { answers = e.answer; table = e.work; steps = e.plan; list = e.releases }) e.judged
