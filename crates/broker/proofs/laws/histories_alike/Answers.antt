use Rattle.broker.proofs.Calls.{alike}
use Rattle.broker.proofs.laws.histories_alike.Goals as goal

pub returns : goal.returns
returns g c =
    let b = c.args.one.now.book in
    let b' = c.args.other.now.book in
    alike (g.B.Policy.charted b) (g.B.Policy.charted b') (g.B.Book.fits b) (g.B.Book.fits b') (g.B.Policy.reading b) (g.B.Policy.reading b') (g.B.Policy.rules b) (g.B.Policy.rules b') (g.T.Tariff.pricing c.args.tariff.now) (g.B.Policy.lawful b) (g.B.Policy.lawful b')
