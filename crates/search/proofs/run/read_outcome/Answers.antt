use Rattle.search.specs.Rows.{place_at}
use Rattle.search.proofs.Outcomes.{one_blocks}
use Rattle.search.proofs.run.read_outcome.Goals as goal

pub unwrap-requires : goal.unwrap-requires
unwrap-requires g c =
    let n = c.args.table.now.servers in
    one_blocks (g.T.Tariff.pricing c.args.tariff.now) (g.met.T.Tariff.lawful c.args.tariff.now) n c.args.count (place_at c.args.table.now.places.now n) c.choose.result c.requires c.choose.ensures c.in-None.is
    c.lowest_empty.result c.lowest_empty.ensures
