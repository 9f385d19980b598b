use Rattle.std.proofs.Common.{arith}
use Rattle.assignments.proofs.Options.{left_below, right_below}
use Rattle.search.specs.Rows.{place_at}
use Rattle.search.proofs.Offers.{both_there}
use Rattle.search.proofs.options.offer.Goals as goal

pub returns : goal.returns
returns g c = λ may j h.
    let n = c.args.table.now.servers in
    let places = c.args.table.now.places.now in
    let m = c.args.mode in
    let s = c.args.master in
    let u = c.args.other in
    both_there (g.T.Tariff.pricing c.args.tariff.now) may n j (place_at places n c.args.operands.left) (place_at places n c.args.operands.right) s m u
    _ _ _ _ c.in_ok-left.left c.in_ok-right.right _
    c.left_at.ensures c.at.ensures c.in_ok-left.was c.right_at.ensures c.at-2.ensures c.in_ok-right.was
    (c.weigh.ensures may n j h (left_below n m s u (omega arith) (omega arith)) (right_below n m s u (omega arith) (omega arith)))
