use Rattle.std.proofs.Common.{◌≡◌, sym, ap, ◌∙◌, ap₂, arith}
use Rattle.assignments.specs.Cheapest.{better, cheapest}
use Rattle.assignments.proofs.Cheapest.{cheapest_none, cheapest_more}
use Rattle.search.proofs.cheapest.cheapest.Goals as goal

pub loop-i-init : goal.loop-i-init
loop-i-init g c = λ f h. sym (cheapest_none _ _ _)

pub loop-i-preserved : goal.loop-i-preserved
loop-i-preserved g c = λ f h.
    let leq = (g.T.Tariff.pricing c.args.tariff.now).leq in
    c.better-best.ensures ∙ ap₂ (better leq g.X.Priced.priced) (c.loop-i.invariant f h) (h c.loop-i.i _ c.loop-i-test.true c.offer.ensures)
    ∙ sym (cheapest_more leq g.X.Priced.priced f c.loop-i.i)

pub returns : goal.returns
returns g c = λ f h.
    let leq = (g.T.Tariff.pricing c.args.tariff.now).leq in
    let z : c.loop-i.i ≡ c.args.count = omega arith in
    c.loop-i.invariant f h ∙ ap (cheapest {X = g.row.X.Denot} leq g.X.Priced.priced f) z
