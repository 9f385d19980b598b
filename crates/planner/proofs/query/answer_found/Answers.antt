use Rattle.std.proofs.Common.{Ok, sym, ap, ◌∙◌, subst}
use Rattle.chart.specs.Charts.{layout}
use Rattle.search.specs.Outcomes.{Outcome}
use Rattle.planner.specs.Queries.{AnsweredBy}
use Rattle.planner.proofs.Verdicts.{seat_place}
use Rattle.planner.proofs.query.answer_found.Goals as goal

pub returns-clause-wrote : goal.returns-clause-wrote
returns-clause-wrote g c = λ d may old filled found.
    let l = layout c.args.query.now.chart.now in
    let nodes = c.args.query.now.nodes.now in
    let q = c.in_ok-seat.seat in
    let held = seat_place d may l nodes q (sym found ∙ c.in_ok-seat.was) in
    let w = c.write_out.ensures.wrote d may old held.0 filled held.1 held.2 in
    subst (λ (o : Outcome g.row.P.Denot). AnsweredBy d may l nodes o c.args.plan.now c.write_out.new.plan c.args.releases.now c.write_out.new.releases (Ok c.write_out.result))
    (sym c.in_ok-seat.was)
    (record { answer = ap Ok w.answer; plan = w.plan; releases = w.releases })
