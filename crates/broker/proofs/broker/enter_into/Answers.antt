use Rattle.std.proofs.Common.{◌≡◌, true, subst}
use Rattle.std.specs.List.{list_all}
use Rattle.chart.specs.declared.state.Chart.{Chart}
use Rattle.chart.specs.Charts.{layout}
use Rattle.rules.specs.Rules.{well_formed}
use Rattle.broker.proofs.Calls.{enters}
use Rattle.broker.proofs.broker.enter_into.Goals as goal

pub returns : goal.returns
returns g c =
    let b = c.args.book.now in
    let b' = c.enter.new.self in
    let e = c.enter.ensures in
    let formed = subst (λ (k : Chart). list_all (well_formed (layout k)) (g.B.Policy.rules b') ≡ true) e.chart (g.B.Policy.lawful b').formed in
    record {
      enters = enters (layout (g.B.Policy.charted b)) (g.B.Book.fits b) (g.B.Policy.rules b) (g.B.Policy.rules b') (g.B.Policy.lawful b).distinct (g.met.B.Book.alike b) formed c.args.given c.enter.result e.answer e.after;
      chart = e.chart;
      reads = e.reads;
      fitting = e.fitting;
    }
