use Rattle.std.proofs.Common.{◌≡◌, true, subst}
use Rattle.std.specs.List.{list_all}
use Rattle.chart.specs.declared.state.Chart.{Chart}
use Rattle.chart.specs.Charts.{layout}
use Rattle.rules.specs.Rules.{well_formed}
use Rattle.broker.proofs.Calls.{withdrawing}
use Rattle.broker.proofs.broker.withdraw_from.Goals as goal

pub returns : goal.returns
returns g c =
    let b = c.args.book.now in
    let b' = c.withdraw.new.self in
    let e = c.withdraw.ensures in
    let formed = subst (λ (k : Chart). list_all (well_formed (layout k)) (g.B.Policy.rules b') ≡ true) e.chart (g.B.Policy.lawful b').formed in
    record {
      withdraws = withdrawing (layout (g.B.Policy.charted b)) (g.B.Book.fits b) (g.B.Policy.rules b) (g.B.Policy.rules b') (g.B.Policy.lawful b).distinct formed c.args.number c.withdraw.result e.answer e.after;
      chart = e.chart;
      reads = e.reads;
      fitting = e.fitting;
    }
