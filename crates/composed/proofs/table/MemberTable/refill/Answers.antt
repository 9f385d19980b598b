use Rattle.std.proofs.Common.{◌≡◌, ◌<◌, List, [], length, sym, ap, ◌∙◌, subst, arith}
use Rattle.chart.specs.declared.state.Chart.{Chart}
use Rattle.chart.specs.Charts.{layout}
use Rattle.rules.specs.declared.view.View.{View}
use Rattle.members.specs.Members.{with_new, members}
use Rattle.members.specs.Table.{Growing}
use Rattle.members.proofs.Growing.{growing_start, growing_le}
use Rattle.policy.specs.Reading.{granted}
use Rattle.books.specs.Slots.{held}
use Rattle.composed.specs.Table.{listed, Gathers}
use Rattle.composed.proofs.table.MemberTable.refill.Goals as goal

pub returns-in_err-add_held : goal.returns-in_err-add_held
returns-in_err-add_held c =
    let book = c.args.book.now in
    let l = layout book.chart in
    let G = granted (held book.slots) in
    let e : with_new [] (granted (held c.slots.result.now)) ≡ with_new [] G = ap (λ ss. with_new [] (granted (held ss))) c.slots.ensures in
    let over : 256 < length (members l G) = omega (arith, growing_le book.chart G (with_new [] G) 0 (growing_start l G), ap length e, c.in_err-add_held.ensures) in
    subst (λ r. Gathers l G r c.add_held.new.self) (sym c.from_residual.ensures) over

pub returns : goal.returns
returns c =
    let book = c.args.book.now in
    let G = granted (held book.slots) in
    let same : c.chart.result.now ≡ book.chart = c.chart.ensures in
    let e : listed c.add_held.new.self ≡ with_new [] G = c.in_ok-add_held.ensures ∙ ap (λ ss. with_new [] (granted (held ss))) c.slots.ensures in
    let start : Growing (layout c.chart.result.now) G (listed c.add_held.new.self) 0 =
    subst (λ (xs : List View). Growing (layout c.chart.result.now) G xs 0) (sym e) (growing_start (layout c.chart.result.now) G) in
    subst (λ (x : Chart). Gathers (layout x) G c.close.result c.close.new.self) same (c.close.ensures G start)
