use Rattle.std.proofs.Common.{sym, ap, ◌∙◌}
use Rattle.chart.specs.Charts.{layout}
use Rattle.members.specs.Compose.{compositions}
use Rattle.members.specs.Members.{with_new}
use Rattle.members.proofs.Turns.{link_took, link_passed, link_over, link_done, all_links, pair_never, new_none}
use Rattle.composed.specs.Table.{listed}
use Rattle.composed.proofs.Turns.{too_many}
use Rattle.composed.proofs.table.MemberTable.add_pair.Goals as goal
use Rattle.composed.proofs.table.MemberTable.add_pair.Goals.{then-is_bridged+in_ok-add, else-is_bridged}

pub returns-then-not-may_compose : goal.returns-then-not-may_compose
returns-then-not-may_compose c =
    pair_never (layout c.args.chart.now) c.args.a c.args.b (listed c.args.self.now) c.if-not-may_compose.ensures

pub loop-link-init : goal.loop-link-init
loop-link-init c = ap (with_new (listed c.args.self.now)) (all_links c.args.chart.now c.args.a c.args.b)

pub returns-in_err-add : goal.returns-in_err-add
returns-in_err-add c =
    let l = layout c.args.chart.now in
    let all = with_new (listed c.args.self.now) (compositions l c.args.a c.args.b) in
    too_many c.add.new.self all c.from_residual.ensures
    (link_over l c.args.a c.args.b c.loop-link.link c.loop-link-test.true c.if-not-may_compose.ensures (listed c.loop-link.self) all c.loop-link.invariant
    c.if-is_bridged.ensures c.compose.result c.compose.ensures c.in_err-add.ensures)

pub loop-link-preserved : goal.loop-link-preserved
loop-link-preserved c =
    let l = layout c.args.chart.now in
    let a = c.args.a in
    let b = c.args.b in
    let xs = listed c.loop-link.self in
    let next = listed c.if-is_bridged.self in
    let all = with_new (listed c.args.self.now) (compositions l a b) in
    elim c.if-is_bridged.branch [
      | then-is_bridged+in_ok-add w ↦
          link_took l a b c.loop-link.link c.loop-link-test.true c.if-not-may_compose.ensures xs all c.loop-link.invariant
          w.if-is_bridged.ensures w.compose.result w.compose.ensures next (ap listed w.self-is ∙ w.in_ok-add.ensures)
      | else-is_bridged w ↦
          link_passed l a b c.loop-link.link c.loop-link-test.true c.if-not-may_compose.ensures xs all c.loop-link.invariant w.if-is_bridged.ensures next (ap listed w.self-is)
    ]

pub returns : goal.returns
returns c =
    let xs = listed c.loop-link.self in
    sym (ap (with_new xs) (link_done (layout c.args.chart.now) c.args.a c.args.b c.loop-link.link c.loop-link-test.false) ∙ new_none xs) ∙ c.loop-link.invariant
