use Rattle.std.proofs.Common.{get_or, take, sym, arith}
use Rattle.std.specs.List.{flat_map}
use Rattle.chart.specs.Charts.{layout}
use Rattle.members.specs.Compose.{compositions}
use Rattle.members.specs.Members.{with_new}
use Rattle.members.specs.Table.{no_view}
use Rattle.members.proofs.Turns.{new_none, row_more, row_over}
use Rattle.composed.specs.Table.{listed}
use Rattle.composed.proofs.Turns.{too_many}
use Rattle.composed.proofs.table.MemberTable.add_row.Goals as goal

pub loop-j-init : goal.loop-j-init
loop-j-init c = sym (new_none (listed c.args.self.now))

pub returns-in_err-add_pair : goal.returns-in_err-add_pair
returns-in_err-add_pair c =
    let t = c.args.self.now in
    let u = c.loop-j.self in
    let with = compositions (layout c.args.chart.now) (get_or t.places c.args.i no_view) in
    too_many c.add_pair.new.self (with_new (listed t) (flat_map with (take c.args.i t.places))) c.from_residual.ensures
    (row_over with t.places u.places t.count u.count c.args.i c.loop-j.j no_view (omega (arith, t.sized, t.counted)) (omega (arith, u.sized, u.counted)) (omega (arith, c.requires))
    c.loop-j-test.true c.loop-j.invariant c.in_err-add_pair.ensures)

pub loop-j-preserved : goal.loop-j-preserved
loop-j-preserved c =
    let t = c.args.self.now in
    let u = c.loop-j.self in
    row_more (compositions (layout c.args.chart.now) (get_or t.places c.args.i no_view)) t.places u.places t.count u.count c.args.i c.loop-j.j no_view
    (omega (arith, t.sized, t.counted)) (omega (arith, u.sized, u.counted)) (omega (arith, c.requires))
    c.loop-j-test.true c.loop-j.invariant (listed c.add_pair.new.self) c.in_ok-add_pair.ensures
