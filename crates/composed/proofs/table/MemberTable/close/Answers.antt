use Rattle.std.proofs.Common.{◌≡◌, ◌+◌, ◌<◌, List, None, Option, length, get_or, take, sym, ap, subst, arith, MatchOption}
use Rattle.std.specs.List.{flat_map}
use Rattle.std.proofs.lemmas.List.{length-take-le}
use Rattle.chart.specs.Charts.{layout}
use Rattle.rules.specs.declared.view.View.{View}
use Rattle.members.specs.Compose.{compositions}
use Rattle.members.specs.Members.{with_new, members}
use Rattle.members.specs.Table.{no_view, Growing, Holds}
use Rattle.members.proofs.Views.{new_longer}
use Rattle.members.proofs.Growing.{growing_more, growing_le, growing_end}
use Rattle.members.proofs.Turns.{row_same, row_is}
use Rattle.composed.specs.Table.{listed}
use Rattle.composed.proofs.table.MemberTable.close.Goals as goal

pub loop-i-init : goal.loop-i-init
loop-i-init c = (omega arith, λ given g. g)

pub returns-in_err-add_row : goal.returns-in_err-add_row
returns-in_err-add_row c given start =
    let chart = c.args.chart.now in
    let t = c.loop-i.self in
    let i = c.loop-i.i in
    let xs = listed t in
    let row = flat_map (compositions (layout chart) (get_or xs i no_view)) (take i xs) in
    let below : i < length xs = omega (arith, length-take-le t.count t.places (omega (arith, t.sized, t.counted)), c.loop-i-test.true) in
    let more = growing_more chart given xs i no_view below (c.loop-i.invariant.1 given start) in
    let over : 256 < length (members (layout chart) given) = omega (
      arith,
      growing_le chart given (with_new xs row) (i + 1) more,
      ap length (row_same (compositions (layout chart)) t.places t.count i no_view c.loop-i-test.true),
      c.in_err-add_row.ensures,
    ) in
    let none : c.from_residual.result ≡ None = c.from_residual.ensures in
    subst (λ (o : Option (Unit {0})). MatchOption o (256 < length (members (layout chart) given)) (λ u. Holds (layout chart) given c.add_row.new.self.places c.add_row.new.self.count)) (sym none) over

pub loop-i-preserved : goal.loop-i-preserved
loop-i-preserved c =
    let chart = c.args.chart.now in
    let t = c.loop-i.self in
    let next = c.add_row.new.self in
    let i = c.loop-i.i in
    let xs = listed t in
    let row = flat_map (compositions (layout chart) (get_or xs i no_view)) (take i xs) in
    let e : listed next ≡ with_new xs row = row_is (compositions (layout chart)) t.places t.count i no_view c.loop-i-test.true (listed next) c.in_ok-add_row.ensures in
    let all = length-take-le t.count t.places (omega (arith, t.sized, t.counted)) in
    let below : i < length xs = omega (arith, all, c.loop-i-test.true) in (
      omega (arith, ap length e, length-take-le next.count next.places (omega (arith, next.sized, next.counted)), new_longer xs row, below),
      λ given start. subst (λ (ys : List View). Growing (layout chart) given ys (i + 1)) (sym e) (growing_more chart given xs i no_view below (c.loop-i.invariant.1 given start)),
    )

pub returns : goal.returns
returns c given start =
    let t = c.loop-i.self in
    growing_end c.args.chart.now given t.places t.count c.loop-i.i t.counted (omega (arith, t.sized)) c.loop-i-test.false (c.loop-i.invariant.1 given start)
