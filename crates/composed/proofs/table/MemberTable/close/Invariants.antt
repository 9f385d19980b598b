use Rattle.std.proofs.Common.{◌-◌, ◌≤◌, List}
use Rattle.chart.specs.Charts.{layout}
use Rattle.rules.specs.declared.view.View.{View}
use Rattle.members.specs.Table.{Growing}
use Rattle.composed.specs.Table.{listed}
use Rattle.composed.proofs.table.MemberTable.close.Given as goal

-- the first i views have been composed with one another
abbrev pub invariant-loop-i : goal.invariant-loop-i
invariant-loop-i l =
    (l.i ≤ l.self.count)
    × ((given : List View) → Growing (layout l.chart) given (listed l.initial.self) 0 → Growing (layout l.chart) given (listed l.self) l.i)

abbrev pub decreases-loop-i : goal.decreases-loop-i
decreases-loop-i l = 256 - l.i
