use Rattle.std.proofs.Common.{◌≡◌}
use Rattle.chart.specs.Charts.{layout}
use Rattle.members.specs.Compose.{compositions}
use Rattle.members.specs.Members.{with_new}
use Rattle.members.proofs.Turns.{from_link}
use Rattle.composed.specs.Table.{listed}
use Rattle.composed.proofs.table.MemberTable.add_pair.Given as goal

-- what is in the table, with the compositions over links still to come
abbrev pub invariant-loop-link : goal.invariant-loop-link
invariant-loop-link l = with_new (listed l.self) (from_link (layout l.chart) l.a l.b l.link) ≡ with_new (listed l.initial.self) (compositions (layout l.chart) l.a l.b)
