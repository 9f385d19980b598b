use Rattle.std.proofs.Common.{◌≡◌, take}
use Rattle.std.specs.List.{flat_map}
use Rattle.chart.specs.Charts.{layout}
use Rattle.members.specs.Compose.{compositions}
use Rattle.members.specs.Members.{with_new}
use Rattle.composed.specs.Table.{listed}
use Rattle.composed.proofs.table.MemberTable.add_row.Given as goal

-- the views before place j are done
abbrev pub invariant-loop-j : goal.invariant-loop-j
invariant-loop-j l = listed l.self ≡ with_new (listed l.initial.self) (flat_map (compositions (layout l.chart) l.a) (take l.j l.initial.self.places))
