use Rattle.std.proofs.Common.{◌≡◌, drop}
use Rattle.members.specs.Members.{with_new}
use Rattle.policy.specs.Reading.{granted}
use Rattle.books.specs.Slots.{held}
use Rattle.composed.specs.Table.{listed}
use Rattle.composed.proofs.table.MemberTable.add_held.Given as goal

-- what is in the table, with the views of the slots still to come
abbrev pub invariant-loop-slot : goal.invariant-loop-slot
invariant-loop-slot l = with_new (listed l.self) (granted (held (drop l.slot-index l.slots))) ≡ with_new (listed l.initial.self) (granted (held l.slots))
