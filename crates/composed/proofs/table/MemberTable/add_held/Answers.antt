use Rattle.std.proofs.Common.{ap, ◌∙◌}
use Rattle.members.specs.Members.{with_new}
use Rattle.policy.specs.Reading.{granted}
use Rattle.books.specs.Slots.{held}
use Rattle.composed.specs.Table.{listed}
use Rattle.composed.proofs.Turns.{slot_took, slot_over, slot_passed, slots_done, too_many}
use Rattle.composed.proofs.table.MemberTable.add_held.Goals as goal
use Rattle.composed.proofs.table.MemberTable.add_held.Goals.{in-Some+in_ok-add, in_default}

pub returns-in_err-add : goal.returns-in_err-add
returns-in_err-add c =
    let slots = c.args.slots.now in
    let all = with_new (listed c.args.self.now) (granted (held slots)) in
    too_many c.add.new.self all c.from_residual.ensures
    (slot_over slots c.loop-slot.slot-index c.slot-item.result c.loop-slot-test.true c.slot-item.is (listed c.loop-slot.self) all c.loop-slot.invariant c.in-Some.rule c.in-Some.is c.in_err-add.ensures)

pub loop-slot-preserved : goal.loop-slot-preserved
loop-slot-preserved c =
    let slots = c.args.slots.now in
    let i = c.loop-slot.slot-index in
    let xs = listed c.loop-slot.self in
    let next = listed c.match-slot.self in
    let all = with_new (listed c.args.self.now) (granted (held slots)) in
    elim c.match-slot.branch [
      | in-Some+in_ok-add w ↦ slot_took slots i c.slot-item.result c.loop-slot-test.true c.slot-item.is xs all c.loop-slot.invariant w.in-Some.rule w.in-Some.is next (ap listed w.self-is ∙ w.in_ok-add.ensures)
      | in_default w ↦ slot_passed slots i c.slot-item.result c.loop-slot-test.true c.slot-item.is xs all c.loop-slot.invariant w.in_default.is next (ap listed w.self-is)
    ]

pub returns : goal.returns
returns c = slots_done c.args.slots.now c.loop-slot.slot-index c.loop-slot-test.false (listed c.loop-slot.self) (with_new (listed c.args.self.now) (granted (held c.args.slots.now))) c.loop-slot.invariant
