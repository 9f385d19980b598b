use Rattle.std.proofs.Common.{◌-◌, sym, ◌∙◌, arith, length-set}
use Rattle.planner.proofs.Written.{Meant, written_none, turn_never, turn, written_all}
use Rattle.planner.proofs.write.write_plan.Goals as goal

pub loop-i-init : goal.loop-i-init
loop-i-init g c =
    λ y d may old p m. written_none c.args.nodes.now c.args.table.now.places.now c.args.table.now.servers c.args.executor y d may old p m c.args.plan.now (omega arith)

pub lead-requires : goal.lead-requires
lead-requires g c = let long = simp length-set at c.loop-i.auto.plan in (c.requires.earlier (c.loop-i.i - 1) (omega arith), omega arith)

pub loop-i-preserved : goal.loop-i-preserved
loop-i-preserved g c =
    let long = simp length-set at c.loop-i.auto.plan in
    λ y d may old p m. turn c.args.nodes.now c.args.table.now.places.now c.args.table.now.servers c.args.executor y d may old p m _ c.loop-i.plan (omega arith) c.loop-i.i (omega arith) (omega arith)
    (c.loop-i.invariant y d may old p m) c.in-Some.place c.lead.new.plan (sym c.in-Some.is ∙ c.at.ensures) c.lead.ensures

pub returns-in_default : goal.returns-in_default
returns-in_default g c =
    let long = simp length-set at c.loop-i.auto.plan in
    λ y d may old p charted sound servers filled held below.
    let m : Meant c.args.nodes.now c.args.table.now.places.now c.args.table.now.servers c.args.executor y d may old p
    = record { charted = charted; sound = sound; servers = servers; filled = filled; held = held; below = below } in
    turn_never c.args.nodes.now c.args.table.now.places.now c.args.table.now.servers c.args.executor y d may old p m _ c.loop-i.plan (omega arith) c.loop-i.i (omega arith) (omega arith)
    (c.loop-i.invariant y d may old p m) c.args.plan.now c.at.result c.in_default.is c.at.ensures

pub returns : goal.returns
returns g c =
    let long = simp length-set at c.loop-i.auto.plan in
    λ y d may old p charted sound servers filled held below.
    let m : Meant c.args.nodes.now c.args.table.now.places.now c.args.table.now.servers c.args.executor y d may old p
    = record { charted = charted; sound = sound; servers = servers; filled = filled; held = held; below = below } in
    written_all c.args.nodes.now c.args.table.now.places.now c.args.table.now.servers c.args.executor y d may old p m c.args.plan.now c.loop-i.plan (omega arith) (omega arith) c.loop-i.i (omega arith)
    (c.loop-i.invariant y d may old p m)
