use Rattle.std.proofs.Common.{◌≡◌, length, refl, arith}
use Rattle.chart.specs.Charts.{layout}
use Rattle.queries.proofs.Accepted.{checked_sound, checked_profiles}
use Rattle.planner.specs.Plans.{at_step}
use Rattle.planner.proofs.Room.{listed_none, listed_more, room, releases_below}
use Rattle.planner.proofs.list.list_releases.Goals as goal

pub loop-i-init : goal.loop-i-init
loop-i-init c = listed_none (layout c.args.query.now.chart.now) c.args.query.now.nodes.now (at_step c.args.plan.now) c.args.out.now

pub list_node-at-requires : goal.list_node-at-requires
list_node-at-requires c =
    let sound = checked_sound c.args.query.now c.args.query.now.chart.now refl in
    let space = room (layout c.args.query.now.chart.now) c.args.query.now.nodes.now (checked_sound c.args.query.now c.args.query.now.chart.now refl) (at_step c.args.plan.now) c.loop-i.i (omega arith) in
    record {
      sound = sound;
      profiles = checked_profiles c.args.query.now c.args.query.now.chart.now refl;
      sizes = (omega arith, omega arith, omega (arith, space, c.loop-i.invariant.0, sound.few));
      room = omega (arith, space, c.loop-i.invariant.0);
    }

pub loop-i-preserved : goal.loop-i-preserved
loop-i-preserved c =
    listed_more (layout c.args.query.now.chart.now) c.args.query.now.nodes.now (at_step c.args.plan.now) (checked_sound c.args.query.now c.args.query.now.chart.now refl) c.loop-i.i c.loop-i.at c.list_node-at.result c.args.out.now c.loop-i.out c.list_node-at.new.out
    (omega arith) (omega arith) c.loop-i.invariant c.list_node-at.ensures.next c.list_node-at.ensures.wrote

pub returns : goal.returns
returns c =
    let z : c.loop-i.i ≡ length c.args.query.now.nodes.now = omega arith in
    let inv = rw z at c.loop-i.invariant in
    record {
      count = inv.0;
      wrote = inv.1;
      few = omega (arith, inv.0, releases_below (layout c.args.query.now.chart.now) c.args.query.now.nodes.now (checked_sound c.args.query.now c.args.query.now.chart.now refl) (at_step c.args.plan.now));
    }
