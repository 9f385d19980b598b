use Rattle.std.proofs.Common.{ℕ, List, length, refl, ap, ◌∙◌, rules}
use Rattle.chart.specs.Charts.{layout}
use Rattle.chart.proofs.Sound.{chart_sound}
use Rattle.assignments.specs.declared.parts.Release.{Release}
use Rattle.queries.proofs.Accepted.{checked_sound}
use Rattle.planner.specs.Plans.{releases_after}
use Rattle.planner.specs.Queries.{assigned}
use Rattle.planner.proofs.Buffers.{released_is}
use Rattle.planner.proofs.query.write_out.Goals as goal

pub write_plan-requires : goal.write_plan-requires
write_plan-requires g c =
    let sound = checked_sound c.args.query.now c.args.query.now.chart.now refl in
    record { sizes = (sound.some, c.requires.sizes.0, sound.few); earlier = sound.earlier }

pub returns : goal.returns
returns g c = record {
  work = search rules;
  wrote = λ d may old p filled held below.
      let l = layout c.args.query.now.chart.now in
      let nodes = c.args.query.now.nodes.now in
      let seat = c.args.seat in
      let sound = checked_sound c.args.query.now c.args.query.now.chart.now refl in
      let wrote = c.write_plan.ensures l d may old p (chart_sound c.args.query.now.chart.now) sound c.servers-servers.ensures filled held below in
      let same = released_is l nodes (assigned d may l nodes seat.server) c.args.plan.now c.write_plan.new.plan sound.earlier c.requires.sizes.0 wrote in
      record {
        answer = ap (λ (k : ℕ). record { executor = seat.server; price = seat.price; releases = k }) (c.list_releases-count.ensures.count ∙ ap length same);
        plan = wrote;
        releases = c.list_releases-count.ensures.wrote ∙ ap (λ (rs : List Release). releases_after rs c.args.releases.now) same;
      };
}
