use Rattle.std.proofs.Common.{ap, ◌∙◌}
use Rattle.sets.specs.Sets.{disjoint}
use Rattle.chart.specs.Charts.{layout}
use Rattle.rules.specs.Relations.{touched}
use Rattle.members.specs.Compose.{share_none}
use Rattle.composed.proofs.pairs.are_apart.Goals as goal

pub returns : goal.returns
unfolding share_none
returns c =
    let l = layout c.args.chart.now in
    let b = c.args.b in
    c.is_disjoint.ensures
    ∙ ap (λ s. disjoint s c.relations-2.result) c.relations.ensures
    ∙ ap (disjoint (touched l c.args.a.attributes c.args.a.path)) c.relations-2.ensures
