use Rattle.std.proofs.Common.{rules, ap, ◌∙◌}
use Rattle.chart.specs.Charts.{layout}
use Rattle.rules.specs.Relations.{gather, link_relations}
use Rattle.rules.proofs.Gather.{gathered, gathered_all}
use Rattle.rules.proofs.touched.path_relations.Goals as goal

pub returns : goal.returns
returns c =
    let f = link_relations (layout c.args.chart.now) in
    gathered_all f _ _ _ (gathered _ f _ _ _ _ c.fold.ensures.ran (λ found link more state called. search rules)) c.empty.ensures
    ∙ ap (gather f) c.elements.ensures
