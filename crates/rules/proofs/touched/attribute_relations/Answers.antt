use Rattle.std.proofs.Common.{ℕ, rules, ap, ◌∙◌}
use Rattle.chart.specs.Layout.{relation_of}
use Rattle.chart.specs.Charts.{layout}
use Rattle.rules.specs.Relations.{gather, set_of}
use Rattle.rules.proofs.Gather.{gathered, gathered_all}
use Rattle.rules.proofs.touched.attribute_relations.Goals as goal

pub returns : goal.returns
returns c =
    let f = λ (a : ℕ). set_of (relation_of (layout c.args.chart.now) a) in
    gathered_all f _ _ _ (gathered _ f _ _ _ _ c.fold.ensures.ran (λ found a more state called. search rules)) c.empty.ensures
    ∙ ap (gather f) c.elements.ensures
