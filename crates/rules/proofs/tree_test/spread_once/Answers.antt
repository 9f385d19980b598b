use Rattle.std.proofs.Common.{ℕ, cond, rules, ap, ◌∙◌}
use Rattle.sets.specs.Sets.{none, union, disjoint}
use Rattle.chart.specs.Charts.{layout}
use Rattle.rules.specs.Relations.{gather, link_relations}
use Rattle.rules.proofs.Gather.{gathered}
use Rattle.rules.proofs.tree_test.spread_once.Goals as goal

pub returns : goal.returns
returns c =
    let relations = link_relations (layout c.args.chart.now) in
    let f = λ (k : ℕ). cond (disjoint (relations k) c.args.from) none (relations k) in
    gathered _ f _ _ _ _ c.fold.ensures.ran (λ found link more state called. search rules)
    ∙ ap (λ xs. union c.args.from (gather f xs)) c.elements.ensures
