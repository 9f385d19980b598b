use Rattle.std.proofs.Common.{◌+◌, rules, ap, ◌∙◌, zero-add, arith}
use Rattle.sets.specs.Elements.{rest}
use Rattle.sets.proofs.Folds.{elements_folded}
use Rattle.chart.specs.Charts.{layout}
use Rattle.chart.specs.Lookup.{width_of}
use Rattle.tariff.specs.Bytes.{capped, widths}
use Rattle.tariff.proofs.Weighed.{weighed}
use Rattle.tariff.proofs.bytes.weigh.Goals as goal

pub returns : goal.returns
returns c =
    let l = layout c.args.chart.now in
    let all = rest c.elements.result in
    elements_folded _ (λ total a. capped (total + width_of l a)) _ _ 0 c.fold.result c.fold.ensures.ran (λ total a more state called. search rules)
    ∙ weighed l 0 all (omega arith)
    ∙ ap (λ n. capped n) (zero-add (widths l all))
    ∙ ap (λ xs. capped (widths l xs)) c.elements.ensures
