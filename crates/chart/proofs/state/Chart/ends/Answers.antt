use Rattle.std.proofs.Common.{◌≡◌, Some, None, sym, ap, ◌∙◌}
use Rattle.std.specs.Option.{option_map, option_zip}
use Rattle.std.specs.List.{slice_get}
use Rattle.std.proofs.lemmas.Bool.{lt-ltb, cond-true}
use Rattle.sets.specs.Sets.{single}
use Rattle.chart.specs.Charts.{layout}
use Rattle.chart.specs.Lookup.{ends}
use Rattle.chart.proofs.Sound.{link_found}
use Rattle.chart.proofs.state.Chart.ends.Goals as goal

pub returns : goal.returns
returns c =
    let x = c.in_ok-found.found in
    let found : slice_get (layout c.args.self.now).links c.args.link ≡ Some x = sym c.link_at.ensures ∙ c.in_ok-found.was in
    let known = link_found c.args.self.now c.args.link x found in
    let left = c.single.ensures ∙ cond-true _ (Some (single x.left)) None (lt-ltb x.left 64 known.1) in
    let right = c.single-2.ensures ∙ cond-true _ (Some (single x.right)) None (lt-ltb x.right 64 known.2) in
    record {
      value = c.zip.ensures ∙ ap (λ o. option_zip o c.single-2.result) left ∙ ap (option_zip (Some (single x.left))) right ∙ ap (option_map ends) (sym found);
      known = λ some. known.0;
    }
