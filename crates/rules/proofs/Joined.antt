-- The question about a path, by what it means.
use Rattle.std.proofs.Common.{length, Decides, sym, ◌∙◌}
use Rattle.std.proofs.lemmas.Bool.{and_parts, and_from, ltb-true, lt-ltb}
use Rattle.sets.specs.Sets.{below}
use Rattle.sets.proofs.Bits.{bit_low}
use Rattle.sets.proofs.Sets.{subset_has, has_subset}
use Rattle.chart.specs.declared.state.Chart.{Chart}
use Rattle.chart.specs.Charts.{layout}
use Rattle.chart.specs.Lookup.{links_known}
use Rattle.rules.specs.declared.view.View.{View}
use Rattle.rules.specs.Trees.{tree}
use Rattle.rules.specs.Rules.{path_joins}
use Rattle.rules.specs.Laws.{Joined, Laws}
use Rattle.rules.proofs.Connected.{tree_decides}

path_decides : (c : Chart) (v : View) → Decides (path_joins (layout c) v) (Joined (layout c) v)
unfolding path_joins
path_decides c v =
    let l = layout c in
    let d = tree_decides c v.attributes v.path in
    let n = length l.links in (
      λ h. let p = and_parts (links_known l v.path) (tree l v.attributes v.path) h in
          record {
            known = λ k in_path. ltb-true k n (sym (bit_low n k) ∙ subset_has v.path (below n) p.0 k in_path);
            joined = d.0 p.1;
          },
      λ j. and_from (links_known l v.path) (tree l v.attributes v.path)
          (has_subset v.path (below n) (λ k in_path. bit_low n k ∙ lt-ltb k n (j.known k in_path))) (d.1 j.joined),
    )

pub laws_hold : Laws
laws_hold = record { tree_means = tree_decides; path_means = path_decides }
