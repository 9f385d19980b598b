-- What the test of a path means.
use Rattle.std.specs.Prelude.{◌≡◌, ℕ, ◌<◌, true, length, Decides}
use Rattle.sets.specs.declared.small_set.SmallSet.{SmallSet}
use Rattle.chart.specs.declared.state.Chart.{Chart}
use Rattle.sets.specs.Sets.{has}
use Rattle.chart.specs.Layout.{Layout}
use Rattle.chart.specs.Charts.{layout}
use Rattle.rules.specs.declared.view.View.{View}
use Rattle.rules.specs.Rules.{path_joins}
use Rattle.rules.specs.Trees.{Tree, tree}

-- every link of the path is known, and it joins the view's relations into one tree
pub record Joined (l : Layout) (v : View) : Type 0 where
  pub known : (k : ℕ) → has v.path k ≡ true → k < length l.links
  pub joined : Tree l v.attributes v.path

-- on every chart, the test says yes exactly where the path joins the relations into one tree
pub record Laws : Type 0 where
  pub tree_means : (c : Chart) (attributes path : SmallSet) → Decides (tree (layout c) attributes path) (Tree (layout c) attributes path)
  pub path_means : (c : Chart) (v : View) → Decides (path_joins (layout c) v) (Joined (layout c) v)
