-- What every chart keeps, and what the definitions of look-ups mean.
use Rattle.std.specs.Prelude.{◌≡◌, ℕ, ◌<◌, ◌≤◌, length, Some, Decides, ◌≢◌}
use Rattle.std.specs.List.{AllByRecursion}
use Rattle.sets.specs.Sets.{has}
use Rattle.chart.specs.declared.parts.Grade.TheVariants.{Public}
use Rattle.chart.specs.declared.state.Chart.{Chart}
use Rattle.chart.specs.Layout.{Layout, relation_of}
use Rattle.chart.specs.Lookup.{attributes_of, grade_of}
use Rattle.chart.specs.Charts.{layout}
use Rattle.chart.specs.Build.{bare}

pub record Sound (l : Layout) : Type 0 where
  pub some_server : 0 < l.servers
  pub few_servers : l.servers ≤ 16
  pub few_relations : length l.homes ≤ 32
  pub few_attributes : length l.attributes ≤ 64
  pub few_links : length l.links ≤ 64
  -- a relation lies at a known server
  pub homed : AllByRecursion (λ s. s < l.servers) l.homes
  -- an attribute belongs to a known relation and is at least a byte wide
  pub owned : AllByRecursion (λ x. (x.relation < length l.homes) × (0 < x.width)) l.attributes
  -- a link's ends are known attributes of different relations
  pub crossed : AllByRecursion (λ x. (x.left < length l.attributes) × (x.right < length l.attributes) × (relation_of l x.left ≢ relation_of l x.right)) l.links

pub record Laws : Type 0 where
  pub charts_sound : (c : Chart) → Sound (layout c)
  -- the attributes of a relation are those that belong to it
  pub attributes_mean : (l : Layout) (r a : ℕ) → Decides (has (attributes_of l r) a) (relation_of l a ≡ Some r)
  -- a line has one grade, both ways, and it is public unless set
  pub both_ways : (l : Layout) (a b : ℕ) → grade_of l a b ≡ grade_of l b a
  pub public_unless_set : (n a b : ℕ) → grade_of (bare n) a b ≡ Public
