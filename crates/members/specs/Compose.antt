-- When two views compose over a link, and to which view.
use Rattle.std.specs.Prelude.{ℕ, Bool, false, ◌&&◌, ◌||◌, List, map, length, Some, None, Option, ◌==◌}
use Rattle.sets.specs.declared.small_set.SmallSet.{SmallSet}
use Rattle.sets.specs.Bits.{rising}
use Rattle.sets.specs.Sets.{single, union, subset, disjoint}
use Rattle.chart.specs.Layout.{Layout}
use Rattle.chart.specs.Lookup.{ends_of}
use Rattle.rules.specs.declared.view.View.{View}
use Rattle.rules.specs.Relations.{touched}

-- one end lies in s and the other in t, either way round; never where there is no link
abbrev pub lies_across : Option (SmallSet × SmallSet) → SmallSet → SmallSet → Bool
lies_across None s t = false
lies_across (Some e) s t = (subset e.0 s && subset e.1 t) || (subset e.1 s && subset e.0 t)

-- link k has one end in each view's attributes
unfoldable pub bridges : Layout → View → View → ℕ → Bool
bridges l a b k = lies_across (ends_of l k) a.attributes b.attributes

-- the views share no relation
unfoldable pub share_none : Layout → View → View → Bool
share_none l a b = disjoint (touched l a.attributes a.path) (touched l b.attributes b.path)

-- two views of one server compose over a link with one end in each, if they share no relation
unfoldable pub composes : Layout → View → View → ℕ → Bool
composes l a b k = a.server == b.server && (bridges l a b k && share_none l a b)

-- what two views compose to over link k: all that both have, joined over that link too
unfoldable pub composition : View → View → ℕ → View
composition a b k = record {
  server = a.server;
  attributes = union a.attributes b.attributes;
  path = union (union a.path b.path) (single k);
}

-- one composition for each link over which two views compose
unfoldable pub compositions : Layout → View → View → List View
compositions l a b = map (composition a b) (rising (composes l a b) 0 (length l.links))
