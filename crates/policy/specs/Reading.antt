-- The exact reading of views, and what lies inside a chart.
use Rattle.std.specs.Prelude.{ℕ, Bool, ◌&&◌, List, map, ◌==◌}
use Rattle.std.specs.List.{list_any}
use Rattle.sets.specs.Sets.{union, subset, same}
use Rattle.chart.specs.Layout.{Layout, server_known}
use Rattle.chart.specs.Lookup.{attributes_known, links_known}
use Rattle.profile.specs.declared.shape.Profile.{Profile}
use Rattle.rules.specs.declared.view.View.{View}
use Rattle.rules.specs.declared.view.RuleRecord.{RuleRecord}

-- A view lets its server see a profile that has just its path, and whose shown and filtered attributes it contains.
abbrev pub view_lets : ℕ → Profile → View → Bool
view_lets server p v = (v.server == server && same v.path p.path) && subset (union p.shown p.filtered) v.attributes

-- some view lets it
abbrev pub exact : List View → ℕ → Profile → Bool
exact views server p = list_any (view_lets server p) views

-- the views that rules grant
abbrev pub granted : List RuleRecord → List View
granted rules = map (λ (r : RuleRecord). r.view) rules

-- The exact reading: some rule of the server has just this path, and its attributes contain shown and filtered.
abbrev pub exact_reading : List RuleRecord → ℕ → Profile → Bool
exact_reading rules server p = exact (granted rules) server p

-- a known server, and a profile of known attributes and links
abbrev pub inside : Layout → ℕ → Profile → Bool
inside l server p = (server_known l server && attributes_known l p.shown) && (attributes_known l p.filtered && links_known l p.path)
