-- Profiles of leaves, projections and filters.
use Rattle.std.specs.Prelude.{ℕ, Option}
use Rattle.std.specs.Option.{option_map}
use Rattle.sets.specs.declared.small_set.SmallSet.{SmallSet}
use Rattle.sets.specs.Sets.{none, union}
use Rattle.chart.specs.Layout.{Layout}
use Rattle.chart.specs.Lookup.{server_of, attributes_of}
use Rattle.profile.specs.declared.shape.Profile.{Profile}

-- a leaf shows its relation's attributes; path and filtered are empty
abbrev pub leaf : Layout → ℕ → Profile
leaf l r = record { shown = attributes_of l r; path = none; filtered = none }

-- none where the relation is not known
abbrev pub leaf_answer : Layout → ℕ → Option Profile
leaf_answer l r = option_map (λ (s : ℕ). leaf l r) (server_of l r)

-- a projection shows its own attributes and keeps the other two
abbrev pub project : Profile → SmallSet → Profile
project p attributes = record { shown = attributes; path = p.path; filtered = p.filtered }

-- a filter adds its attributes to filtered
abbrev pub filter : Profile → SmallSet → Profile
filter p attributes = record { shown = p.shown; path = p.path; filtered = union p.filtered attributes }
