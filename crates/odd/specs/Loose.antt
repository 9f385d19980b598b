-- A book with room for one rule, read loosely.
use Rattle.std.specs.Prelude.{ℕ, Bool, ◌&&◌, List, [], ◌∷◌, length, Some, None, Option, ◌==◌, nat_le}
use Rattle.std.specs.List.{list_any}
use Rattle.sets.specs.Sets.{subset}
use Rattle.chart.specs.Layout.{Layout}
use Rattle.profile.specs.declared.shape.Profile.{Profile}
use Rattle.rules.specs.declared.view.RuleRecord.{RuleRecord}
use Rattle.rules.specs.declared.rule.Rule.{Rule}
use Rattle.policy.specs.Reading.{inside}

abbrev pub rules_of : Option Rule → List RuleRecord
rules_of None = []
rules_of (Some r) = r.given ∷ []

-- a rule lets its server see what shows no more than its attributes
abbrev pub lets : ℕ → Profile → RuleRecord → Bool
lets server p r = r.view.server == server && subset p.shown r.view.attributes

-- inside the chart, some rule lets it
abbrev pub loose_reading : Layout → List RuleRecord → ℕ → Profile → Bool
loose_reading l rules server p = inside l server p && list_any (lets server p) rules

-- at most one rule fits
abbrev pub one_fits : List RuleRecord → Bool
one_fits rules = nat_le (length rules) 1
