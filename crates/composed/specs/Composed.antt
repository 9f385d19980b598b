-- The composed reading and fitting of a list of rules.
use Rattle.std.specs.Prelude.{ℕ, Bool, ◌&&◌, List, length, nat_le}
use Rattle.chart.specs.Layout.{Layout}
use Rattle.profile.specs.declared.shape.Profile.{Profile}
use Rattle.rules.specs.declared.view.View.{View}
use Rattle.rules.specs.declared.view.RuleRecord.{RuleRecord}
use Rattle.members.specs.Members.{members}
use Rattle.policy.specs.Reading.{exact, granted}

-- the views of the rules, and all that they compose to
abbrev pub composed_members : Layout → List RuleRecord → List View
composed_members l rules = members l (granted rules)

-- The composed reading: some member lets the server see the profile.
abbrev pub composed_reading : Layout → List RuleRecord → ℕ → Profile → Bool
composed_reading l rules server p = exact (composed_members l rules) server p

-- at most 64 rules and 256 members fit
abbrev pub composed_fits : Layout → List RuleRecord → Bool
composed_fits l rules = nat_le (length rules) 64 && nat_le (length (composed_members l rules)) 256
