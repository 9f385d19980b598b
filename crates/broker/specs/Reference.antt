-- The reference broker. Its state is the list of the rules in force; it is fed each call's arguments alone, and knows the
-- chart and the book's reading and fitting. What it answers to entries and withdrawals, and the list after them, are
-- `entry_answer`, `entry_list`, `withdrawal_answer` and `withdrawal_list`; a query leaves the list as it is, and is answered
-- by the reading of that list.
use Rattle.std.specs.Prelude.{◌≡◌, ℕ, Bool, List, Option, Result}
use Rattle.chart.specs.Layout.{Layout}
use Rattle.profile.specs.declared.shape.Profile.{Profile}
use Rattle.tariff.specs.Pricing.{Pricing}
use Rattle.queries.specs.declared.node.Node.{Node}
use Rattle.rules.specs.declared.view.RuleRecord.{RuleRecord}
use Rattle.assignments.specs.declared.parts.Step.{Step}
use Rattle.assignments.specs.declared.parts.Place.{Place}
use Rattle.assignments.specs.declared.parts.Release.{Release}
use Rattle.planner.specs.declared.answer.Planned.{Planned}
use Rattle.planner.specs.declared.answer.QueryRefusal.{QueryRefusal}
use Rattle.planner.specs.Queries.{query_answer, work_after, plan_then, releases_then}

-- how a list of rules is read: which server may see which profile
abbrev pub Reading : Type 0
Reading = List RuleRecord → ℕ → Profile → Bool

-- The reference broker's answer to a query, and the three buffers after it, where the rules in force are `rules`.
pub record Queried {P : Type 0} (l : Layout) (reading : Reading) (rules : List RuleRecord) (c : Pricing P) (nodes : List Node)
    (work work' : List (Option (Place P))) (plan plan' : List Step) (releases releases' : List Release) (r : Result (Planned P) QueryRefusal) : Type 0 where
  pub answers : r ≡ query_answer c (reading rules) l nodes work plan releases
  pub table : work' ≡ work_after c (reading rules) l nodes work plan releases
  pub steps : plan' ≡ plan_then c (reading rules) l nodes work plan releases
  pub list : releases' ≡ releases_then c (reading rules) l nodes work plan releases
