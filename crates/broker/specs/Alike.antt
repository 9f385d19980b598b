-- Two brokers whose histories leave the same standing rules.
use Rattle.std.specs.Prelude.{◌≡◌, Bool, List, Option}
use Rattle.chart.specs.declared.state.Chart.{Chart}
use Rattle.chart.specs.Charts.{layout}
use Rattle.tariff.specs.Pricing.{Pricing}
use Rattle.queries.specs.declared.node.Node.{Node}
use Rattle.rules.specs.declared.view.RuleRecord.{RuleRecord}
use Rattle.assignments.specs.declared.parts.Step.{Step}
use Rattle.assignments.specs.declared.parts.Place.{Place}
use Rattle.assignments.specs.declared.parts.Release.{Release}
use Rattle.planner.specs.Queries.{query_answer, work_after, plan_then, releases_then}
use Rattle.broker.specs.Reference.{Reading}
use Rattle.broker.specs.Histories.{Event, Stands, Reached}

-- a query's answer and buffers by one reading of rules are those by another
pub record SameOutcome {P : Type 0} (chart : Chart) (r r' : Reading) (rules rules' : List RuleRecord) (c : Pricing P) (nodes : List Node) (work : List (Option (Place P))) (plan : List Step) (releases : List Release) : Type 0 where
  pub answers : query_answer c (r rules) (layout chart) nodes work plan releases ≡ query_answer c (r' rules') (layout chart) nodes work plan releases
  pub table : work_after c (r rules) (layout chart) nodes work plan releases ≡ work_after c (r' rules') (layout chart) nodes work plan releases
  pub steps : plan_then c (r rules) (layout chart) nodes work plan releases ≡ plan_then c (r' rules') (layout chart) nodes work plan releases
  pub list : releases_then c (r rules) (layout chart) nodes work plan releases ≡ releases_then c (r' rules') (layout chart) nodes work plan releases

-- Two brokers of one chart and one reading, whatever calls were made of each: where the same rules stand, in whatever way they
-- came to stand, every query gets the same answer and leaves the same buffers.
abbrev pub JudgedAlike : {P : Type 0} → Chart → Chart → (List RuleRecord → Bool) → (List RuleRecord → Bool) → Reading → Reading → List RuleRecord → List RuleRecord → Pricing P → Type 0
JudgedAlike {P} chart chart' fits fits' reading reading' rules rules' c =
    (first first' : List RuleRecord) (t t' : List Event) → Reached (layout chart) fits rules first t → Reached (layout chart') fits' rules' first' t'
    → ((r : RuleRecord) → Stands first t r → Stands first' t' r) → ((r : RuleRecord) → Stands first' t' r → Stands first t r)
    → chart ≡ chart' → reading ≡ reading'
    → (nodes : List Node) (work : List (Option (Place P))) (plan : List Step) (releases : List Release) → SameOutcome chart reading reading' rules rules' c nodes work plan releases
