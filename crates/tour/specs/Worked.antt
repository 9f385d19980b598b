-- The worked cases, each from the definitions that the contracts cite.
use Rattle.std.specs.Prelude.{◌≡◌, ℕ, Bool, true, false, not, ◌&&◌, List, [], ◌∷◌, Some, None, Ok, Err, Option, Result}
use Rattle.std.specs.Option.{option_map}
use Rattle.chart.specs.Build.{link_answer}
use Rattle.profile.specs.declared.shape.Profile.{Profile}
use Rattle.rules.specs.declared.view.RuleRecord.{RuleRecord}
use Rattle.policy.specs.Reading.{exact_reading}
use Rattle.layers.specs.Readings.{denied}
use Rattle.composed.specs.Composed.{composed_reading}
use Rattle.tariff.specs.Bytes.{byte_pricing}
use Rattle.queries.specs.declared.node.Node.{Node}
use Rattle.queries.specs.declared.node.Node.TheVariants.{Leaf, Join}
use Rattle.assignments.specs.declared.mode.Mode.TheVariants.{Local, LeftSemi, RightMaster}
use Rattle.assignments.specs.declared.parts.Step.{Step}
use Rattle.assignments.specs.declared.parts.Place.{Place}
use Rattle.assignments.specs.declared.parts.Release.{Release}
use Rattle.assignments.specs.Modes.{sending}
use Rattle.assignments.specs.Assignments.{step}
use Rattle.planner.specs.declared.answer.Planned.{Planned}
use Rattle.planner.specs.declared.answer.QueryRefusal.{QueryRefusal}
use Rattle.planner.specs.declared.answer.QueryRefusal.TheVariants.{Blocked}
use Rattle.planner.specs.Queries.{query_answer, plan_then, releases_then}
use Rattle.sample.specs.Sample.{sample}
use Rattle.sample.specs.Parts.{set_of, profile_of, rule_of}
use Rattle.tour.specs.declared.parts.Steps.{Steps}
use Rattle.tour.specs.Parts.{steps_of, refusal_of}

-- a denial of attributes 0 and 3 for server 2, over rules read exactly
abbrev pub denial_reading : List RuleRecord → ℕ → Profile → Bool
denial_reading rules server p = not (denied ((record { server = 2; attributes = set_of (0 ∷ 3 ∷ []) }) ∷ []) server p) && exact_reading rules server p

-- relation 0 joined with relation 1 over link 0, and relation 0 alone
abbrev pub joined_nodes : List Node
joined_nodes = Leaf 0 ∷ Leaf 1 ∷ Join 0 1 0 ∷ []

abbrev pub lone_node : List Node
lone_node = Leaf 0 ∷ []

-- buffers of three nodes and three servers, with nothing in them that a plan has
abbrev pub blank_work : List (Option (Place ℕ))
blank_work = None ∷ None ∷ None ∷ None ∷ None ∷ None ∷ None ∷ None ∷ None ∷ []

abbrev pub no_step : Step
no_step = step 7 LeftSemi

abbrev pub blank_plan : List Step
blank_plan = no_step ∷ no_step ∷ no_step ∷ []

abbrev pub no_release : Release
no_release = sending 7 7 (profile_of [] [] [])

abbrev pub blank_releases : List Release
blank_releases = no_release ∷ no_release ∷ no_release ∷ []

-- a query in bytes on the sample chart, by rules that are read exactly: the answer, the plan and the releases
abbrev pub planned : List RuleRecord → List Node → Result (Planned ℕ) QueryRefusal × List Step × List Release
planned rules nodes = (
  query_answer (byte_pricing sample) (exact_reading rules) sample nodes blank_work blank_plan blank_releases,
  plan_then (byte_pricing sample) (exact_reading rules) sample nodes blank_work blank_plan blank_releases,
  releases_then (byte_pricing sample) (exact_reading rules) sample nodes blank_work blank_plan blank_releases,
)

-- a plan's executor, price and release count
abbrev pub plan_at : ℕ → ℕ → ℕ → Result (Planned ℕ) QueryRefusal
plan_at executor price count = Ok (record { executor = executor; price = price; releases = count })

pub record Worked : Type 0 where
  -- relation 0 filtered by 2 and projected on 0 and 1 is [0,1; -; 2]
  pub projected : option_map (λ (s : Steps). s.projected) (steps_of sample) ≡ Some (profile_of (0 ∷ 1 ∷ []) [] (2 ∷ []))
  -- that joined with relation 1 over link 0 is [0,1,3,4; 0; 2]
  pub joined : option_map (λ (s : Steps). s.joined) (steps_of sample) ≡ Some (profile_of (0 ∷ 1 ∷ 3 ∷ 4 ∷ []) (0 ∷ []) (2 ∷ []))
  -- a link between 3 and 0 is refused with 16, since 0 and 3 are linked
  pub repeated : refusal_of (link_answer sample 3 0) ≡ Some 16
  -- attributes 0,1,2 with the empty path cover [0,1; -; 2], and 0,1 do not
  pub covered : exact_reading (rule_of 1 1 (0 ∷ 1 ∷ 2 ∷ []) [] ∷ []) 1 (profile_of (0 ∷ 1 ∷ []) [] (2 ∷ [])) ≡ true
  pub uncovered : exact_reading (rule_of 1 1 (0 ∷ 1 ∷ []) [] ∷ []) 1 (profile_of (0 ∷ 1 ∷ []) [] (2 ∷ [])) ≡ false
  -- composed, a server with 0,1 and with 3,4, both on empty paths, may see [0,4; 0; -]
  pub composed : composed_reading sample (rule_of 1 1 (0 ∷ 1 ∷ []) [] ∷ rule_of 2 1 (3 ∷ 4 ∷ []) [] ∷ []) 1 (profile_of (0 ∷ 4 ∷ []) (0 ∷ []) []) ≡ true
  -- a server with 0,3,4 on path 0 and a denial of 0,3 may see [0,4; 0; -] and not [0,3; 0; -]
  pub let_through : denial_reading (rule_of 1 2 (0 ∷ 3 ∷ 4 ∷ []) (0 ∷ []) ∷ []) 2 (profile_of (0 ∷ 4 ∷ []) (0 ∷ []) []) ≡ true
  pub denied_both : denial_reading (rule_of 1 2 (0 ∷ 3 ∷ 4 ∷ []) (0 ∷ []) ∷ []) 2 (profile_of (0 ∷ 3 ∷ []) (0 ∷ []) []) ≡ false
  -- where server 1 may see 0,1,2, the join is planned at server 1 for 16 bytes, in mode 3, and [0,1,2; -; -] goes from 0 to 1
  pub sent_whole : planned (rule_of 1 1 (0 ∷ 1 ∷ 2 ∷ []) [] ∷ []) joined_nodes
      ≡ (
        plan_at 1 16 1,
        step 0 Local ∷ step 1 Local ∷ step 1 RightMaster ∷ [],
        sending 0 1 (profile_of (0 ∷ 1 ∷ 2 ∷ []) [] []) ∷ no_release ∷ no_release ∷ [],
      )
  -- with no rule it is blocked at node 2
  pub blocked : planned [] joined_nodes ≡ (Err (Blocked 2), blank_plan, blank_releases)
  -- where server 0 may see 0,3,4 on path 0 and server 1 may see 0, it is planned at server 0 for 18 bytes, in mode 2:
  -- [0; -; -] goes from 0 to 1, and [0,3,4; 0; -] from 1 to 0
  pub semi_joined : planned (rule_of 2 0 (0 ∷ 3 ∷ 4 ∷ []) (0 ∷ []) ∷ rule_of 3 1 (0 ∷ []) [] ∷ []) joined_nodes
      ≡ (
        plan_at 0 18 2,
        step 0 Local ∷ step 1 Local ∷ step 0 LeftSemi ∷ [],
        sending 0 1 (profile_of (0 ∷ []) [] []) ∷ sending 1 0 (profile_of (0 ∷ 3 ∷ 4 ∷ []) (0 ∷ []) []) ∷ no_release ∷ [],
      )
  -- relation 0 alone, with no rule, costs nothing and releases nothing
  pub alone : planned [] lone_node ≡ (plan_at 0 0 0, step 0 Local ∷ no_step ∷ no_step ∷ [], blank_releases)
