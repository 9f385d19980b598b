-- What a query answers, and what each of its buffers then holds.
use Rattle.std.specs.Prelude.{◌≡◌, ℕ, ◌-◌, ◌*◌, ◌/◌, ◌%◌, Bool, cond, ◌&&◌, List, ◌∷◌, map, length, None, Ok, Err, Option, Result, nat_le, nat_lt, slice_index_or}
use Rattle.std.specs.List.{range_with_len}
use Rattle.chart.specs.Layout.{Layout}
use Rattle.profile.specs.declared.shape.Profile.{Profile}
use Rattle.tariff.specs.Pricing.{Pricing}
use Rattle.queries.specs.declared.node.Node.{Node}
use Rattle.queries.specs.declared.refusal.TreeRefusal.{TreeRefusal}
use Rattle.queries.specs.declared.refusal.TreeRefusal.TheVariants.{Count, Room}
use Rattle.queries.specs.Trees as tree
use Rattle.queries.specs.Flat.{tree_of}
use Rattle.queries.specs.Questions.{count_fits, tree_questions, answered}
use Rattle.assignments.specs.declared.parts.Step.{Step}
use Rattle.assignments.specs.declared.parts.Place.{Place}
use Rattle.assignments.specs.declared.parts.Release.{Release}
use Rattle.assignments.specs.Assignments.{Steps}
use Rattle.assignments.specs.Table.{place, recorded}
use Rattle.search.specs.declared.root.Seat.{Seat}
use Rattle.search.specs.Outcomes.{Outcome, outcome_of}
use Rattle.planner.specs.declared.answer.Planned.{Planned}
use Rattle.planner.specs.declared.answer.QueryRefusal.{QueryRefusal}
use Rattle.planner.specs.declared.answer.QueryRefusal.TheVariants as refusal
use Rattle.planner.specs.Plans.{plan_after, entailed, releases_after}

-- the tree of the whole query
abbrev pub root : List Node → tree.Tree
root nodes = tree_of nodes (length nodes - 1)

-- the table is at least nodes times servers long, the plan and the release list at least nodes long
abbrev pub room_fits : Layout → List Node → ℕ → ℕ → ℕ → Bool
room_fits l nodes w p z = nat_le (length nodes * l.servers) w && (nat_le (length nodes) p && nat_le (length nodes) z)

-- Accepted, or the first refusal before 40: 1 to 63 nodes (30); room in the buffers, of which w, p and z are the lengths (35);
-- the questions of the nodes (31 to 34), and whether all but the root are used (31).
abbrev pub query_check : Layout → List Node → ℕ → ℕ → ℕ → Result (Unit {0}) TreeRefusal
query_check l nodes w p z = answered ((count_fits nodes, Count) ∷ (room_fits l nodes w p z, Room) ∷ tree_questions l nodes)

-- after an accepted check the second, after a refused one the first
abbrev pub once_checked : {X : Type 0} → Result (Unit {0}) TreeRefusal → X → X → X
once_checked (Ok t) old new = new
once_checked (Err e) old new = old

-- the work table: each place of the query's nodes and servers, at node times servers plus server; later places stay
abbrev pub table_filled : {P : Type 0} → Pricing P → (ℕ → Profile → Bool) → Layout → List Node → List (Option (Place P)) → List (Option (Place P))
table_filled c may l nodes work =
    map (λ k. cond (nat_lt k (length nodes * l.servers)) (place c may l.servers l (tree_of nodes (k / l.servers)) (k % l.servers)) (slice_index_or work k None)) (range_with_len 0 (length work))

module _ {P : Type 0} (c : Pricing P) (may : ℕ → Profile → Bool) (l : Layout) (nodes : List Node) where
  -- the assignment that the table records for the query with this executor
  abbrev pub assigned : ℕ → Steps
  assigned s = recorded c may l.servers l (root nodes) s

  -- what it releases
  abbrev pub released : ℕ → List Release
  released s = entailed l nodes (assigned s) (length nodes)

  -- by what the search found: a plan with its executor, price and release count, or 40 with the lowest blocked node
  abbrev pub answer_by : Outcome P → Result (Planned P) QueryRefusal
  answer_by (Ok q) = Ok (record { executor = q.server; price = q.price; releases = length (released q.server) })
  answer_by (Err b) = Err (refusal.Blocked b.node)

  abbrev pub plan_by : Outcome P → List Step → List Step
  plan_by (Ok q) plan = plan_after (assigned q.server) (length nodes) plan
  plan_by (Err b) plan = plan

  abbrev pub releases_by : Outcome P → List Release → List Release
  releases_by (Ok q) releases = releases_after (released q.server) releases
  releases_by (Err b) releases = releases

  -- the answer where the check accepts; else its refusal
  abbrev pub answer_from : Result (Unit {0}) TreeRefusal → Outcome P → Result (Planned P) QueryRefusal
  answer_from (Ok t) o = answer_by o
  answer_from (Err e) o = Err (refusal.Tree e)

  -- The answer of a query, and its three buffers after it.
  module _ (work : List (Option (Place P))) (plan : List Step) (releases : List Release) where
    abbrev pub checked : Result (Unit {0}) TreeRefusal
    checked = query_check l nodes (length work) (length plan) (length releases)

    abbrev pub query_answer : Result (Planned P) QueryRefusal
    query_answer = answer_from checked (outcome_of c may l nodes)

    abbrev pub work_after : List (Option (Place P))
    work_after = once_checked checked work (table_filled c may l nodes work)

    abbrev pub plan_then : List Step
    plan_then = once_checked checked plan (plan_by (outcome_of c may l nodes) plan)

    abbrev pub releases_then : List Release
    releases_then = once_checked checked releases (releases_by (outcome_of c may l nodes) releases)

-- a plan and its releases were written out for a seat
pub record WrittenOut {P : Type 0} (c : Pricing P) (may : ℕ → Profile → Bool) (l : Layout) (nodes : List Node) (q : Seat P) (old new : List Step) (before after : List Release) (r : Planned P) : Type 0 where
  pub answer : r ≡ record { executor = q.server; price = q.price; releases = length (released c may l nodes q.server) }
  pub plan : new ≡ plan_after (assigned c may l nodes q.server) (length nodes) old
  pub releases : after ≡ releases_after (released c may l nodes q.server) before

-- a search was answered by what it found
pub record AnsweredBy {P : Type 0} (c : Pricing P) (may : ℕ → Profile → Bool) (l : Layout) (nodes : List Node) (o : Outcome P) (old new : List Step) (before after : List Release) (r : Result (Planned P) QueryRefusal) : Type 0 where
  pub answer : r ≡ answer_by c may l nodes o
  pub plan : new ≡ plan_by c may l nodes o old
  pub releases : after ≡ releases_by c may l nodes o before
