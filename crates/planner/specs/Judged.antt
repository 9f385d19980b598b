-- What an answer to a query says of the query's safe assignments.
use Rattle.std.specs.Prelude.{◌≡◌, ℕ, ◌<◌, Bool, true, false, List, length, take, Ok, Err, Option, Result}
use Rattle.chart.specs.Layout.{Layout}
use Rattle.profile.specs.declared.shape.Profile.{Profile}
use Rattle.tariff.specs.Pricing.{Pricing}
use Rattle.queries.specs.declared.node.Node.{Node}
use Rattle.queries.specs.Flat.{tree_of}
use Rattle.assignments.specs.declared.parts.Step.{Step}
use Rattle.assignments.specs.declared.parts.Place.{Place}
use Rattle.assignments.specs.declared.parts.Release.{Release}
use Rattle.assignments.specs.Modes.{allowed}
use Rattle.assignments.specs.Assignments.{Steps, Way, cost}
use Rattle.assignments.specs.Stands.{Stands}
use Rattle.search.specs.Rows.{place_at}
use Rattle.planner.specs.declared.answer.Planned.{Planned}
use Rattle.planner.specs.declared.answer.QueryRefusal.{QueryRefusal}
use Rattle.planner.specs.declared.answer.QueryRefusal.TheVariants.{Tree, Blocked}
use Rattle.planner.specs.Plans.{at_step, entailed}
use Rattle.planner.specs.Queries.{root}

module _ {P : Type 0} (c : Pricing P) (may : ℕ → Profile → Bool) (l : Layout) (nodes : List Node) where
  -- no safe assignment of the node's subtree, with any executor
  abbrev pub NoneSafe : ℕ → Type 0
  NoneSafe k = (e : Steps) (s : ℕ) → Way l may (tree_of nodes k) s e → ⊥

  -- every place of the table says of the safe assignments of its subtree, with its executor, what it should
  abbrev pub PlacesStand : List (Option (Place P)) → Type 0
  PlacesStand work = (k s : ℕ) → k < length nodes → s < l.servers → Stands l c may (tree_of nodes k) s (place_at work l.servers k s)

  -- Blocked: the query has no safe assignment; the node named is the lowest whose own subtree has none.
  pub record BlockedAt (work : List (Option (Place P))) (k : ℕ) : Type 0 where
    pub places : PlacesStand work
    pub none : (e : Steps) (s : ℕ) → Way l may (root nodes) s e → ⊥
    pub inside : k < length nodes
    pub blocked : NoneSafe k
    pub others : (j : ℕ) → j < k → (e : Steps) × ((s : ℕ) × Way l may (tree_of nodes j) s e)

  -- Planned: the plan buffer is a safe assignment with the executor and at the price returned; no safe assignment, whatever
  -- its executor, is cheaper, and those with a lower executor are dearer; the listed releases are those that the assignment
  -- entails, in the order of the nodes, and each receiver may see what is sent to it.
  pub record PlannedBy (work : List (Option (Place P))) (plan : List Step) (releases : List Release) (q : Planned P) : Type 0 where
    pub places : PlacesStand work
    pub way : Way l may (root nodes) q.executor (at_step plan)
    pub priced : cost l c (at_step plan) (root nodes) ≡ q.price
    pub least : (e : Steps) (s : ℕ) → Way l may (root nodes) s e → c.leq q.price (cost l c e (root nodes)) ≡ true
    pub first : (e : Steps) (s : ℕ) → Way l may (root nodes) s e → s < q.executor → c.leq (cost l c e (root nodes)) q.price ≡ false
    pub listed : take q.releases releases ≡ entailed l nodes (at_step plan) (length nodes)
    pub let_through : allowed may (take q.releases releases) ≡ true

  -- an answer, with the three buffers after it
  abbrev pub Judged : List (Option (Place P)) → List Step → List Release → Result (Planned P) QueryRefusal → Type 0
  Judged work plan releases (Ok q) = PlannedBy work plan releases q
  Judged work plan releases (Err (Tree e)) = Unit {0}
  Judged work plan releases (Err (Blocked k)) = BlockedAt work k
