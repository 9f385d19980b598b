-- What the search finds for a whole query.
use Rattle.std.specs.Prelude.{◌≡◌, ℕ, ◌-◌, ◌*◌, ◌<◌, Bool, List, ◌∷◌, length, Some, None, Ok, Err, Option, Result, nat_le, slice_index_or}
use Rattle.chart.specs.Layout.{Layout}
use Rattle.profile.specs.declared.shape.Profile.{Profile}
use Rattle.tariff.specs.Pricing.{Pricing}
use Rattle.queries.specs.declared.node.Node.{Node}
use Rattle.queries.specs.declared.refusal.TreeRefusal.{TreeRefusal}
use Rattle.queries.specs.declared.refusal.TreeRefusal.TheVariants.{Count, Room}
use Rattle.queries.specs.Flat.{tree_of, blank}
use Rattle.queries.specs.Questions.{count_fits, tree_questions, answered, node_profile}
use Rattle.queries.specs.Sound.{Sound}
use Rattle.assignments.specs.declared.parts.Place.{Place}
use Rattle.assignments.specs.Cheapest.{cheapest}
use Rattle.assignments.specs.Table.{place}
use Rattle.search.specs.declared.root.Seat.{Seat}
use Rattle.search.specs.declared.run.Blocked.{Blocked}
use Rattle.search.specs.declared.run.Searched.{Searched}
use Rattle.search.specs.Rows.{Filled}
use Rattle.search.specs.Root.{seat_of, empty_row, first_of}

-- what is found for the root: an executor, or the lowest node that blocks
abbrev pub Outcome : Type 0 → Type 0
Outcome P = Result (Seat P) Blocked

-- the cheapest executor, or else the lowest of the nodes that can be executed nowhere
abbrev pub seated_or : {P : Type 0} → Option (Seat P) → ℕ → Outcome P
seated_or (Some q) k = Ok q
seated_or None k = Err (record { node = k })

-- by the rows T of `count` nodes, the root last
abbrev pub read_from : {P : Type 0} → Pricing P → ℕ → ℕ → (ℕ → ℕ → Option (Place P)) → Outcome P
read_from c n count T =
    seated_or (cheapest c.leq (λ q. q.price) (λ s. seat_of s (T (count - 1) s)) n) (first_of (λ k. empty_row (T k) n) 0 count)

-- by the places of the nodes' subtrees
unfoldable pub outcome_of : {P : Type 0} → Pricing P → (ℕ → Profile → Bool) → Layout → List Node → Outcome P
outcome_of c may l nodes = read_from c l.servers (length nodes) (λ k. place c may l.servers l (tree_of nodes k))

-- 1 to 63 nodes (30); the table at least nodes times servers long (35); the questions of the nodes (31 to 34)
abbrev pub search_answer : Layout → List Node → ℕ → Result (Unit {0}) TreeRefusal
search_answer l nodes size = answered ((count_fits nodes, Count) ∷ (nat_le (length nodes * l.servers) size, Room) ∷ tree_questions l nodes)

-- the work table after a search: filled, or as it was where the query was refused
abbrev pub TableAfter : {P : Type 0} → Pricing P → (ℕ → Profile → Bool) → Layout → List Node → List (Option (Place P)) → List (Option (Place P)) → Result (Unit {0}) TreeRefusal → Type 0
TableAfter c may l nodes old new (Ok t) = Filled c may l nodes (length nodes) old new
TableAfter c may l nodes old new (Err e) = new ≡ old

-- what a search that was not refused found: the profile of each node, and the outcome for the root of a sound tree
pub record Found {P : Type 0} (c : Pricing P) (may : ℕ → Profile → Bool) (l : Layout) (nodes : List Node) (v : Searched P) : Type 0 where
  pub sound : Sound l nodes
  pub sized : length v.profiles ≡ 63
  pub profiles : (k : ℕ) → k < length nodes → slice_index_or v.profiles k blank ≡ node_profile l nodes k
  pub outcome : v.outcome ≡ outcome_of c may l nodes
