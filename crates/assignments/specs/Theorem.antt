-- The theorem of the table.
use Rattle.std.specs.Prelude.{◌≡◌, ℕ, ◌<◌, Bool, true, false, List, length, Some, None, Option}
use Rattle.chart.specs.Layout.{Layout}
use Rattle.profile.specs.declared.shape.Profile.{Profile}
use Rattle.tariff.specs.Pricing.{Pricing}
use Rattle.queries.specs.declared.node.Node.{Node}
use Rattle.queries.specs.Trees.{Tree, top, has_node}
use Rattle.queries.specs.Flat.{tree_of}
use Rattle.queries.specs.Sound.{Sound}
use Rattle.assignments.specs.declared.parts.Place.{Place}
use Rattle.assignments.specs.Assignments.{Steps, Way, executor, cost, other}
use Rattle.assignments.specs.Table.{place, chosen, recorded}
use Rattle.assignments.specs.Stands.{Distinct, Stands}
use Rattle.assignments.specs.Follows.{Follows}
use Rattle.assignments.specs.Subtrees.{Subtrees}

module _ {P : Type 0} (l : Layout) (c : Pricing P) (may : ℕ → Profile → Bool) where
  -- a safe assignment of the tree with the executor s, at just the price, mode and other server of the place
  pub record Reaches (t : Tree) (s : ℕ) (p : Place P) (e : Steps) : Type 0 where
    pub way : Way l may t s e
    pub costs : cost l c e t ≡ p.price
    pub by_mode : (e (top t)).mode ≡ p.mode
    pub by_other : other e t ≡ p.other

  -- Of all safe assignments of the tree, whatever their executor, s has one at this price; none is cheaper, and those whose
  -- executor comes before s are dearer.
  pub record CheapestAt (t : Tree) (s : ℕ) (price : P) : Type 0 where
    pub below : s < l.servers
    pub seat : Place P
    pub seated : place c may l.servers l t s ≡ Some seat
    pub priced : seat.price ≡ price
    pub reached : Reaches t s seat (recorded c may l.servers l t s)
    pub least : (e : Steps) (u : ℕ) → Way l may t u e → c.leq price (cost l c e t) ≡ true
    pub first : (e : Steps) (u : ℕ) → Way l may t u e → u < s → c.leq (cost l c e t) price ≡ false

  -- what is chosen for a whole tree: nothing where it has no safe assignment, else the first of the cheapest servers
  abbrev pub Chosen : {X : Type 0} → (ℕ → P → X) → (X → P) → Tree → Option X → Type 0
  Chosen seat key t None = (e : Steps) (s : ℕ) → Way l may t s e → ⊥
  Chosen seat key t (Some r) = (s : ℕ) × (r ≡ seat s (key r)) × CheapestAt t s (key r)

  pub record TableStands : Type 0 where
    -- every place says of the safe assignments what it should
    pub stands : (t : Tree) → Distinct t → (s : ℕ) → Stands l c may t s (place c may l.servers l t s)
    -- the recorded assignment follows the table from its executor
    pub recorded_at : (t : Tree) (s : ℕ) → executor (recorded c may l.servers l t s) t ≡ s
    pub recorded_follows : (t : Tree) → Distinct t → (s : ℕ) (p : Place P) → place c may l.servers l t s ≡ Some p → Follows l c may (recorded c may l.servers l t s) t
    -- what follows the table reaches its place, and is the recorded assignment
    pub follows_reaches : (t : Tree) (s : ℕ) (p : Place P) (e : Steps) → executor e t ≡ s → place c may l.servers l t s ≡ Some p → Follows l c may e t → Reaches t s p e
    pub follows_recorded : (t : Tree) (s : ℕ) (e : Steps) → executor e t ≡ s → Follows l c may e t → (k : ℕ) → has_node t k ≡ true → e k ≡ recorded c may l.servers l t s k
    -- and the choice of an executor for a whole tree
    pub chosen_stands : (t : Tree) → Distinct t → Chosen {X = ℕ × P} (λ s x. (s, x)) (λ r. r.1) t (chosen {X = ℕ × P} c may l.servers (λ s x. (s, x)) (λ r. r.1) l t)
    -- each node of a query has a subtree, and what follows the table from one node follows it from every node below
    pub subtrees : (nodes : List Node) → Sound l nodes → Subtrees nodes
    pub follows_below : (nodes : List Node) → Sound l nodes → (e : Steps) (i k : ℕ) → i < length nodes → has_node (tree_of nodes i) k ≡ true → Follows l c may e (tree_of nodes i) → Follows l c may e (tree_of nodes k)

-- whatever each server may see
abbrev pub TableLaws : {P : Type 0} → Layout → Pricing P → Type 0
TableLaws l c = (may : ℕ → Profile → Bool) → TableStands l c may
