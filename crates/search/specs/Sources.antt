-- Where the places of a node come from.
use Rattle.std.specs.Prelude.{◌≡◌, ℕ, Bool, true, is_some}
use Rattle.chart.specs.Layout.{Layout}
use Rattle.chart.specs.Lookup.{server_of}
use Rattle.profile.specs.declared.shape.Profile.{Profile}
use Rattle.profile.specs.Joins.{orient_answer}
use Rattle.queries.specs.declared.node.Node.{Node}
use Rattle.queries.specs.declared.node.Node.TheVariants.{Leaf, Project, Filter, Join}
use Rattle.queries.specs.Trees.{between}
use Rattle.search.specs.declared.rows.Source.{Source}
use Rattle.search.specs.declared.rows.Source.TheVariants.{Home, Operand, Options}
use Rattle.search.specs.Sends.{Sent}

-- The source is that of this node, with the profiles f of its operands: a leaf's server, a projection's or a filter's
-- operand, or a join's operands and what they may send one another.
abbrev pub Sourced : Layout → (ℕ → Profile → Bool) → ℕ → (ℕ → Profile) → Node → Source → Type 0
Sourced l may n f (Leaf r) (Home h) = h ≡ server_of l r
Sourced l may n f (Leaf r) (Operand i) = ⊥
Sourced l may n f (Leaf r) (Options o v) = ⊥
Sourced l may n f (Project j s) (Home h) = ⊥
Sourced l may n f (Project j s) (Operand i) = i ≡ j
Sourced l may n f (Project j s) (Options o v) = ⊥
Sourced l may n f (Filter j s) (Home h) = ⊥
Sourced l may n f (Filter j s) (Operand i) = i ≡ j
Sourced l may n f (Filter j s) (Options o v) = ⊥
Sourced l may n f (Join a b k) (Home h) = ⊥
Sourced l may n f (Join a b k) (Operand i) = ⊥
Sourced l may n f (Join a b k) (Options o v) = (o.left ≡ a) × (o.right ≡ b) × Sent may n (between l (f a) (f b) k) v

-- a join's link has one end shown on each side
abbrev pub Joinable : Layout → (ℕ → Profile) → Node → Type 0
Joinable l f (Leaf r) = Unit {0}
Joinable l f (Project j s) = Unit {0}
Joinable l f (Filter j s) = Unit {0}
Joinable l f (Join a b k) = is_some (orient_answer l (f a).shown (f b).shown k) ≡ true
