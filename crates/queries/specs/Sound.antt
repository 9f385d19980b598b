-- What the questions leave true of a list of nodes.
use Rattle.std.specs.Prelude.{◌≡◌, ℕ, ◌+◌, ◌<◌, true, List, length, is_some, Some}
use Rattle.std.specs.List.{AllByRecursion}
use Rattle.chart.specs.Layout.{Layout}
use Rattle.chart.specs.Lookup.{server_of}
use Rattle.profile.specs.Joins.{orient_answer}
use Rattle.queries.specs.declared.node.Node.{Node}
use Rattle.queries.specs.declared.node.Node.TheVariants.{Leaf, Project, Filter, Join}
use Rattle.queries.specs.Flat.{node, operands}
use Rattle.queries.specs.Questions.{uses, node_profile}

-- a leaf's relation lies at a server; a join's link has one end shown on each side
abbrev pub Placed : Layout → List Node → Node → Type 0
Placed l nodes (Leaf r) = (s : ℕ) × (server_of l r ≡ Some s)
Placed l nodes (Project j s) = Unit {0}
Placed l nodes (Filter j s) = Unit {0}
Placed l nodes (Join a b k) = is_some (orient_answer l (node_profile l nodes a).shown (node_profile l nodes b).shown k) ≡ true

-- the operands of a join are two
abbrev pub Apart : Node → Type 0
Apart (Leaf r) = Unit {0}
Apart (Project j s) = Unit {0}
Apart (Filter j s) = Unit {0}
Apart (Join a b k) = a ≡ b → ⊥

-- The nodes are one tree: operands are earlier, a node is used once, and all but the last are used.
pub record Sound (l : Layout) (nodes : List Node) : Type 0 where
  pub some : 0 < length nodes
  pub few : length nodes < 64
  pub earlier : (i : ℕ) → i < length nodes → AllByRecursion (λ j. j < i) (operands (node nodes i))
  pub once : (j a b : ℕ) → a < length nodes → b < length nodes → uses j (node nodes a) ≡ true → uses j (node nodes b) ≡ true → a ≡ b
  pub apart : (i : ℕ) → i < length nodes → Apart (node nodes i)
  pub used : (j : ℕ) → j + 1 < length nodes → (a : ℕ) × (a < length nodes) × (uses j (node nodes a) ≡ true)
  pub placed : (i : ℕ) → i < length nodes → Placed l nodes (node nodes i)
