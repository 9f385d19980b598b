-- What the nodes of a query that is one tree give: their subtrees.
use Rattle.std.specs.Prelude.{◌≡◌, ℕ, ◌-◌, ◌<◌, ◌≤◌, true, List, length}
use Rattle.queries.specs.declared.node.Node.{Node}
use Rattle.queries.specs.Trees.{has_node}
use Rattle.queries.specs.Flat.{node, grow, tree_of}
use Rattle.assignments.specs.Stands.{Distinct}

pub record Subtrees (nodes : List Node) : Type 0 where
  -- a node's subtree is grown over its operands'
  pub grown : (i : ℕ) → i < length nodes → tree_of nodes i ≡ grow (tree_of nodes) i (node nodes i)
  -- its nodes come no later than it does, and none stands in it twice
  pub below : (i k : ℕ) → i < length nodes → has_node (tree_of nodes i) k ≡ true → k ≤ i
  pub distinct : (i : ℕ) → i < length nodes → Distinct (tree_of nodes i)
  -- the last node's has every node
  pub all : (k : ℕ) → k < length nodes → has_node (tree_of nodes (length nodes - 1)) k ≡ true
