-- A query as a list of nodes, operands before users, and the tree that each node is the root of.
use Rattle.std.specs.Prelude.{ℕ, zero, suc, cond, List, [], ◌∷◌, ◌==◌, slice_index_or}
use Rattle.queries.specs.declared.node.Node.{Node}
use Rattle.queries.specs.declared.node.Node.TheVariants.{Leaf, Project, Filter, Join}
use Rattle.sets.specs.Sets.{none}
use Rattle.chart.specs.Layout.{Layout}
use Rattle.profile.specs.declared.shape.Profile.{Profile}
use Rattle.profile.specs.Profiles as shape
use Rattle.profile.specs.Joins.{joined}
use Rattle.queries.specs.Trees.{Tree, leaf, projection, filtering, join, between}

-- the node of this number
abbrev pub node : List Node → ℕ → Node
node nodes i = slice_index_or nodes i (Leaf 0)

-- the operands of a node
abbrev pub operands : Node → List ℕ
operands (Leaf r) = []
operands (Project j s) = j ∷ []
operands (Filter j s) = j ∷ []
operands (Join a b k) = a ∷ b ∷ []

-- a node's tree, given the trees of its operands
abbrev pub grow : (ℕ → Tree) → ℕ → Node → Tree
grow f i (Leaf r) = leaf i r
grow f i (Project j s) = projection i s (f j)
grow f i (Filter j s) = filtering i s (f j)
grow f i (Join a b k) = join i k (f a) (f b)

-- the trees of the nodes before i, by number
unfoldable pub forest : List Node → ℕ → ℕ → Tree
forest nodes zero j = leaf 0 0
forest nodes (suc i) j = cond (j == i) (grow (forest nodes i) i (node nodes i)) (forest nodes i j)

-- the subtree of the node i: the tree of it and all below it
unfoldable pub tree_of : List Node → ℕ → Tree
tree_of nodes i = grow (forest nodes i) i (node nodes i)

-- a node's profile, given those of its operands
abbrev pub profile_by : Layout → (ℕ → Profile) → Node → Profile
profile_by l f (Leaf r) = shape.leaf l r
profile_by l f (Project j s) = shape.project (f j) s
profile_by l f (Filter j s) = shape.filter (f j) s
profile_by l f (Join a b k) = joined (between l (f a) (f b) k)

-- a profile that says nothing
abbrev pub blank : Profile
blank = record { shown = none; path = none; filtered = none }
