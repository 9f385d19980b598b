-- Query trees, and the profile of each one's result.
use Rattle.std.specs.Prelude.{ℕ, Bool, ◌||◌, ◌==◌}
use Rattle.std.specs.Option.{unwrap_or}
use Rattle.sets.specs.declared.small_set.SmallSet.{SmallSet}
use Rattle.sets.specs.Sets.{none, single}
use Rattle.chart.specs.Layout.{Layout}
use Rattle.profile.specs.declared.shape.Profile.{Profile}
use Rattle.profile.specs.declared.join.Join.{Join}
use Rattle.profile.specs.Profiles as shape
use Rattle.profile.specs.Joins.{orient_answer, joined}

-- A tree; each of its nodes has its number in the list of nodes first. A leaf has its relation, a projection and a filter
-- their attributes, a join its link.
pub data Tree : Type 0 where
  leaf : ℕ → ℕ → Tree
  projection : ℕ → SmallSet → Tree → Tree
  filtering : ℕ → SmallSet → Tree → Tree
  join : ℕ → ℕ → Tree → Tree → Tree

-- the number of the root
abbrev pub top : Tree → ℕ
top (leaf i r) = i
top (projection i s t) = i
top (filtering i s t) = i
top (join i k a b) = i

-- whether a node of this number is in the tree
abbrev pub has_node : Tree → ℕ → Bool
has_node (leaf i r) n = n == i
has_node (projection i s t) n = n == i || has_node t n
has_node (filtering i s t) n = n == i || has_node t n
has_node (join i k a b) n = n == i || (has_node a n || has_node b n)

-- Two operands and the link between them, with the link's end on each side; no ends where the link does not fit, which
-- no query that passed its questions has.
abbrev pub between : Layout → Profile → Profile → ℕ → Join
between l p q k =
    let e = unwrap_or (orient_answer l p.shown q.shown k) (none, none) in
    record { left = p; right = q; link = single k; left_end = e.0; right_end = e.1 }

-- the profile of the tree's result
abbrev pub profile_of : Layout → Tree → Profile
profile_of l (leaf i r) = shape.leaf l r
profile_of l (projection i s t) = shape.project (profile_of l t) s
profile_of l (filtering i s t) = shape.filter (profile_of l t) s
profile_of l (join i k a b) = joined (between l (profile_of l a) (profile_of l b) k)

-- the operands of a join of two trees
abbrev pub pair_of : Layout → ℕ → Tree → Tree → Join
pair_of l k a b = between l (profile_of l a) (profile_of l b) k
