-- The relations of attributes and of links.
use Rattle.std.specs.Prelude.{ℕ, List, [], ◌∷◌, Some, None, Option}
use Rattle.sets.specs.declared.small_set.SmallSet.{SmallSet}
use Rattle.sets.specs.Sets.{none, single, union, members}
use Rattle.chart.specs.Layout.{Layout, relation_of}
use Rattle.chart.specs.Lookup.{ends_of}

-- the union of f over a list
abbrev pub gather : (ℕ → SmallSet) → List ℕ → SmallSet
gather f [] = none
gather f (x ∷ xs) = union (f x) (gather f xs)

abbrev pub set_of : Option ℕ → SmallSet
set_of None = none
set_of (Some r) = single r

-- the relations of the attributes of a set
abbrev pub relations_of : Layout → SmallSet → SmallSet
relations_of l attributes = gather (λ a. set_of (relation_of l a)) (members attributes)

-- the relations of both ends of a link
abbrev pub ends_relations : Layout → Option (SmallSet × SmallSet) → SmallSet
ends_relations l None = none
ends_relations l (Some e) = union (relations_of l e.0) (relations_of l e.1)

abbrev pub link_relations : Layout → ℕ → SmallSet
link_relations l k = ends_relations l (ends_of l k)

-- the relations of a rule or a view: those of its attributes and of its links' ends
abbrev pub touched : Layout → SmallSet → SmallSet → SmallSet
touched l attributes path = union (relations_of l attributes) (gather (link_relations l) (members path))
