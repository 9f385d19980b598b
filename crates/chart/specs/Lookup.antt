-- What a layout answers of its parts, known or not.
use Rattle.std.specs.Prelude.{ℕ, ◌+◌, ◌*◌, min, max, Bool, cond, not, ◌&&◌, ◌||◌, List, [], ◌∷◌, length, Option, ◌==◌, nat_eq, slice_index_or}
use Rattle.std.specs.Option.{option_map, unwrap_or}
use Rattle.std.specs.List.{slice_get}
use Rattle.sets.specs.declared.small_set.SmallSet.{SmallSet}
use Rattle.sets.specs.Sets.{none, single, union, subset, below}
use Rattle.chart.specs.declared.parts.Attribute.{Attribute}
use Rattle.chart.specs.declared.parts.Link.{Link}
use Rattle.chart.specs.declared.parts.Grade.{Grade}
use Rattle.chart.specs.declared.parts.Grade.TheVariants.{Public}
use Rattle.chart.specs.Layout.{Layout, server_known}

-- the server of a relation; none where the relation is not known
abbrev pub server_of : Layout → ℕ → Option ℕ
server_of l r = slice_get l.homes r

-- how many bytes wide an attribute is; 0 where it is not known
abbrev pub width_of : Layout → ℕ → ℕ
width_of l a = unwrap_or (option_map (λ (x : Attribute). x.width) (slice_get l.attributes a)) 0

-- the two ends of a link, each as the set of its attributes, as declared; none where the link is not known
abbrev pub ends : Link → SmallSet × SmallSet
ends x = (single x.left, single x.right)

abbrev pub ends_of : Layout → ℕ → Option (SmallSet × SmallSet)
ends_of l k = option_map ends (slice_get l.links k)

-- the places, counted from `from`, of the elements that pass
abbrev pub places : {X : Type 0} → (X → Bool) → ℕ → List X → SmallSet
places p from [] = none
places p from (x ∷ xs) = cond (p x) (union (single from) (places p (from + 1) xs)) (places p (from + 1) xs)

-- the attributes of a relation; none of them where it is not known
abbrev pub attributes_of : Layout → ℕ → SmallSet
attributes_of l r = places (λ x. nat_eq x.relation r) 0 l.attributes

-- whether every attribute of a set is known; whether every link is
abbrev pub attributes_known : Layout → SmallSet → Bool
attributes_known l s = subset s (below (length l.attributes))

abbrev pub links_known : Layout → SmallSet → Bool
links_known l s = subset s (below (length l.links))

-- where the grade of the line between two servers stands: the same place both ways
abbrev pub line_place : ℕ → ℕ → ℕ
line_place a b = min a b * 16 + max a b

-- whether the line between x and y is that between a and b
abbrev pub same_line : ℕ → ℕ → ℕ → ℕ → Bool
same_line a b x y = (x == a && y == b) || (x == b && y == a)

-- whether a and b are two different known servers
abbrev pub line_known : Layout → ℕ → ℕ → Bool
line_known l a b = (server_known l a && server_known l b) && not (a == b)

-- the grade of a line; public where there is no such line
abbrev pub grade_of : Layout → ℕ → ℕ → Grade
grade_of l a b = cond (line_known l a b) (slice_index_or l.grades (line_place a b) Public) Public
