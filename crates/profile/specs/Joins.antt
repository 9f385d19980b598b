-- Profiles of joins, and of what their operands send one another.
use Rattle.std.specs.Prelude.{ℕ, cond, ◌&&◌, Some, None, Option}
use Rattle.std.specs.Option.{option_map}
use Rattle.sets.specs.declared.small_set.SmallSet.{SmallSet}
use Rattle.sets.specs.Sets.{single, union, subset}
use Rattle.chart.specs.Layout.{Layout}
use Rattle.chart.specs.Lookup.{ends_of}
use Rattle.profile.specs.declared.shape.Profile.{Profile}
use Rattle.profile.specs.declared.join.Join.{Join}
use Rattle.profile.specs.declared.join.Side.{Side}
use Rattle.profile.specs.declared.join.Side.TheVariants.{Left, Right}

-- The two ends in the order left, right: as declared if the left operand shows the first and the right operand the
-- second, else the other way round if that fits. None where neither does.
abbrev pub turned : SmallSet × SmallSet → SmallSet → SmallSet → Option (SmallSet × SmallSet)
turned e left right =
    cond (subset e.0 left && subset e.1 right) (Some (e.0, e.1))
    (cond (subset e.1 left && subset e.0 right) (Some (e.1, e.0)) None)

-- the same for the link of a known number
abbrev pub turned_if : Option (SmallSet × SmallSet) → SmallSet → SmallSet → Option (SmallSet × SmallSet)
turned_if None left right = None
turned_if (Some e) left right = turned e left right

abbrev pub orient_answer : Layout → SmallSet → SmallSet → ℕ → Option (SmallSet × SmallSet)
orient_answer l left right link = turned_if (ends_of l link) left right

abbrev pub join_answer : Layout → Profile → Profile → ℕ → Option Join
join_answer l p q link =
    option_map (λ (e : SmallSet × SmallSet). record { left = p; right = q; link = single link; left_end = e.0; right_end = e.1 })
    (orient_answer l p.shown q.shown link)

-- one of the two operands, whole
abbrev pub operand : Join → Side → Profile
operand j Left = j.left
operand j Right = j.right

-- a join unites each of the three and adds its link to the path
abbrev pub joined : Join → Profile
joined j = record {
  shown = union j.left.shown j.right.shown;
  path = union (union j.left.path j.right.path) j.link;
  filtered = union j.left.filtered j.right.filtered;
}

-- the join column of the master: its end, with its path and its filtered
abbrev pub column : Join → Side → Profile
column j Left = record { shown = j.left_end; path = j.left.path; filtered = j.left.filtered }
column j Right = record { shown = j.right_end; path = j.right.path; filtered = j.right.filtered }

-- the answer to it: the master's end and what the other shows, both paths and the link, both filtered
abbrev pub reply : Join → Side → Profile
reply j Left = record { shown = union j.left_end j.right.shown; path = (joined j).path; filtered = (joined j).filtered }
reply j Right = record { shown = union j.right_end j.left.shown; path = (joined j).path; filtered = (joined j).filtered }
