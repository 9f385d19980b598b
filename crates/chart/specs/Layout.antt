-- What a chart declares, as lists in the order of declaration: a thing's number is its place in its list.
use Rattle.std.specs.Prelude.{ℕ, Bool, false, not, ◌&&◌, List, take, Some, None, Option, ◌==◌, nat_lt}
use Rattle.std.specs.Option.{option_map}
use Rattle.std.specs.List.{slice_get}
use Rattle.chart.specs.declared.parts.Attribute.{Attribute}
use Rattle.chart.specs.declared.parts.Link.{Link}
use Rattle.chart.specs.declared.parts.Grade.{Grade}

pub record Layout : Type 0 where
  -- how many servers there are, numbered from 0
  pub servers : ℕ
  -- the server of each relation
  pub homes : List ℕ
  pub attributes : List Attribute
  pub links : List Link
  -- the grade of the line between two servers, at `line_place` of the two
  pub grades : List Grade

-- the layout of arrays of which the first places count
abbrev pub laid : ℕ → ℕ → List ℕ → ℕ → List Attribute → ℕ → List Link → List Grade → Layout
laid servers relations homes attributes columns joined links grades = record {
  servers = servers;
  homes = take relations homes;
  attributes = take attributes columns;
  links = take joined links;
  grades = grades;
}

abbrev pub server_known : Layout → ℕ → Bool
server_known l s = nat_lt s l.servers

-- the relation of an attribute; none where the attribute is not known
abbrev pub relation_in : List Attribute → ℕ → Option ℕ
relation_in xs a = option_map (λ (x : Attribute). x.relation) (slice_get xs a)

abbrev pub relation_of : Layout → ℕ → Option ℕ
relation_of l a = relation_in l.attributes a

-- whether both are there and not the same
abbrev pub differ : Option ℕ → Option ℕ → Bool
differ None o = false
differ (Some r) None = false
differ (Some r) (Some s) = not (r == s)

-- whether a and b are known attributes of different relations
abbrev pub crosses : List Attribute → ℕ → ℕ → Bool
crosses xs a b = differ (relation_in xs a) (relation_in xs b)

-- whether an attribute belongs to one of the first n relations and is at least a byte wide
abbrev pub proper : ℕ → Attribute → Bool
proper n x = nat_lt x.relation n && nat_lt 0 x.width
