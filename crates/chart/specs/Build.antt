-- What a chart answers when it is made or extended, and what it then holds.
use Rattle.std.specs.Prelude.{ℕ, ◌+◌, Bool, not, ◌&&◌, ◌||◌, ltb, List, [], ◌∷◌, ◌++◌, map, length, replicate, Ok, Err, Result, ◌==◌, nat_le, nat_lt, slice_set}
use Rattle.std.specs.List.{list_all, list_any}
use Rattle.chart.specs.declared.parts.Attribute.{Attribute}
use Rattle.chart.specs.declared.parts.Link.{Link}
use Rattle.chart.specs.declared.parts.Grade.{Grade}
use Rattle.chart.specs.declared.parts.Grade.TheVariants.{Public}
use Rattle.chart.specs.declared.refusal.ChartRefusal.{ChartRefusal}
use Rattle.chart.specs.declared.refusal.ChartRefusal.TheVariants.{Servers, Home, Widths, Limits, Ends, LinkLimit, LinkRepeated, Line}
use Rattle.chart.specs.declared.state.Chart.{Chart}
use Rattle.chart.specs.Questions.{asked}
use Rattle.chart.specs.Layout.{Layout, server_known, crosses}
use Rattle.chart.specs.Lookup.{line_place, line_known}
use Rattle.chart.specs.Charts.{layout}

-- what is held after a call: something new where it was accepted, and the old where it was refused
abbrev pub settled : {T : Type 0} → Result T ChartRefusal → Layout → Layout → Layout
settled (Ok t) old new = new
settled (Err e) old new = old

-- servers alone, with public lines
unfoldable pub bare : ℕ → Layout
bare servers = record { servers = servers; homes = []; attributes = []; links = []; grades = replicate 256 Public }

-- 1 to 16 servers; else refused (10)
abbrev pub new_answer : ℕ → Result Layout ChartRefusal
new_answer servers = asked (
    (nat_lt 0 servers && nat_le servers 16, Servers) ∷ []) (bare servers)

-- a new chart by its layout
abbrev pub laid_out : Result Chart ChartRefusal → Result Layout ChartRefusal
laid_out (Ok c) = Ok (layout c)
laid_out (Err e) = Err e

-- the attributes of a relation, by their widths
abbrev pub columns : ℕ → List ℕ → List Attribute
columns relation widths = map (λ w. record { relation = relation; width = w }) widths

-- one more relation
abbrev pub with_relation : Layout → ℕ → List ℕ → Layout
with_relation l server widths = record {
  servers = l.servers;
  homes = l.homes ++ server ∷ [];
  attributes = l.attributes ++ columns (length l.homes) widths;
  links = l.links;
  grades = l.grades;
}

-- at least one width, and none 0
abbrev pub widths_proper : List ℕ → Bool
widths_proper widths = nat_lt 0 (length widths) && list_all (λ w. ltb 0 w) widths

-- at most 32 relations and 64 attributes with this one
abbrev pub room_for : Layout → List ℕ → Bool
room_for l widths = nat_lt (length l.homes) 32 && nat_le (length l.attributes + length widths) 64

-- the number of the new relation, or the first refusal of 11 to 13
abbrev pub relation_answer : Layout → ℕ → List ℕ → Result ℕ ChartRefusal
relation_answer l server widths = asked (
    (server_known l server, Home) ∷
    (widths_proper widths, Widths) ∷
    (room_for l widths, Limits) ∷ []) (length l.homes)

-- one more link
abbrev pub with_link : Layout → ℕ → ℕ → Layout
with_link l a b = record {
  servers = l.servers;
  homes = l.homes;
  attributes = l.attributes;
  links = l.links ++ (record { left = a; right = b }) ∷ [];
  grades = l.grades;
}

-- whether a link is between a and b, either way round
abbrev pub joins : ℕ → ℕ → Link → Bool
joins a b x = (x.left == a && x.right == b) || (x.left == b && x.right == a)

-- the number of the new link, or the first refusal of 14 to 16
abbrev pub link_answer : Layout → ℕ → ℕ → Result ℕ ChartRefusal
link_answer l a b = asked (
    (crosses l.attributes a b, Ends) ∷
    (nat_lt (length l.links) 64, LinkLimit) ∷
    (not (list_any (joins a b) l.links), LinkRepeated) ∷ []) (length l.links)

-- another grade for one line
abbrev pub with_grade : Layout → ℕ → ℕ → Grade → Layout
with_grade l a b g = record {
  servers = l.servers;
  homes = l.homes;
  attributes = l.attributes;
  links = l.links;
  grades = slice_set l.grades (line_place a b) g;
}

-- accepted for two different known servers; else refused (17)
abbrev pub grade_answer : Layout → ℕ → ℕ → Result (Unit {0}) ChartRefusal
grade_answer l a b = asked ((line_known l a b, Line) ∷ []) tt
