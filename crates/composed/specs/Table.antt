-- What a table of members lists.
use Rattle.std.specs.Prelude.{◌≡◌, ◌<◌, List, length, take, Option, MatchOption}
use Rattle.chart.specs.Layout.{Layout}
use Rattle.rules.specs.declared.view.View.{View}
use Rattle.members.specs.Members.{members}
use Rattle.members.specs.Table.{Holds}
use Rattle.composed.specs.declared.table.MemberTable.{MemberTable}

abbrev pub listed : MemberTable → List View
listed t = take t.count t.places

-- the table lists these views, or they are too many for it
abbrev pub Fills : Option (Unit {0}) → MemberTable → List View → Type 0
Fills r t views = MatchOption r (256 < length views) (λ u. listed t ≡ views)

-- the table has the members of these views, each once, or there are too many of them for it
abbrev pub Gathers : Layout → List View → Option (Unit {0}) → MemberTable → Type 0
Gathers l given r t = MatchOption r (256 < length (members l given)) (λ u. Holds l given t.places t.count)
