-- What is shown of the list of members, on every chart.
use Rattle.std.specs.Prelude.{◌≡◌, ◌≤◌, true, List, [], ◌∷◌, length, Decides}
use Rattle.sets.specs.declared.small_set.SmallSet.{SmallSet}
use Rattle.sets.specs.Sets.{none, union, subset}
use Rattle.chart.specs.declared.state.Chart.{Chart}
use Rattle.chart.specs.Charts.{layout}
use Rattle.rules.specs.declared.view.View.{View}
use Rattle.members.specs.Members.{same_view, among, Distinct, Member, members}

-- every view of one list is in the other
abbrev pub Within : List View → List View → Type 0
Within vs ws = (v : View) → among v vs ≡ true → among v ws ≡ true

-- all attributes of a list of views
abbrev pub all_attributes : List View → SmallSet
all_attributes [] = none
all_attributes (v ∷ vs) = union v.attributes (all_attributes vs)

pub record Laws : Type 0 where
  pub same_means : (v w : View) → Decides (same_view v w) (v ≡ w)
  -- the list has the members and no other view, each once
  pub exact : (c : Chart) (given : List View) (v : View) → Decides (among v (members (layout c) given)) (Member (layout c) given v)
  pub distinct : (c : Chart) (given : List View) → Distinct (members (layout c) given)
  -- with more views there are no fewer members
  pub more : (c : Chart) (given wider : List View) → Within given wider → Within (members (layout c) given) (members (layout c) wider)
  pub fewer : (c : Chart) (given wider : List View) → Within given wider → length (members (layout c) given) ≤ length (members (layout c) wider)
  -- neither order nor repeats matter
  pub alike : (c : Chart) (given other : List View) → Within given other → Within other given → (v : View) → among v (members (layout c) given) ≡ among v (members (layout c) other)
  pub as_many : (c : Chart) (given other : List View) → Within given other → Within other given → length (members (layout c) given) ≡ length (members (layout c) other)
  -- a view alone composes with nothing
  pub lone : (c : Chart) (v : View) → members (layout c) (v ∷ []) ≡ v ∷ []
  -- no member has an attribute that no given view has
  pub covered : (c : Chart) (given : List View) (v : View) → Member (layout c) given v → subset v.attributes (all_attributes given) ≡ true
