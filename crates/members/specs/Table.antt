-- What a table of 256 places holds at its front.
use Rattle.std.specs.Prelude.{◌≡◌, ℕ, ◌≤◌, true, List, length, take}
use Rattle.sets.specs.Sets.{none}
use Rattle.chart.specs.Layout.{Layout}
use Rattle.rules.specs.declared.view.View.{View}
use Rattle.members.specs.Compose.{composes, composition}
use Rattle.members.specs.Members.{among, Distinct, Member, members}

abbrev pub no_view : View
no_view = record { server = 0; attributes = none; path = none }

-- the first n places are the members, each once
pub record Holds (l : Layout) (given table : List View) (n : ℕ) : Type 0 where
  pub fits : n ≤ 256
  pub all : n ≡ length (members l given)
  pub distinct : Distinct (take n table)
  pub just : (y : View) → among y (take n table) ≡ among y (members l given)

-- a list of members that has the given views, and of which the first i have been composed with one another
pub record Growing (l : Layout) (given xs : List View) (i : ℕ) : Type 0 where
  pub distinct : Distinct xs
  pub sound : (y : View) → among y xs ≡ true → Member l given y
  pub start : (y : View) → among y given ≡ true → among y xs ≡ true
  pub closed : (a b : View) (k : ℕ) → among a (take i xs) ≡ true → among b (take i xs) ≡ true → composes l a b k ≡ true → among (composition a b k) xs ≡ true
