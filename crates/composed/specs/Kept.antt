-- What a composed book keeps: 64 slots and 256 places, rules that are apart and well formed, and their members in the table.
use Rattle.std.specs.Prelude.{◌≡◌, ℕ, ◌≤◌, true, List, length, take, Option}
use Rattle.std.specs.List.{list_all}
use Rattle.chart.specs.Layout.{Layout}
use Rattle.rules.specs.declared.view.View.{View}
use Rattle.rules.specs.declared.rule.Rule.{Rule}
use Rattle.rules.specs.Rules.{well_formed}
use Rattle.members.specs.Members.{among}
use Rattle.policy.specs.Books.{apart}
use Rattle.books.specs.Slots.{held}
use Rattle.composed.specs.Composed.{composed_members}

pub record Kept (l : Layout) (slots : List (Option Rule)) (table : List View) (count : ℕ) : Type 0 where
  pub sized : length slots ≡ 64
  pub wide : length table ≡ 256
  pub distinct : apart (held slots) ≡ true
  pub formed : list_all (well_formed l) (held slots) ≡ true
  pub counted : count ≤ 256
  pub few : length (composed_members l (held slots)) ≤ 256
  pub just : (v : View) → among v (take count table) ≡ among v (composed_members l (held slots))
