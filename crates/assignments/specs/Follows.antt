-- Assignments that follow the table.
use Rattle.std.specs.Prelude.{◌≡◌, ℕ, Bool, Some}
use Rattle.chart.specs.Layout.{Layout}
use Rattle.profile.specs.declared.shape.Profile.{Profile}
use Rattle.tariff.specs.Pricing.{Pricing}
use Rattle.queries.specs.Trees.{Tree, leaf, projection, filtering, join, top}
use Rattle.assignments.specs.declared.parts.Place.{Place}
use Rattle.assignments.specs.Modes.{left_at, right_at}
use Rattle.assignments.specs.Assignments.{Steps, executor}
use Rattle.assignments.specs.Table.{place}

module _ {P : Type 0} (l : Layout) (c : Pricing P) (may : ℕ → Profile → Bool) (e : Steps) where
  -- the root's place at its executor holds p, and the root has the mode of p
  pub record Holds (t : Tree) (p : Place P) : Type 0 where
    pub held : place c may l.servers l t (executor e t) ≡ Some p
    pub by_mode : (e (top t)).mode ≡ p.mode

  -- each node of the tree has the mode of its place, and its operands are where that place says
  abbrev pub Follows : Tree → Type 0
  Follows (leaf i r) = (p : Place P) × Holds (leaf i r) p
  Follows (projection i s t) = (p : Place P) × Holds (projection i s t) p × (executor e t ≡ (e i).executor) × Follows t
  Follows (filtering i s t) = (p : Place P) × Holds (filtering i s t) p × (executor e t ≡ (e i).executor) × Follows t
  Follows (join i k a b) =
      (p : Place P) × Holds (join i k a b) p
      × (executor e a ≡ left_at p.mode (e i).executor p.other) × (executor e b ≡ right_at p.mode (e i).executor p.other)
      × Follows a × Follows b
