-- What a place of the table says of the assignments of its tree.
use Rattle.std.specs.Prelude.{◌≡◌, ℕ, ◌<◌, Bool, true, false, ◌⊎◌, Some, None, Option}
use Rattle.chart.specs.Layout.{Layout}
use Rattle.profile.specs.declared.shape.Profile.{Profile}
use Rattle.tariff.specs.Pricing.{Pricing}
use Rattle.queries.specs.Trees.{Tree, leaf, projection, filtering, join, top, has_node}
use Rattle.assignments.specs.declared.mode.Mode.{Mode}
use Rattle.assignments.specs.declared.parts.Place.{Place}
use Rattle.assignments.specs.Modes.{mode_number}
use Rattle.assignments.specs.Assignments.{Steps, Way, cost, other}

-- no two nodes of the tree have one number
abbrev pub Distinct : Tree → Type 0
Distinct (leaf i r) = Unit {0}
Distinct (projection i s t) = (has_node t i ≡ false) × Distinct t
Distinct (filtering i s t) = (has_node t i ≡ false) × Distinct t
Distinct (join i k a b) =
    (has_node a i ≡ false) × (has_node b i ≡ false) × ((n : ℕ) → has_node a n ≡ true → has_node b n ≡ false) × Distinct a × Distinct b

-- an option comes before another: by mode, then by the other operand's server
abbrev pub Before : Mode → ℕ → Mode → ℕ → Type 0
Before m u m' u' = (mode_number m < mode_number m') ⊎ ((m ≡ m') × (u < u'))

module _ {P : Type 0} (l : Layout) (c : Pricing P) (may : ℕ → Profile → Bool) (t : Tree) (s : ℕ) where
  -- The place is reached by a safe assignment at just its price, with its mode and other server at the root; no safe
  -- assignment with that executor is cheaper; and any whose option at the root comes earlier is dearer.
  pub record Least (p : Place P) : Type 0 where
    pub reached : (e : Steps) × Way l may t s e × (cost l c e t ≡ p.price) × ((e (top t)).mode ≡ p.mode) × (other e t ≡ p.other)
    pub least : (e : Steps) → Way l may t s e → c.leq p.price (cost l c e t) ≡ true
    pub first : (e : Steps) → Way l may t s e → Before (e (top t)).mode (other e t) p.mode p.other → c.leq (cost l c e t) p.price ≡ false

  -- an empty place: no safe assignment of the tree has this executor
  abbrev pub Stands : Option (Place P) → Type 0
  Stands None = (e : Steps) → Way l may t s e → ⊥
  Stands (Some p) = Least p
