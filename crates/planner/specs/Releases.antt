-- The releases that a plan entails and its safety are one.
use Rattle.std.specs.Prelude.{◌≡◌, ℕ, ◌-◌, Bool, true, List, length}
use Rattle.chart.specs.Layout.{Layout}
use Rattle.profile.specs.declared.shape.Profile.{Profile}
use Rattle.queries.specs.declared.node.Node.{Node}
use Rattle.queries.specs.Flat.{tree_of}
use Rattle.queries.specs.Sound.{Sound}
use Rattle.assignments.specs.Modes.{allowed}
use Rattle.assignments.specs.Assignments.{Steps, Safe}
use Rattle.planner.specs.Plans.{entailed}

pub record ReleaseLaws (l : Layout) : Type 0 where
  -- each receiver may see all that a safe plan releases to it
  pub listed_allowed : (nodes : List Node) → Sound l nodes → (may : ℕ → Profile → Bool) (e : Steps)
      → Safe l may e (tree_of nodes (length nodes - 1)) → allowed may (entailed l nodes e (length nodes)) ≡ true
  -- and where each may, the plan is safe
  pub allowed_listed : (nodes : List Node) → Sound l nodes → (may : ℕ → Profile → Bool) (e : Steps)
      → allowed may (entailed l nodes e (length nodes)) ≡ true → Safe l may e (tree_of nodes (length nodes - 1))
