-- Assignments. An assignment gives each node of a tree, by its number, an executor and a mode. It mentions no policy, no
-- price and no table.
use Rattle.std.specs.Prelude.{◌≡◌, ℕ, Bool, true, List, [], ◌∷◌, Some}
use Rattle.chart.specs.Layout.{Layout}
use Rattle.chart.specs.Lookup.{server_of}
use Rattle.profile.specs.declared.shape.Profile.{Profile}
use Rattle.tariff.specs.Pricing.{Pricing}
use Rattle.queries.specs.Trees.{Tree, leaf, projection, filtering, join, top, pair_of}
use Rattle.assignments.specs.declared.mode.Mode.{Mode}
use Rattle.assignments.specs.declared.mode.Mode.TheVariants.{Local}
use Rattle.assignments.specs.declared.parts.Step.{Step}
use Rattle.assignments.specs.declared.parts.Release.{Release}
use Rattle.assignments.specs.Modes.{Joins, other_of, releases, allowed}

-- an executor and a mode for each node number
abbrev pub Steps : Type 0
Steps = ℕ → Step

abbrev pub step : ℕ → Mode → Step
step s m = record { executor = s; mode = m }

-- the executor of a tree's root
abbrev pub executor : Steps → Tree → ℕ
executor e t = (e (top t)).executor

-- The rules of an assignment: a leaf's executor is its relation's server; a projection's or a filter's is its operand's; a
-- join's is its master, by the rule of its mode. Off joins the mode is `Local`.
abbrev pub Obeys : Layout → Steps → Tree → Type 0
Obeys l e (leaf i r) = (server_of l r ≡ Some (e i).executor) × ((e i).mode ≡ Local)
Obeys l e (projection i s t) = ((e i).executor ≡ executor e t) × ((e i).mode ≡ Local) × Obeys l e t
Obeys l e (filtering i s t) = ((e i).executor ≡ executor e t) × ((e i).mode ≡ Local) × Obeys l e t
Obeys l e (join i k a b) = Joins (e i).mode (e i).executor (executor e a) (executor e b) × Obeys l e a × Obeys l e b

-- what a join releases under an assignment
abbrev pub own_releases : Layout → Steps → ℕ → ℕ → Tree → Tree → List Release
own_releases l e i k a b = releases (pair_of l k a b) (e i).mode (executor e a) (executor e b)

-- An assignment is safe when each receiver may see the profile sent to it.
abbrev pub Safe : Layout → (ℕ → Profile → Bool) → Steps → Tree → Type 0
Safe l may e (leaf i r) = Unit {0}
Safe l may e (projection i s t) = Safe l may e t
Safe l may e (filtering i s t) = Safe l may e t
Safe l may e (join i k a b) = Safe l may e a × Safe l may e b × (allowed may (own_releases l e i k a b) ≡ true)

-- a join's own price: nothing, one release's, or the first joined with the second
abbrev pub added : {P : Type 0} → Pricing P → P → List Release → P
added c x [] = x
added c x (r ∷ rs) = added c (c.sum x (c.release r.sender r.receiver r.profile)) rs

abbrev pub own_price : {P : Type 0} → Pricing P → List Release → P
own_price c [] = c.free
own_price c (r ∷ rs) = added c (c.release r.sender r.receiver r.profile) rs

-- A leaf costs nothing, a projection or a filter what its operand costs, and a join left joined with right, and that
-- joined with its own price.
abbrev pub cost : {P : Type 0} → Layout → Pricing P → Steps → Tree → P
cost l c e (leaf i r) = c.free
cost l c e (projection i s t) = cost l c e t
cost l c e (filtering i s t) = cost l c e t
cost l c e (join i k a b) = c.sum (c.sum (cost l c e a) (cost l c e b)) (own_price c (own_releases l e i k a b))

-- the server of the other operand at the root: itself off joins and in mode `Local`
abbrev pub other : Steps → Tree → ℕ
other e (leaf i r) = (e i).executor
other e (projection i s t) = (e i).executor
other e (filtering i s t) = (e i).executor
other e (join i k a b) = other_of (e i).mode (executor e a) (executor e b)

-- an assignment of the tree with this executor, by the rules, that is safe
pub record Way (l : Layout) (may : ℕ → Profile → Bool) (t : Tree) (s : ℕ) (e : Steps) : Type 0 where
  pub obeys : Obeys l e t
  pub at : executor e t ≡ s
  pub safe : Safe l may e t
