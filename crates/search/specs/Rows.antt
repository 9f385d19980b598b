-- The work table as a list of places, and its rows.
use Rattle.std.specs.Prelude.{◌≡◌, ℕ, ◌+◌, ◌*◌, ◌<◌, ◌≤◌, Bool, cond, List, length, Some, None, Option, slice_index_or}
use Rattle.chart.specs.Layout.{Layout}
use Rattle.chart.specs.Lookup.{server_of}
use Rattle.profile.specs.declared.shape.Profile.{Profile}
use Rattle.tariff.specs.Pricing.{Pricing}
use Rattle.queries.specs.declared.node.Node.{Node}
use Rattle.queries.specs.declared.node.Node.TheVariants.{Leaf, Project, Filter, Join}
use Rattle.queries.specs.Trees.{between}
use Rattle.queries.specs.Flat.{tree_of}
use Rattle.assignments.specs.declared.mode.Mode.TheVariants.{Local}
use Rattle.assignments.specs.declared.parts.Place.{Place}
use Rattle.assignments.specs.Table.{holding, kept, same_server, best, place}

-- the place of a node and a server, of n servers
abbrev pub place_at : {P : Type 0} → List (Option (Place P)) → ℕ → ℕ → ℕ → Option (Place P)
place_at places n node s = slice_index_or places (node * n + s) None

-- The first m places of a node's row are those of f; all places outside the row are as before.
pub record Row {P : Type 0} (n node m : ℕ) (f : ℕ → Option (Place P)) (old new : List (Option (Place P))) : Type 0 where
  pub sized : length new ≡ length old
  pub row : (s : ℕ) → s < m → place_at new n node s ≡ f s
  pub before : (k : ℕ) → k < node * n → slice_index_or new k None ≡ slice_index_or old k None
  pub after : (k : ℕ) → node * n + n ≤ k → slice_index_or new k None ≡ slice_index_or old k None

-- a leaf costs nothing at its relation's server, and is nowhere else
abbrev pub leaf_place : {P : Type 0} → Pricing P → Option ℕ → ℕ → Option (Place P)
leaf_place c home s = cond (same_server home s) (Some (holding c.free Local s)) None

-- a node's place at s, from its operands' profiles f and places T
abbrev pub place_from : {P : Type 0} → Pricing P → (ℕ → Profile → Bool) → ℕ → Layout → (ℕ → Profile) → Node → (ℕ → ℕ → Option (Place P)) → ℕ → Option (Place P)
place_from c may n l f (Leaf r) T s = leaf_place c (server_of l r) s
place_from c may n l f (Project j a) T s = kept s (T j s)
place_from c may n l f (Filter j a) T s = kept s (T j s)
place_from c may n l f (Join a b k) T s = best c may n (between l (f a) (f b) k) (T a) (T b) s

-- The rows of the first m nodes hold the places of their subtrees; all places behind them are as before.
pub record Filled {P : Type 0} (c : Pricing P) (may : ℕ → Profile → Bool) (l : Layout) (nodes : List Node) (m : ℕ) (old new : List (Option (Place P))) : Type 0 where
  pub sized : length new ≡ length old
  pub rows : (k s : ℕ) → k < m → s < l.servers → place_at new l.servers k s ≡ place c may l.servers l (tree_of nodes k) s
  pub later : (k : ℕ) → m * l.servers ≤ k → slice_index_or new k None ≡ slice_index_or old k None
