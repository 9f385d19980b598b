-- The table: for each tree and server a place, which is empty or holds the least price of the tree's safe assignments with
-- that executor, with the mode and the other operand's server.
use Rattle.std.specs.Prelude.{ℕ, Bool, true, false, cond, ◌&&◌, Some, None, Option, ◌==◌}
use Rattle.chart.specs.Layout.{Layout}
use Rattle.chart.specs.Lookup.{server_of}
use Rattle.profile.specs.declared.shape.Profile.{Profile}
use Rattle.profile.specs.declared.join.Join.{Join}
use Rattle.tariff.specs.Pricing.{Pricing}
use Rattle.queries.specs.Trees.{Tree, leaf, projection, filtering, join, has_node, pair_of}
use Rattle.assignments.specs.declared.mode.Mode.{Mode}
use Rattle.assignments.specs.declared.mode.Mode.TheVariants.{Local}
use Rattle.assignments.specs.declared.parts.Place.{Place}
use Rattle.assignments.specs.Modes.{mode_at, fits, left_at, right_at, releases, allowed}
use Rattle.assignments.specs.Assignments.{Steps, step, own_price}
use Rattle.assignments.specs.Cheapest.{cheapest}

abbrev pub holding : {P : Type 0} → P → Mode → ℕ → Place P
holding x m u = record { price = x; mode = m; other = u }

-- What two operand places give, if the option is open: their prices joined, and that joined with the join's own. An option
-- whose operand place is empty is passed over.
abbrev pub weighed : {P : Type 0} → Pricing P → Bool → Mode → ℕ → P → Option (Place P) → Option (Place P) → Option (Place P)
weighed c false m u own x y = None
weighed c true m u own None y = None
weighed c true m u own (Some x) None = None
weighed c true m u own (Some x) (Some y) = Some (holding (c.sum (c.sum x.price y.price) own) m u)

-- a place of an operand, kept by a projection or a filter
abbrev pub kept : {P : Type 0} → ℕ → Option (Place P) → Option (Place P)
kept s None = None
kept s (Some x) = Some (holding x.price Local s)

abbrev pub same_server : Option ℕ → ℕ → Bool
same_server None s = false
same_server (Some h) s = h == s

module _ {P : Type 0} (c : Pricing P) (may : ℕ → Profile → Bool) (n : ℕ) where
  -- The option of a mode, with the other operand at u, for the master s: L and R are the operands' places by server.
  abbrev pub offer : Join → (ℕ → Option (Place P)) → (ℕ → Option (Place P)) → ℕ → Mode → ℕ → Option (Place P)
  offer j L R s m u =
      let sent = releases j m (left_at m s u) (right_at m s u) in
      weighed c (fits m s u && allowed may sent) m u (own_price c sent) (L (left_at m s u)) (R (right_at m s u))

  -- the first of the cheapest options of a mode, by the other operand's server
  abbrev pub best_of_mode : Join → (ℕ → Option (Place P)) → (ℕ → Option (Place P)) → ℕ → Mode → Option (Place P)
  best_of_mode j L R s m = cheapest c.leq (λ p. p.price) (offer j L R s m) n

  -- the first of the cheapest options, by mode and then by the other operand's server
  abbrev pub best : Join → (ℕ → Option (Place P)) → (ℕ → Option (Place P)) → ℕ → Option (Place P)
  best j L R s = cheapest c.leq (λ p. p.price) (λ m. best_of_mode j L R s (mode_at m)) 5

  -- the place of a tree at a server
  abbrev pub place : Layout → Tree → ℕ → Option (Place P)
  place l (leaf i r) s = cond (same_server (server_of l r) s) (Some (holding c.free Local s)) None
  place l (projection i a t) s = kept s (place l t s)
  place l (filtering i a t) s = kept s (place l t s)
  place l (join i k a b) s = best (pair_of l k a b) (place l a) (place l b) s

-- a place of a whole tree, in a form of the caller's: its server and its price
abbrev pub seated : {P X : Type 0} → (ℕ → P → X) → ℕ → Option (Place P) → Option X
seated seat s None = None
seated seat s (Some p) = Some (seat s p.price)

-- the first of the cheapest servers for a whole tree
abbrev pub chosen : {P X : Type 0} → Pricing P → (ℕ → Profile → Bool) → ℕ → (ℕ → P → X) → (X → P) → Layout → Tree → Option X
chosen c may n seat key l t = cheapest c.leq key (λ s. seated seat s (place c may n l t s)) n

-- where the operands go by a place at s
abbrev pub left_by : {P : Type 0} → ℕ → Option (Place P) → ℕ
left_by s None = s
left_by s (Some p) = left_at p.mode s p.other

abbrev pub right_by : {P : Type 0} → ℕ → Option (Place P) → ℕ
right_by s None = s
right_by s (Some p) = right_at p.mode s p.other

abbrev pub mode_by : {P : Type 0} → Option (Place P) → Mode
mode_by None = Local
mode_by (Some p) = p.mode

-- The assignment that the table records for a tree with the executor s: from the root down, each node goes where the place
-- of its user says.
abbrev pub recorded : {P : Type 0} → Pricing P → (ℕ → Profile → Bool) → ℕ → Layout → Tree → ℕ → Steps
recorded c may n l (leaf i r) s k = step s Local
recorded c may n l (projection i a t) s k = cond (k == i) (step s Local) (recorded c may n l t s k)
recorded c may n l (filtering i a t) s k = cond (k == i) (step s Local) (recorded c may n l t s k)
recorded c may n l (join i x a b) s k =
    cond (k == i) (step s (mode_by (place c may n l (join i x a b) s)))
    (cond (has_node a k) (recorded c may n l a (left_by s (place c may n l (join i x a b) s)) k)
    (recorded c may n l b (right_by s (place c may n l (join i x a b) s)) k))
