-- The first of the cheapest of some offers, each of which may be empty.
use Rattle.std.specs.Prelude.{ℕ, zero, suc, Bool, cond, Some, None, Option}

module _ {X P : Type 0} (leq : P → P → Bool) (key : X → P) where
  -- the first, unless the second is strictly cheaper
  abbrev pub better : Option X → Option X → Option X
  better None y = y
  better (Some x) None = Some x
  better (Some x) (Some y) = cond (leq (key x) (key y)) (Some x) (Some y)

  -- of f 0, f 1, .. f (n - 1)
  unfoldable pub cheapest : (ℕ → Option X) → ℕ → Option X
  cheapest f zero = None
  cheapest f (suc n) = better (cheapest f n) (f n)
