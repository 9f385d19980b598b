-- The bits of a number, and the numbers that pass a test, in rising order.
use Rattle.std.specs.Prelude.{ℕ, zero, suc, ◌+◌, ◌/◌, ◌%◌, ◌^◌, Bool, cond, List, [], ◌∷◌, ◌==◌}

-- bit i of a number
abbrev pub bit : ℕ → ℕ → Bool
bit n i = n / 2 ^ i % 2 == 1

-- of the n numbers that begin with `from`, those that pass the test, in rising order
unfoldable pub rising : (ℕ → Bool) → ℕ → ℕ → List ℕ
rising p from zero = []
rising p from (suc n) = cond (p from) (from ∷ rising p (from + 1) n) (rising p (from + 1) n)
