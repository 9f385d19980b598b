-- The choice of an executor for a whole query, and the lowest node that has none.
use Rattle.std.specs.Prelude.{ℕ, zero, suc, ◌+◌, Bool, true, cond, not, ◌&&◌, is_some, Option}
use Rattle.assignments.specs.declared.parts.Place.{Place}
use Rattle.assignments.specs.Table.{seated}
use Rattle.search.specs.declared.root.Seat.{Seat}

abbrev pub seat : {P : Type 0} → ℕ → P → Seat P
seat s x = record { server = s; price = x }

-- a place of the root as a seat
abbrev pub seat_of : {P : Type 0} → ℕ → Option (Place P) → Option (Seat P)
seat_of s o = seated seat s o

-- whether each of the first n places is empty
unfoldable pub empty_row : {P : Type 0} → (ℕ → Option (Place P)) → ℕ → Bool
empty_row f zero = true
empty_row f (suc n) = empty_row f n && not (is_some (f n))

-- the first of n numbers from k on that passes; the next number where none does
unfoldable pub first_of : (ℕ → Bool) → ℕ → ℕ → ℕ
first_of p k zero = k
first_of p k (suc n) = cond (p k) k (first_of p (k + 1) n)
