-- The two ways to tell a join's mode agree: by its operands' executors, and by the master and the other operand's server.
use Rattle.std.specs.Prelude.{◌≡◌, ℕ, ◌<◌, true}
use Rattle.assignments.specs.declared.mode.Mode.{Mode}
use Rattle.assignments.specs.Modes.{mode_number, mode_at, Joins, other_of, fits, left_at, right_at}

pub record Laws : Type 0 where
  -- every mode is one of the five, at its number
  pub mode_is : (m : Mode) → mode_at (mode_number m) ≡ m
  pub number_below : (m : Mode) → mode_number m < 5
  pub number_is : (k : ℕ) → k < 5 → mode_number (mode_at k) ≡ k
  -- an option that is open follows its mode's rule
  pub option_joins : (m : Mode) (s u : ℕ) → fits m s u ≡ true → Joins m s (left_at m s u) (right_at m s u)
  pub option_other : (m : Mode) (s u : ℕ) → other_of m (left_at m s u) (right_at m s u) ≡ u
  -- and a join that follows its mode's rule is an open option
  pub joins_fits : (m : Mode) (s x y : ℕ) → Joins m s x y → fits m s (other_of m x y) ≡ true
  pub joins_left : (m : Mode) (s x y : ℕ) → Joins m s x y → left_at m s (other_of m x y) ≡ x
  pub joins_right : (m : Mode) (s x y : ℕ) → Joins m s x y → right_at m s (other_of m x y) ≡ y
