-- Modes by their rule, and by the master and the other operand's server.
use Rattle.std.proofs.Common.{◌≡◌, ℕ, zero, suc, ◌<◌, true, not, eqb, sym, refl, arith}
use Rattle.std.proofs.lemmas.Bool.{eqb-true, eqb-false, eq-eqb, ne_eqb, not-true, not_from_false}
use Rattle.assignments.specs.declared.mode.Mode.{Mode}
use Rattle.assignments.specs.declared.mode.Mode.TheVariants.{Local, LeftMaster, LeftSemi, RightMaster, RightSemi}
use Rattle.assignments.specs.Modes.{mode_number, mode_at, Joins, other_of, fits, left_at, right_at}
use Rattle.assignments.specs.Laws.{Laws}

pub mode_is : (m : Mode) → mode_at (mode_number m) ≡ m
mode_is Local = refl
mode_is LeftMaster = refl
mode_is LeftSemi = refl
mode_is RightMaster = refl
mode_is RightSemi = refl

pub number_below : (m : Mode) → mode_number m < 5
number_below Local = omega arith
number_below LeftMaster = omega arith
number_below LeftSemi = omega arith
number_below RightMaster = omega arith
number_below RightSemi = omega arith

pub number_is : (k : ℕ) → k < 5 → mode_number (mode_at k) ≡ k
number_is zero h = refl
number_is (suc zero) h = refl
number_is (suc (suc zero)) h = refl
number_is (suc (suc (suc zero))) h = refl
number_is (suc (suc (suc (suc zero)))) h = refl
number_is (suc (suc (suc (suc (suc k))))) h = absurd (omega arith)

-- the other operand is elsewhere
elsewhere : (s u : ℕ) → not (eqb u s) ≡ true → u ≡ s → ⊥
elsewhere s u h = eqb-false u s (not-true (eqb u s) h)

open_to : (s u : ℕ) → (u ≡ s → ⊥) → not (eqb u s) ≡ true
open_to s u h = not_from_false (eqb u s) (ne_eqb u s h)

pub option_joins : (m : Mode) (s u : ℕ) → fits m s u ≡ true → Joins m s (left_at m s u) (right_at m s u)
option_joins Local s u h = (refl, eqb-true u s h)
option_joins LeftMaster s u h = (refl, elsewhere s u h)
option_joins LeftSemi s u h = (refl, elsewhere s u h)
option_joins RightMaster s u h = (refl, elsewhere s u h)
option_joins RightSemi s u h = (refl, elsewhere s u h)

pub option_other : (m : Mode) (s u : ℕ) → other_of m (left_at m s u) (right_at m s u) ≡ u
option_other Local s u = refl
option_other LeftMaster s u = refl
option_other LeftSemi s u = refl
option_other RightMaster s u = refl
option_other RightSemi s u = refl

pub joins_fits : (m : Mode) (s x y : ℕ) → Joins m s x y → fits m s (other_of m x y) ≡ true
joins_fits Local s x y h = eq-eqb y s h.1
joins_fits LeftMaster s x y h = open_to s y h.1
joins_fits LeftSemi s x y h = open_to s y h.1
joins_fits RightMaster s x y h = open_to s x h.1
joins_fits RightSemi s x y h = open_to s x h.1

pub joins_left : (m : Mode) (s x y : ℕ) → Joins m s x y → left_at m s (other_of m x y) ≡ x
joins_left Local s x y h = sym h.0
joins_left LeftMaster s x y h = sym h.0
joins_left LeftSemi s x y h = sym h.0
joins_left RightMaster s x y h = refl
joins_left RightSemi s x y h = refl

pub joins_right : (m : Mode) (s x y : ℕ) → Joins m s x y → right_at m s (other_of m x y) ≡ y
joins_right Local s x y h = refl
joins_right LeftMaster s x y h = refl
joins_right LeftSemi s x y h = refl
joins_right RightMaster s x y h = sym h.0
joins_right RightSemi s x y h = sym h.0

pub laws : Laws
laws = record {
  mode_is = mode_is;
  number_below = number_below;
  number_is = number_is;
  option_joins = option_joins;
  option_other = option_other;
  joins_fits = joins_fits;
  joins_left = joins_left;
  joins_right = joins_right;
}
