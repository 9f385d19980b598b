-- How a join is executed, and what its operands send one another.
use Rattle.std.specs.Prelude.{◌≡◌, ℕ, Bool, true, not, ◌&&◌, List, [], ◌∷◌, ◌==◌, ◌≢◌, slice_index_or}
use Rattle.profile.specs.declared.shape.Profile.{Profile}
use Rattle.profile.specs.declared.join.Join.{Join}
use Rattle.profile.specs.declared.join.Side.TheVariants.{Left, Right}
use Rattle.profile.specs.Joins.{column, reply}
use Rattle.assignments.specs.declared.mode.Mode.{Mode}
use Rattle.assignments.specs.declared.mode.Mode.TheVariants.{Local, LeftMaster, LeftSemi, RightMaster, RightSemi}
use Rattle.assignments.specs.declared.parts.Release.{Release}

abbrev pub mode_number : Mode → ℕ
mode_number Local = 0
mode_number LeftMaster = 1
mode_number LeftSemi = 2
mode_number RightMaster = 3
mode_number RightSemi = 4

-- the modes by number
abbrev pub mode_at : ℕ → Mode
mode_at m = slice_index_or (Local ∷ LeftMaster ∷ LeftSemi ∷ RightMaster ∷ RightSemi ∷ []) m Local

-- The rule of each mode, for the master and the executors of the left and the right operand: in mode `Local` all three are
-- one; else the master is the executor of its side, and the other operand is somewhere else.
abbrev pub Joins : Mode → ℕ → ℕ → ℕ → Type 0
Joins Local master left right = (left ≡ master) × (right ≡ master)
Joins LeftMaster master left right = (left ≡ master) × (right ≢ master)
Joins LeftSemi master left right = (left ≡ master) × (right ≢ master)
Joins RightMaster master left right = (right ≡ master) × (left ≢ master)
Joins RightSemi master left right = (right ≡ master) × (left ≢ master)

-- the executor of the operand that is not the master's, of the left's and the right's; itself in mode `Local`
abbrev pub other_of : Mode → ℕ → ℕ → ℕ
other_of Local left right = right
other_of LeftMaster left right = right
other_of LeftSemi left right = right
other_of RightMaster left right = left
other_of RightSemi left right = left

-- the same by the master and the other operand's server: whether the mode is open to them, and where the operands are
abbrev pub fits : Mode → ℕ → ℕ → Bool
fits Local master other = other == master
fits LeftMaster master other = not (other == master)
fits LeftSemi master other = not (other == master)
fits RightMaster master other = not (other == master)
fits RightSemi master other = not (other == master)

abbrev pub left_at : Mode → ℕ → ℕ → ℕ
left_at Local master other = master
left_at LeftMaster master other = master
left_at LeftSemi master other = master
left_at RightMaster master other = other
left_at RightSemi master other = other

abbrev pub right_at : Mode → ℕ → ℕ → ℕ
right_at Local master other = other
right_at LeftMaster master other = other
right_at LeftSemi master other = other
right_at RightMaster master other = master
right_at RightSemi master other = master

abbrev pub sending : ℕ → ℕ → Profile → Release
sending sender receiver p = record { sender = sender; receiver = receiver; profile = p }

-- What a join's operands send one another, with the left operand at `left` and the right one at `right`: nothing; the whole
-- operand that is not the master's; or the master's join column, and then the reply.
abbrev pub releases : Join → Mode → ℕ → ℕ → List Release
releases j Local left right = []
releases j LeftMaster left right = sending right left j.right ∷ []
releases j LeftSemi left right = sending left right (column j Left) ∷ sending right left (reply j Left) ∷ []
releases j RightMaster left right = sending left right j.left ∷ []
releases j RightSemi left right = sending right left (column j Right) ∷ sending left right (reply j Right) ∷ []

-- whether each receiver may see what is sent to it
abbrev pub allowed : (ℕ → Profile → Bool) → List Release → Bool
allowed may [] = true
allowed may (r ∷ rs) = may r.receiver r.profile && allowed may rs
