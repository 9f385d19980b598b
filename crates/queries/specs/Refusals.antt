-- The number and the place of each refusal of layer T, the tree. The place is the node, or 0 where it is of no node.
use Rattle.std.specs.Prelude.{ℕ}
use Rattle.queries.specs.declared.refusal.TreeRefusal.{TreeRefusal}
use Rattle.queries.specs.declared.refusal.TreeRefusal.TheVariants.{Count, Room, Operand, Relation, Attributes, Link, Unused}

abbrev pub refusal_number : TreeRefusal → ℕ
refusal_number Count = 30
refusal_number Room = 35
refusal_number (Operand i) = 31
refusal_number (Relation i) = 32
refusal_number (Attributes i) = 33
refusal_number (Link i) = 34
refusal_number (Unused i) = 31

abbrev pub refusal_place : TreeRefusal → ℕ
refusal_place Count = 0
refusal_place Room = 0
refusal_place (Operand i) = i
refusal_place (Relation i) = i
refusal_place (Attributes i) = i
refusal_place (Link i) = i
refusal_place (Unused i) = i
