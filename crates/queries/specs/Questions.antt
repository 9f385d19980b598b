-- The questions that a query tree has to pass on a chart.
use Rattle.std.specs.Prelude.{ℕ, zero, suc, ◌+◌, ◌-◌, Bool, true, false, not, ◌&&◌, List, [], ◌∷◌, ◌++◌, length, take, is_some, Ok, Err, Result, ◌==◌, nat_eq, nat_le, nat_lt}
use Rattle.std.specs.List.{list_all, list_any}
use Rattle.sets.specs.declared.small_set.SmallSet.{SmallSet}
use Rattle.sets.specs.Sets.{none, same, subset}
use Rattle.chart.specs.Questions.{asked}
use Rattle.chart.specs.Layout.{Layout}
use Rattle.chart.specs.Lookup.{server_of}
use Rattle.profile.specs.declared.shape.Profile.{Profile}
use Rattle.profile.specs.Joins.{orient_answer}
use Rattle.queries.specs.declared.node.Node.{Node}
use Rattle.queries.specs.declared.node.Node.TheVariants.{Leaf, Project, Filter, Join}
use Rattle.queries.specs.declared.refusal.TreeRefusal.{TreeRefusal}
use Rattle.queries.specs.declared.refusal.TreeRefusal.TheVariants.{Count, Operand, Relation, Attributes, Link, Unused}
use Rattle.queries.specs.Trees.{profile_of}
use Rattle.queries.specs.Flat.{node, operands, tree_of}

-- whether a node uses the node j
abbrev pub uses : ℕ → Node → Bool
uses j x = list_any (λ o. nat_eq o j) (operands x)

-- whether one of the first i nodes uses j
unfoldable pub used_by : List Node → ℕ → ℕ → Bool
used_by nodes i j = list_any (uses j) (take i nodes)

-- whether a node is a leaf of this relation
abbrev pub is_leaf : ℕ → Node → Bool
is_leaf r (Leaf q) = q == r
is_leaf r (Project j s) = false
is_leaf r (Filter j s) = false
is_leaf r (Join a b k) = false

-- whether one of the first i nodes is a leaf of this relation
unfoldable pub stands_in : List Node → ℕ → ℕ → Bool
stands_in nodes i r = list_any (is_leaf r) (take i nodes)

-- whether no two of the numbers are the same
abbrev pub different : List ℕ → Bool
different [] = true
different (x ∷ xs) = not (list_any (λ y. nat_eq y x) xs) && different xs

-- operands are earlier than i, different and not yet used
abbrev pub operands_fit : (ℕ → Bool) → ℕ → List ℕ → Bool
operands_fit used i js = list_all (λ j. nat_lt j i && not (used j)) js && different js

-- attributes, at least one, and all of them shown by the operand
abbrev pub attributes_fit : SmallSet → SmallSet → Bool
attributes_fit s shown = not (same s none) && subset s shown

-- The question for a node's kind, by the relations that stand already and the operands' profiles: a leaf's relation is known
-- and new; the attributes of a projection or a filter fit; a join's link is known, with one end shown on each side.
abbrev pub kind_fits : Layout → (ℕ → Bool) → (ℕ → Profile) → Node → Bool
kind_fits l stands f (Leaf r) = is_some (server_of l r) && not (stands r)
kind_fits l stands f (Project j s) = attributes_fit s (f j).shown
kind_fits l stands f (Filter j s) = attributes_fit s (f j).shown
kind_fits l stands f (Join a b k) = is_some (orient_answer l (f a).shown (f b).shown k)

abbrev pub kind_refusal : ℕ → Node → TreeRefusal
kind_refusal i (Leaf r) = Relation i
kind_refusal i (Project j s) = Attributes i
kind_refusal i (Filter j s) = Attributes i
kind_refusal i (Join a b k) = Link i

-- a node's questions: its operands (31), then its kind (32 to 34)
abbrev pub node_questions : Layout → (ℕ → Bool) → (ℕ → Bool) → (ℕ → Profile) → ℕ → Node → List (Bool × TreeRefusal)
node_questions l used stands f i x = (operands_fit used i (operands x), Operand i) ∷ (kind_fits l stands f x, kind_refusal i x) ∷ []

-- the profile of the result of a node
unfoldable pub node_profile : Layout → List Node → ℕ → Profile
node_profile l nodes j = profile_of l (tree_of nodes j)

-- the questions of the node i, after those before it
abbrev pub questions_at : Layout → List Node → ℕ → List (Bool × TreeRefusal)
questions_at l nodes i = node_questions l (used_by nodes i) (stands_in nodes i) (node_profile l nodes) i (node nodes i)

-- the questions of n nodes from i on, in rising order
unfoldable pub questions_from : Layout → List Node → ℕ → ℕ → List (Bool × TreeRefusal)
questions_from l nodes i zero = []
questions_from l nodes i (suc n) = questions_at l nodes i ++ questions_from l nodes (i + 1) n

-- of each of n nodes from j on: whether some node uses it (31)
unfoldable pub uses_from : (ℕ → Bool) → ℕ → ℕ → List (Bool × TreeRefusal)
uses_from used j zero = []
uses_from used j (suc n) = (used j, Unused j) ∷ uses_from used (j + 1) n

-- the questions of all nodes, and then whether all but the root are used
abbrev pub tree_questions : Layout → List Node → List (Bool × TreeRefusal)
tree_questions l nodes = questions_from l nodes 0 (length nodes) ++ uses_from (used_by nodes (length nodes)) 0 (length nodes - 1)

-- 1 to 63 nodes (30)
abbrev pub count_fits : List Node → Bool
count_fits nodes = nat_le 1 (length nodes) && nat_le (length nodes) 63

-- accepted, or the first refusal
abbrev pub answered : List (Bool × TreeRefusal) → Result (Unit {0}) TreeRefusal
answered qs = asked qs tt

abbrev pub tree_answer : Layout → List Node → Result (Unit {0}) TreeRefusal
tree_answer l nodes = answered ((count_fits nodes, Count) ∷ tree_questions l nodes)

-- whether a check accepted, and why not
abbrev pub verdict : {T : Type 0} → Result T TreeRefusal → Result (Unit {0}) TreeRefusal
verdict (Ok t) = Ok tt
verdict (Err e) = Err e
