-- Plans: a buffer with the step of each node at the node's number, and the releases that a plan entails.
use Rattle.std.specs.Prelude.{ℕ, zero, suc, ◌+◌, cond, List, [], ◌∷◌, ◌++◌, map, length, drop, nat_lt, slice_index_or, slice_set}
use Rattle.std.specs.List.{range_with_len}
use Rattle.chart.specs.Layout.{Layout}
use Rattle.queries.specs.declared.node.Node.{Node}
use Rattle.queries.specs.declared.node.Node.TheVariants.{Leaf, Project, Filter, Join}
use Rattle.queries.specs.Trees.{between}
use Rattle.queries.specs.Flat.{node}
use Rattle.queries.specs.Questions.{node_profile}
use Rattle.assignments.specs.declared.mode.Mode.{Mode}
use Rattle.assignments.specs.declared.mode.Mode.TheVariants.{Local}
use Rattle.assignments.specs.declared.parts.Step.{Step}
use Rattle.assignments.specs.declared.parts.Release.{Release}
use Rattle.assignments.specs.Modes.{left_at, right_at, releases}
use Rattle.assignments.specs.Assignments.{Steps, step}

-- the plan buffer, read by node number
abbrev pub at_step : List Step → Steps
at_step plan k = slice_index_or plan k (step 0 Local)

-- the first n places are those of e, and later places stay
abbrev pub plan_after : Steps → ℕ → List Step → List Step
plan_after e n plan = map (λ k. cond (nat_lt k n) (e k) (at_step plan k)) (range_with_len 0 (length plan))

-- the operands of a node at s are sent where its mode has them, with their own modes yet to come
abbrev pub sent_on : Node → ℕ → Mode → ℕ → List Step → List Step
sent_on (Leaf r) s m u plan = plan
sent_on (Project j a) s m u plan = slice_set plan j (step s Local)
sent_on (Filter j a) s m u plan = slice_set plan j (step s Local)
sent_on (Join a b k) s m u plan = slice_set (slice_set plan a (step (left_at m s u) Local)) b (step (right_at m s u) Local)

-- the same, once the node i itself is written
abbrev pub led : Node → ℕ → ℕ → Mode → ℕ → List Step → List Step
led x i s m u plan = sent_on x s m u (slice_set plan i (step s m))

-- what a node of number k releases under an assignment: nothing, unless it is a join
abbrev pub node_releases : Layout → List Node → Steps → ℕ → Node → List Release
node_releases l nodes e k (Leaf r) = []
node_releases l nodes e k (Project j s) = []
node_releases l nodes e k (Filter j s) = []
node_releases l nodes e k (Join a b link) =
    releases (between l (node_profile l nodes a) (node_profile l nodes b) link) (e k).mode (e a).executor (e b).executor

-- the releases of the first n nodes, in the order of the nodes
unfoldable pub entailed : Layout → List Node → Steps → ℕ → List Release
entailed l nodes e zero = []
entailed l nodes e (suc n) = entailed l nodes e n ++ node_releases l nodes e n (node nodes n)

-- a buffer with the new ones at the front; later places stay
abbrev pub releases_after : List Release → List Release → List Release
releases_after new old = new ++ drop (length new) old

-- a buffer with these written from k on
abbrev pub put_from : List Release → ℕ → List Release → List Release
put_from out k [] = out
put_from out k (r ∷ rs) = put_from (slice_set out k r) (k + 1) rs
