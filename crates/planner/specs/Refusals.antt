-- The number and the place of each refusal of a query: 30 to 35 are of layer T, the tree, and 40 of layer P, the planner.
use Rattle.std.specs.Prelude.{ℕ}
use Rattle.queries.specs.Refusals as tree
use Rattle.planner.specs.declared.answer.QueryRefusal.{QueryRefusal}
use Rattle.planner.specs.declared.answer.QueryRefusal.TheVariants.{Tree, Blocked}

abbrev pub refusal_number : QueryRefusal → ℕ
refusal_number (Tree e) = tree.refusal_number e
refusal_number (Blocked k) = 40

abbrev pub refusal_place : QueryRefusal → ℕ
refusal_place (Tree e) = tree.refusal_place e
refusal_place (Blocked k) = k
