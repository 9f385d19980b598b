-- The buffers after a query: what is read from them.
use Rattle.std.proofs.Common.{◌≡◌, ℕ, zero, suc, ◌*◌, ◌/◌, ◌%◌, ◌<◌, ◌≤◌, Bool, cond, ltb, ◌⊎◌, List, [], ◌∷◌, ◌++◌, length, get_or, None, Option, sym, refl, ap, ◌∙◌, ap₂, inl, inr, arith}
use Rattle.std.specs.List.{AllByRecursion}
use Rattle.std.proofs.lemmas.Nat.{div-add-mod', div_below, mod_below}
use Rattle.std.proofs.lemmas.List.FromFn.{get_or-map-range_with_len, fill_by_all}
use Rattle.std.proofs.lemmas.Bool.{cases_lt, cond_below, cond_above}
use Rattle.chart.specs.Layout.{Layout}
use Rattle.profile.specs.declared.shape.Profile.{Profile}
use Rattle.tariff.specs.Pricing.{Pricing}
use Rattle.queries.specs.declared.node.Node.{Node}
use Rattle.queries.specs.declared.node.Node.TheVariants.{Leaf, Project, Filter, Join}
use Rattle.queries.specs.Trees.{between}
use Rattle.queries.specs.Flat.{node, operands, tree_of}
use Rattle.queries.specs.Questions.{node_profile}
use Rattle.assignments.specs.declared.mode.Mode.TheVariants.{Local}
use Rattle.assignments.specs.declared.parts.Step.{Step}
use Rattle.assignments.specs.declared.parts.Place.{Place}
use Rattle.assignments.specs.Modes.{releases}
use Rattle.assignments.specs.Assignments.{Steps, step}
use Rattle.assignments.specs.Table.{place}
use Rattle.search.specs.Rows.{Filled}
use Rattle.planner.specs.Plans.{at_step, plan_after, node_releases, entailed}
use Rattle.planner.specs.Queries.{table_filled}

-- the plan buffer has the steps that were written
pub at_plan : (e : Steps) (n : ℕ) (plan : List Step) (k : ℕ) → n ≤ length plan → k < n → at_step (plan_after e n plan) k ≡ e k
at_plan e n plan k long h =
    get_or-map-range_with_len (λ j. cond (ltb j n) (e j) (at_step plan j)) 0 (length plan) k k (step 0 Local) (omega arith) (omega arith)
    ∙ sym (cond_below k n (e k) (at_step plan k) h)

-- what a node releases depends on its own step and those of its operands
node_like : (l : Layout) (nodes : List Node) (e f : Steps) (k : ℕ) (x : Node) → e k ≡ f k → AllByRecursion (λ j. e j ≡ f j) (operands x) → node_releases l nodes e k x ≡ node_releases l nodes f k x
node_like l nodes e f k (Leaf r) h a = refl
node_like l nodes e f k (Project j s) h a = refl
node_like l nodes e f k (Filter j s) h a = refl
node_like l nodes e f k (Join i j link) h a =
    let pair = between l (node_profile l nodes i) (node_profile l nodes j) link in
    ap (λ (v : Step). releases pair v.mode (e i).executor (e j).executor) h
    ∙ ap₂ (λ (v w : Step). releases pair (f k).mode v.executor w.executor) a.0 a.1.0

operands_like : (e f : Steps) (k n : ℕ) → k < n → ((j : ℕ) → j < n → e j ≡ f j) → (js : List ℕ) → AllByRecursion (λ j. j < k) js → AllByRecursion (λ j. e j ≡ f j) js
operands_like e f k n h same [] a = tt
operands_like e f k n h same (j ∷ js) a = (same j (omega (arith, a.0)), operands_like e f k n h same js a.1)

pub entailed_like : (l : Layout) (nodes : List Node) (e f : Steps) → ((i : ℕ) → i < length nodes → AllByRecursion (λ j. j < i) (operands (node nodes i))) → ((j : ℕ) → j < length nodes → e j ≡ f j)
    → (n : ℕ) → n ≤ length nodes → entailed l nodes e n ≡ entailed l nodes f n
unfolding entailed
entailed_like l nodes e f earlier same zero h = refl
entailed_like l nodes e f earlier same (suc n) h =
    ap₂ (λ xs ys. xs ++ ys) (entailed_like l nodes e f earlier same n (omega arith))
    (node_like l nodes e f n (node nodes n) (same n h) (operands_like e f n (length nodes) h same (operands (node nodes n)) (earlier n h)))

-- a filled table is the defined one
module _ {P : Type 0} (c : Pricing P) (may : ℕ → Profile → Bool) (l : Layout) (nodes : List Node) (old new : List (Option (Place P))) (some : 0 < l.servers) (filled : Filled c may l nodes (length nodes) old new) where
  abbrev n : ℕ
  n = l.servers

  abbrev f : ℕ → Option (Place P)
  f k = cond (ltb k (length nodes * n)) (place c may n l (tree_of nodes (k / n)) (k % n)) (get_or old k None)

  at : (k : ℕ) → (k < length nodes * n) ⊎ (length nodes * n ≤ k) → get_or new k None ≡ f k
  at k (inl below) =
      ap (λ (i : ℕ). get_or new i None) (sym (div-add-mod' k n)) ∙ filled.rows (k / n) (k % n) (div_below k n (length nodes) some below) (mod_below k n some)
      ∙ cond_below k (length nodes * n) (place c may n l (tree_of nodes (k / n)) (k % n)) (get_or old k None) below
  at k (inr past) = cond_above k (length nodes * n) (place c may n l (tree_of nodes (k / n)) (k % n)) (get_or old k None) (get_or new k None) past (filled.later k past)

  pub table_is : new ≡ table_filled c may l nodes old
  table_is = fill_by_all f new (length old) None filled.sized (λ k h. at k (cases_lt k (length nodes * n)))

-- what the written plan releases is what the assignment does
pub released_is : (l : Layout) (nodes : List Node) (e : Steps) (old new : List Step) → ((i : ℕ) → i < length nodes → AllByRecursion (λ j. j < i) (operands (node nodes i))) → length nodes ≤ length old
    → new ≡ plan_after e (length nodes) old → entailed l nodes (at_step new) (length nodes) ≡ entailed l nodes e (length nodes)
released_is l nodes e old new earlier long w =
    entailed_like l nodes (at_step new) e earlier (λ k h. ap (λ (p : List Step). at_step p k) w ∙ at_plan e (length nodes) old k long h) (length nodes) (omega arith)
