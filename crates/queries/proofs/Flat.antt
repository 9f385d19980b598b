-- The subtree of a node, from the subtrees of its operands.
use Rattle.std.proofs.Common.{◌≡◌, ℕ, zero, suc, ◌<◌, eqb, ◌⊎◌, List, sym, refl, ap, ◌∙◌, ap₂, inl, inr, not-suc-le-zero, arith}
use Rattle.std.specs.List.{AllByRecursion}
use Rattle.std.proofs.lemmas.Bool.{cases_eq, eq-eqb, ne_eqb, cond-true, cond-false}
use Rattle.queries.specs.declared.node.Node.{Node}
use Rattle.queries.specs.declared.node.Node.TheVariants.{Leaf, Project, Filter, Join}
use Rattle.queries.specs.Trees.{Tree, projection, filtering, join}
use Rattle.queries.specs.Flat.{node, operands, grow, forest, tree_of}

pub forest_is : (nodes : List Node) (i j : ℕ) → j < i → forest nodes i j ≡ tree_of nodes j
unfolding forest tree_of
forest_is nodes zero j h = absurd (not-suc-le-zero h)
forest_is nodes (suc i) j h = go (forest_is nodes i j) (cases_eq j i)
  where
    go : (j < i → forest nodes i j ≡ tree_of nodes j) → (j ≡ i) ⊎ (j ≡ i → ⊥) → forest nodes (suc i) j ≡ tree_of nodes j
    go below (inl e) =
        cond-true (eqb j i) (grow (forest nodes i) i (node nodes i)) (forest nodes i j) (eq-eqb j i e)
        ∙ ap (λ (k : ℕ). grow (forest nodes k) k (node nodes k)) (sym e)
    go below (inr ne) =
        cond-false (eqb j i) (grow (forest nodes i) i (node nodes i)) (forest nodes i j) (ne_eqb j i ne) ∙ below (omega arith)

-- a node's tree depends on those of its operands alone
grow_same : (f g : ℕ → Tree) (i : ℕ) (x : Node) → AllByRecursion (λ j. f j ≡ g j) (operands x) → grow f i x ≡ grow g i x
grow_same f g i (Leaf r) h = refl
grow_same f g i (Project j s) h = ap (projection i s) h.0
grow_same f g i (Filter j s) h = ap (filtering i s) h.0
grow_same f g i (Join a b k) h = ap₂ (join i k) h.0 h.1.0

all_forest : (nodes : List Node) (i : ℕ) (x : Node) → AllByRecursion (λ j. j < i) (operands x) → AllByRecursion (λ j. forest nodes i j ≡ tree_of nodes j) (operands x)
all_forest nodes i (Leaf r) h = tt
all_forest nodes i (Project j s) h = (forest_is nodes i j h.0, tt)
all_forest nodes i (Filter j s) h = (forest_is nodes i j h.0, tt)
all_forest nodes i (Join a b k) h = (forest_is nodes i a h.0, (forest_is nodes i b h.1.0, tt))

-- the subtree of a node whose operands are earlier
pub tree_step : (nodes : List Node) (i : ℕ) → AllByRecursion (λ j. j < i) (operands (node nodes i)) → tree_of nodes i ≡ grow (tree_of nodes) i (node nodes i)
unfolding tree_of
tree_step nodes i h = grow_same (forest nodes i) (tree_of nodes) i (node nodes i) (all_forest nodes i (node nodes i) h)
