-- The listed releases of a plan are those of its tree, so they are allowed just where it is safe.
use Rattle.std.proofs.Common.{◌≡◌, ℕ, zero, suc, ◌+◌, ◌-◌, ◌<◌, ◌≤◌, Bool, true, false, ◌||◌, eqb, ◌⊎◌, List, [], ◌∷◌, ◌++◌, length, sym, refl, ap, ◌∙◌, subst, ap₂, inl, inr, ⊎_elim, arith}
use Rattle.std.specs.List.{AllByRecursion}
use Rattle.std.proofs.lemmas.Bool.{cases_eq, and_parts, and_from, or_cases, eqb-true, false≢true}
use Rattle.chart.specs.Layout.{Layout}
use Rattle.profile.specs.declared.shape.Profile.{Profile}
use Rattle.queries.specs.declared.node.Node.{Node}
use Rattle.queries.specs.declared.node.Node.TheVariants.{Leaf, Project, Filter, Join}
use Rattle.queries.specs.Trees.{Tree, pair_of}
use Rattle.queries.specs.Flat.{node, operands, grow, tree_of}
use Rattle.queries.specs.Questions.{uses, node_profile}
use Rattle.queries.specs.Sound.{Sound}
use Rattle.assignments.specs.declared.parts.Release.{Release}
use Rattle.assignments.specs.Modes.{releases, allowed}
use Rattle.assignments.specs.Assignments.{Steps, own_releases, Safe}
use Rattle.assignments.proofs.Nodes.{tree_is, tree_top, operand_below}
use Rattle.planner.specs.Plans.{node_releases, entailed}
use Rattle.planner.specs.Releases.{ReleaseLaws}

-- ---- two lists of releases
allowed_both : (may : ℕ → Profile → Bool) (xs ys : List Release) → allowed may xs ≡ true → allowed may ys ≡ true → allowed may (xs ++ ys) ≡ true
allowed_both may [] ys h k = k
allowed_both may (x ∷ xs) ys h k =
    let p = and_parts (may x.receiver x.profile) (allowed may xs) h in
    and_from (may x.receiver x.profile) (allowed may (xs ++ ys)) p.0 (allowed_both may xs ys p.1 k)

allowed_parts : (may : ℕ → Profile → Bool) (xs ys : List Release) → allowed may (xs ++ ys) ≡ true → (allowed may xs ≡ true) × (allowed may ys ≡ true)
allowed_parts may [] ys h = (refl, h)
allowed_parts may (x ∷ xs) ys h =
    let p = and_parts (may x.receiver x.profile) (allowed may (xs ++ ys)) h in
    let q = allowed_parts may xs ys p.1 in
    (and_from (may x.receiver x.profile) (allowed may xs) p.0 q.0, q.1)

used_one : (a j : ℕ) → (eqb a j || false) ≡ true → a ≡ j
used_one a j h = ⊎_elim (eqb-true a j) (λ f. absurd (false≢true f)) (or_cases (eqb a j) false h)

-- ---- a node over its operands' trees
module _ (l : Layout) (may : ℕ → Profile → Bool) (e : Steps) where
  grow_safe : (f : ℕ → Tree) (i : ℕ) (x : Node) (j : ℕ) → uses j x ≡ true → Safe l may e (grow f i x) → Safe l may e (f j)
  grow_safe f i (Leaf r) j u h = absurd (false≢true u)
  grow_safe f i (Project o s) j u h = subst (λ (n : ℕ). Safe l may e (f n)) (used_one o j u) h
  grow_safe f i (Filter o s) j u h = subst (λ (n : ℕ). Safe l may e (f n)) (used_one o j u) h
  grow_safe f i (Join a b k) j u h =
      ⊎_elim (λ t. subst (λ (n : ℕ). Safe l may e (f n)) (eqb-true a j t) h.0) (λ t. subst (λ (n : ℕ). Safe l may e (f n)) (used_one b j t) h.1)
      (or_cases (eqb a j) (eqb b j || false) u)

  module _ (nodes : List Node) (sound : Sound l nodes) where
    -- a join's own releases are its node's
    own_is : (i a b k : ℕ) → i < length nodes → a < i → b < i → own_releases l e i k (tree_of nodes a) (tree_of nodes b) ≡ node_releases l nodes e i (Join a b k)
    unfolding node_profile
    own_is i a b k h ha hb =
        ap₂ (releases (pair_of l k (tree_of nodes a) (tree_of nodes b)) (e i).mode)
        (ap (λ (n : ℕ). (e n).executor) (tree_top l nodes sound a (omega arith))) (ap (λ (n : ℕ). (e n).executor) (tree_top l nodes sound b (omega arith)))

    safe_own : (i : ℕ) → i < length nodes → (x : Node) → AllByRecursion (λ j. j < i) (operands x) → Safe l may e (grow (tree_of nodes) i x) → allowed may (node_releases l nodes e i x) ≡ true
    safe_own i h (Leaf r) b s = refl
    safe_own i h (Project j a) b s = refl
    safe_own i h (Filter j a) b s = refl
    safe_own i h (Join x y k) b s = ap (allowed may) (sym (own_is i x y k h b.0 b.1.0)) ∙ s.2

    own_safe : (i : ℕ) → i < length nodes → (x : Node) → AllByRecursion (λ j. j < i) (operands x) → ((j : ℕ) → j < i → Safe l may e (tree_of nodes j))
        → allowed may (node_releases l nodes e i x) ≡ true → Safe l may e (grow (tree_of nodes) i x)
    own_safe i h (Leaf r) b below own = tt
    own_safe i h (Project j a) b below own = below j b.0
    own_safe i h (Filter j a) b below own = below j b.0
    own_safe i h (Join x y k) b below own = (below x b.0, below y b.1.0, ap (allowed may) (own_is i x y k h b.0 b.1.0) ∙ own)

    -- ---- what is safe from the root is safe from each node
    safe_from : (n k : ℕ) → k < length nodes → length nodes ≤ k + n → Safe l may e (tree_of nodes (length nodes - 1)) → Safe l may e (tree_of nodes k)
    safe_from zero k h le s = absurd (omega arith)
    safe_from (suc n) k h le s = go (cases_eq (k + 1) (length nodes)) (λ a b d. safe_from n a b d s)
      where
        go : (k + 1 ≡ length nodes) ⊎ (k + 1 ≡ length nodes → ⊥) → ((a : ℕ) → a < length nodes → length nodes ≤ a + n → Safe l may e (tree_of nodes a)) → Safe l may e (tree_of nodes k)
        go (inl z) more = let y : length nodes - 1 ≡ k = omega arith in subst (λ (i : ℕ). Safe l may e (tree_of nodes i)) y s
        go (inr ne) more =
            let u = sound.used k (omega arith) in
            let b = operand_below l nodes sound u.0 k u.1 u.2 in
            grow_safe (tree_of nodes) u.0 (node nodes u.0) k u.2 (subst (Safe l may e) (tree_is l nodes sound u.0 u.1) (more u.0 u.1 (omega arith)))

    entailed_allowed : (n : ℕ) → n ≤ length nodes → Safe l may e (tree_of nodes (length nodes - 1)) → allowed may (entailed l nodes e n) ≡ true
    unfolding entailed
    entailed_allowed zero h s = refl
    entailed_allowed (suc n) h s =
        let here = subst (Safe l may e) (tree_is l nodes sound n (omega arith)) (safe_from (length nodes) n (omega arith) (omega arith) s) in
        allowed_both may (entailed l nodes e n) (node_releases l nodes e n (node nodes n)) (entailed_allowed n (omega arith) s)
        (safe_own n (omega arith) (node nodes n) (sound.earlier n (omega arith)) here)

    pub listed_allowed : Safe l may e (tree_of nodes (length nodes - 1)) → allowed may (entailed l nodes e (length nodes)) ≡ true
    listed_allowed s = entailed_allowed (length nodes) (omega arith) s

    -- ---- and the other way round
    node_allowed : (n k : ℕ) → k < n → allowed may (entailed l nodes e n) ≡ true → allowed may (node_releases l nodes e k (node nodes k)) ≡ true
    unfolding entailed
    node_allowed zero k h a = absurd (omega arith)
    node_allowed (suc n) k h a =
        let p = allowed_parts may (entailed l nodes e n) (node_releases l nodes e n (node nodes n)) a in
        ⊎_elim (λ z. subst (λ (i : ℕ). allowed may (node_releases l nodes e i (node nodes i)) ≡ true) (sym z) p.1) (λ ne. node_allowed n k (omega arith) p.0) (cases_eq k n)

    safe_below : (n i : ℕ) → i < n → i < length nodes → allowed may (entailed l nodes e (length nodes)) ≡ true → Safe l may e (tree_of nodes i)
    safe_below zero i b h a = absurd (omega arith)
    safe_below (suc n) i b h a =
        subst (Safe l may e) (sym (tree_is l nodes sound i h))
        (own_safe i h (node nodes i) (sound.earlier i h) (λ j lt. safe_below n j (omega arith) (omega arith) a) (node_allowed (length nodes) i h a))

    pub allowed_listed : allowed may (entailed l nodes e (length nodes)) ≡ true → Safe l may e (tree_of nodes (length nodes - 1))
    allowed_listed a = let some = sound.some in safe_below (length nodes) (length nodes - 1) (omega arith) (omega arith) a

pub release_laws : (l : Layout) → ReleaseLaws l
release_laws l = record {
  listed_allowed = λ nodes sound may e. listed_allowed l may e nodes sound;
  allowed_listed = λ nodes sound may e. allowed_listed l may e nodes sound;
}
