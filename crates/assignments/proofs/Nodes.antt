-- The subtrees of a query's nodes: what they hold, that no node stands twice in one, and that following the table goes down.
use Rattle.std.proofs.Common.{◌≡◌, ℕ, zero, suc, ◌+◌, ◌-◌, ◌<◌, ◌≤◌, Bool, true, false, ◌||◌, eqb, ◌⊎◌, List, [], ◌∷◌, length, sym, refl, ap, ◌∙◌, subst, inl, inr, ⊎_elim, arith}
use Rattle.std.specs.List.{AllByRecursion, list_any}
use Rattle.std.proofs.lemmas.Bool.{or_left, or_right, or_cases, eqb-true, eq-eqb, cases_eq, cases_lt, cases_Bool, false≢true}
use Rattle.chart.specs.Layout.{Layout}
use Rattle.profile.specs.declared.shape.Profile.{Profile}
use Rattle.tariff.specs.Pricing.{Pricing}
use Rattle.queries.specs.declared.node.Node.{Node}
use Rattle.queries.specs.declared.node.Node.TheVariants.{Leaf, Project, Filter, Join}
use Rattle.queries.specs.Trees.{Tree, top, has_node}
use Rattle.queries.specs.Flat.{node, operands, grow, tree_of}
use Rattle.queries.specs.Questions.{uses}
use Rattle.queries.specs.Sound.{Sound, Apart}
use Rattle.queries.proofs.Flat.{tree_step}
use Rattle.assignments.specs.Assignments.{Steps}
use Rattle.assignments.specs.Stands.{Distinct}
use Rattle.assignments.specs.Follows.{Follows}

-- ---- a node over its operands' trees
uses_one : (a j : ℕ) → (eqb a j || false) ≡ true → a ≡ j
uses_one a j h = ⊎_elim (eqb-true a j) (λ f. absurd (false≢true f)) (or_cases (eqb a j) false h)

uses_two : (a b j : ℕ) → (eqb a j || (eqb b j || false)) ≡ true → (a ≡ j) ⊎ (b ≡ j)
uses_two a b j h = ⊎_elim (λ t. inl (eqb-true a j t)) (λ t. inr (uses_one b j t)) (or_cases (eqb a j) (eqb b j || false) h)

earlier_used : (i j : ℕ) (xs : List ℕ) → AllByRecursion (λ o. o < i) xs → list_any (λ o. eqb o j) xs ≡ true → j < i
earlier_used i j [] all h = absurd (false≢true h)
earlier_used i j (x ∷ xs) all h =
    ⊎_elim (λ t. let z : x ≡ j = eqb-true x j t in omega (arith, all.0)) (λ t. earlier_used i j xs all.1 t) (or_cases (eqb x j) (list_any (λ o. eqb o j) xs) h)

module _ (f : ℕ → Tree) (i : ℕ) where
  grow_has : (x : Node) (k : ℕ) → has_node (grow f i x) k ≡ true → (k ≡ i) ⊎ ((j : ℕ) × (uses j x ≡ true) × (has_node (f j) k ≡ true))
  grow_has (Leaf r) k h = inl (eqb-true k i h)
  grow_has (Project j s) k h = ⊎_elim (λ t. inl (eqb-true k i t)) (λ t. inr (j, or_left (eqb j j) false (eq-eqb j j refl), t)) (or_cases (eqb k i) (has_node (f j) k) h)
  grow_has (Filter j s) k h = ⊎_elim (λ t. inl (eqb-true k i t)) (λ t. inr (j, or_left (eqb j j) false (eq-eqb j j refl), t)) (or_cases (eqb k i) (has_node (f j) k) h)
  grow_has (Join a b n) k h =
      ⊎_elim (λ t. inl (eqb-true k i t))
      (λ t. ⊎_elim (λ u. inr (a, or_left (eqb a a) (eqb b a || false) (eq-eqb a a refl), u))
      (λ u. inr (b, or_right (eqb a b) (eqb b b || false) (or_left (eqb b b) false (eq-eqb b b refl)), u))
      (or_cases (has_node (f a) k) (has_node (f b) k) t))
      (or_cases (eqb k i) (has_node (f a) k || has_node (f b) k) h)

  grow_root : (x : Node) → has_node (grow f i x) i ≡ true
  grow_root (Leaf r) = eq-eqb i i refl
  grow_root (Project j s) = or_left (eqb i i) (has_node (f j) i) (eq-eqb i i refl)
  grow_root (Filter j s) = or_left (eqb i i) (has_node (f j) i) (eq-eqb i i refl)
  grow_root (Join a b n) = or_left (eqb i i) (has_node (f a) i || has_node (f b) i) (eq-eqb i i refl)

  grow_top : (x : Node) → top (grow f i x) ≡ i
  grow_top (Leaf r) = refl
  grow_top (Project j s) = refl
  grow_top (Filter j s) = refl
  grow_top (Join a b n) = refl

  over_has : (j o k : ℕ) → o ≡ j → has_node (f j) k ≡ true → (eqb k i || has_node (f o) k) ≡ true
  over_has j o k e h = or_right (eqb k i) (has_node (f o) k) (ap (λ (n : ℕ). has_node (f n) k) e ∙ h)

  grow_under : (x : Node) (j k : ℕ) → uses j x ≡ true → has_node (f j) k ≡ true → has_node (grow f i x) k ≡ true
  grow_under (Leaf r) j k u h = absurd (false≢true u)
  grow_under (Project o s) j k u h = over_has j o k (uses_one o j u) h
  grow_under (Filter o s) j k u h = over_has j o k (uses_one o j u) h
  grow_under (Join a b n) j k u h =
      or_right (eqb k i) (has_node (f a) k || has_node (f b) k)
      (⊎_elim (λ e. or_left (has_node (f a) k) (has_node (f b) k) (ap (λ (n : ℕ). has_node (f n) k) e ∙ h))
      (λ e. or_right (has_node (f a) k) (has_node (f b) k) (ap (λ (n : ℕ). has_node (f n) k) e ∙ h)) (uses_two a b j u))

  -- operands' trees that share no node, and not i
  grow_distinct : (x : Node) → ((j : ℕ) → uses j x ≡ true → (has_node (f j) i ≡ false) × Distinct (f j))
      → ((a b : ℕ) → uses a x ≡ true → uses b x ≡ true → (a ≡ b → ⊥) → (n : ℕ) → has_node (f a) n ≡ true → has_node (f b) n ≡ false)
      → Apart x → Distinct (grow f i x)
  grow_distinct (Leaf r) below share apart = tt
  grow_distinct (Project j s) below share apart = below j (or_left (eqb j j) false (eq-eqb j j refl))
  grow_distinct (Filter j s) below share apart = below j (or_left (eqb j j) false (eq-eqb j j refl))
  grow_distinct (Join a b n) below share apart =
      let ua : uses a (Join a b n) ≡ true = or_left (eqb a a) (eqb b a || false) (eq-eqb a a refl) in
      let ub : uses b (Join a b n) ≡ true = or_right (eqb a b) (eqb b b || false) (or_left (eqb b b) false (eq-eqb b b refl)) in
      ((below a ua).0, (below b ub).0, share a b ua ub apart, (below a ua).1, (below b ub).1)

  module _ {P : Type 0} (l : Layout) (c : Pricing P) (may : ℕ → Profile → Bool) (e : Steps) where
    grow_follows : (x : Node) (j : ℕ) → uses j x ≡ true → Follows l c may e (grow f i x) → Follows l c may e (f j)
    grow_follows (Leaf r) j u h = absurd (false≢true u)
    grow_follows (Project o s) j u h = subst (λ (n : ℕ). Follows l c may e (f n)) (uses_one o j u) h.3
    grow_follows (Filter o s) j u h = subst (λ (n : ℕ). Follows l c may e (f n)) (uses_one o j u) h.3
    grow_follows (Join a b n) j u h =
        ⊎_elim (λ z. subst (λ (n : ℕ). Follows l c may e (f n)) z h.4) (λ z. subst (λ (n : ℕ). Follows l c may e (f n)) z h.5) (uses_two a b j u)

module _ (l : Layout) (nodes : List Node) (sound : Sound l nodes) where
  abbrev tree : ℕ → Tree
  tree i = tree_of nodes i

  pub tree_is : (i : ℕ) → i < length nodes → tree_of nodes i ≡ grow (tree_of nodes) i (node nodes i)
  tree_is i h = tree_step nodes i (sound.earlier i h)

  pub tree_top : (i : ℕ) → i < length nodes → top (tree_of nodes i) ≡ i
  tree_top i h = ap top (tree_is i h) ∙ grow_top (tree_of nodes) i (node nodes i)

  -- an operand is earlier
  pub operand_below : (i j : ℕ) → i < length nodes → uses j (node nodes i) ≡ true → j < i
  operand_below i j h u = earlier_used i j (operands (node nodes i)) (sound.earlier i h) u

  -- ---- what a subtree holds: its root, and what its operands' subtrees hold
  pub tree_root : (i : ℕ) → i < length nodes → has_node (tree_of nodes i) i ≡ true
  tree_root i h = ap (λ (t : Tree). has_node t i) (tree_is i h) ∙ grow_root (tree_of nodes) i (node nodes i)

  pub tree_under : (i j k : ℕ) → i < length nodes → uses j (node nodes i) ≡ true → has_node (tree_of nodes j) k ≡ true → has_node (tree_of nodes i) k ≡ true
  tree_under i j k h u has = ap (λ (t : Tree). has_node t k) (tree_is i h) ∙ grow_under (tree_of nodes) i (node nodes i) j k u has

  pub tree_has : (i k : ℕ) → i < length nodes → has_node (tree_of nodes i) k ≡ true → (k ≡ i) ⊎ ((j : ℕ) × (uses j (node nodes i) ≡ true) × (has_node (tree_of nodes j) k ≡ true))
  tree_has i k h has = grow_has (tree_of nodes) i (node nodes i) k (sym (ap (λ (t : Tree). has_node t k) (tree_is i h)) ∙ has)

  -- what holds of the root of each subtree with a node k, and goes from an operand's to its user's
  module _ (k : ℕ) (Q : ℕ → Type 0) (here : k < length nodes → Q k)
      (up : (i j : ℕ) → i < length nodes → j < i → uses j (node nodes i) ≡ true → has_node (tree_of nodes j) k ≡ true → Q j → Q i) where
    along_below : (n i : ℕ) → i < n → i < length nodes → has_node (tree_of nodes i) k ≡ true → Q i
    along_below zero i b h has = absurd (omega arith)
    along_below (suc n) i b h has =
        ⊎_elim (λ e. subst Q e (here (omega arith)))
        (λ d.
        let below = operand_below i d.0 h d.1 in
        up i d.0 h below d.1 d.2 (along_below n d.0 (omega arith) (omega arith) d.2))
        (tree_has i k h has)

    along : (i : ℕ) → i < length nodes → has_node (tree_of nodes i) k ≡ true → Q i
    along i h has = along_below (suc i) i (omega arith) h has

  -- a subtree's nodes come no later than its root
  pub tree_below : (i k : ℕ) → i < length nodes → has_node (tree_of nodes i) k ≡ true → k ≤ i
  tree_below i k h has = along k (λ (n : ℕ). k ≤ n) (λ _. omega arith) (λ n j b below u inside le. omega arith) i h has

  -- a subtree's subtrees
  pub tree_within : (i a k : ℕ) → i < length nodes → has_node (tree_of nodes i) a ≡ true → has_node (tree_of nodes a) k ≡ true → has_node (tree_of nodes i) k ≡ true
  tree_within i a k h has inside =
      along a (λ (n : ℕ). has_node (tree_of nodes n) k ≡ true) (λ _. inside) (λ n j b below u _ got. tree_under n j k b u got) i h has

  -- the user of a node other than the root is in the subtree too
  pub user_within : (i k : ℕ) → i < length nodes → has_node (tree_of nodes i) k ≡ true → (k ≡ i → ⊥)
      → (a : ℕ) × (a < length nodes) × (uses k (node nodes a) ≡ true) × (has_node (tree_of nodes i) a ≡ true)
  user_within i k h has other =
      ⊎_elim (λ e. absurd (other e)) (λ a. a)
      (along k (λ (n : ℕ). (k ≡ n) ⊎ ((a : ℕ) × (a < length nodes) × (uses k (node nodes a) ≡ true) × (has_node (tree_of nodes n) a ≡ true))) (λ _. inl refl)
      (λ n j b below u inside. ⊎_elim
      (λ e. inr (n, b, subst (λ (m : ℕ). uses m (node nodes n) ≡ true) (sym e) u, tree_root n b))
      (λ a. inr (a.0, a.1, a.2, tree_under n j a.0 b u a.3)))
      i h has)

  -- ---- every node is in the last one's subtree
  cover_from : (n k : ℕ) → k < length nodes → length nodes ≤ k + n → has_node (tree_of nodes (length nodes - 1)) k ≡ true
  cover_from zero k h le = absurd (omega arith)
  cover_from (suc n) k h le = go (cases_eq k (length nodes - 1)) (λ a b d. cover_from n a b d)
    where
      go : (k ≡ length nodes - 1) ⊎ (k ≡ length nodes - 1 → ⊥) → ((a : ℕ) → a < length nodes → length nodes ≤ a + n → has_node (tree_of nodes (length nodes - 1)) a ≡ true)
          → has_node (tree_of nodes (length nodes - 1)) k ≡ true
      go (inl e) more = subst (λ (r : ℕ). has_node (tree_of nodes r) k ≡ true) e (tree_root k h)
      go (inr other) more =
          let last : k + 1 < length nodes = ⊎_elim (λ t. t) (λ t. absurd (other (omega arith))) (cases_lt (k + 1) (length nodes)) in
          let u = sound.used k last in
          let below = operand_below u.0 k u.1 u.2 in
          tree_within (length nodes - 1) u.0 k (omega arith) (more u.0 u.1 (omega arith)) (tree_under u.0 k k u.1 u.2 (tree_root k h))

  pub tree_covers : (k : ℕ) → k < length nodes → has_node (tree_of nodes (length nodes - 1)) k ≡ true
  tree_covers k h = cover_from (length nodes) k h (omega arith)

  -- ---- the operands of a node share no node
  module _ (i a b : ℕ) (h : i < length nodes) (ua : uses a (node nodes i) ≡ true) (ub : uses b (node nodes i) ≡ true) (apart : a ≡ b → ⊥) where
    -- one operand's user is the node itself, which is not in the other's subtree
    outside : has_node (tree_of nodes b) a ≡ true → ⊥
    outside has =
        let below = operand_below i b h ub in
        let u = user_within b a (omega arith) has apart in
        let same : u.0 ≡ i = sound.once a u.0 i u.1 h u.2 ua in
        let le = tree_below b u.0 (omega arith) u.3 in
        omega arith

  -- go up from a shared node: its user is shared too
  shared_from : (m n i a b : ℕ) → length nodes ≤ n + m → n < length nodes → i < length nodes → uses a (node nodes i) ≡ true → uses b (node nodes i) ≡ true → (a ≡ b → ⊥)
      → has_node (tree_of nodes a) n ≡ true → has_node (tree_of nodes b) n ≡ true → ⊥
  shared_from zero n i a b le hn h ua ub apart in-a in_b = omega arith
  shared_from (suc m) n i a b le hn h ua ub apart in-a in_b =
      let ha = operand_below i a h ua in
      let hb = operand_below i b h ub in
      ⊎_elim (λ e. outside i a b h ua ub apart (subst (λ (k : ℕ). has_node (tree_of nodes b) k ≡ true) e in_b))
      (λ not_a. ⊎_elim (λ e. outside i b a h ub ua (λ z. apart (sym z)) (subst (λ (k : ℕ). has_node (tree_of nodes a) k ≡ true) e in-a))
      (λ not-b.
      let u = user_within a n (omega arith) in-a not_a in
      let v = user_within b n (omega arith) in_b not-b in
      let same : v.0 ≡ u.0 = sound.once n v.0 u.0 v.1 u.1 v.2 u.2 in
      let above = operand_below u.0 n u.1 u.2 in
      shared_from m u.0 i a b (omega arith) u.1 h ua ub apart u.3 (subst (λ (k : ℕ). has_node (tree_of nodes b) k ≡ true) same v.3))
      (cases_eq n b)) (cases_eq n a)

  pub operands_share : (i a b n : ℕ) → i < length nodes → uses a (node nodes i) ≡ true → uses b (node nodes i) ≡ true → (a ≡ b → ⊥)
      → has_node (tree_of nodes a) n ≡ true → has_node (tree_of nodes b) n ≡ false
  operands_share i a b n h ua ub apart in-a =
      let ha = operand_below i a h ua in
      let le = tree_below a n (omega arith) in-a in
      ⊎_elim (λ in_b. absurd (shared_from (length nodes) n i a b (omega arith) (omega arith) h ua ub apart in-a in_b)) (λ f. f) (cases_Bool (has_node (tree_of nodes b) n))

  distinct_below : (n i : ℕ) → i < n → i < length nodes → Distinct (tree_of nodes i)
  distinct_below zero i b h = absurd (omega arith)
  distinct_below (suc n) i b h =
      subst Distinct (sym (tree_is i h))
      (grow_distinct (tree_of nodes) i (node nodes i)
      (λ j u. let below = operand_below i j h u in (lacks j below, distinct_below n j (omega arith) (omega arith)))
      (λ a d ua ud apart k. operands_share i a d k h ua ud apart) (sound.apart i h))
    where
      lacks : (j : ℕ) → j < i → has_node (tree_of nodes j) i ≡ false
      lacks j below = ⊎_elim (λ t. absurd (let le = tree_below j i (omega arith) t in omega arith)) (λ f. f) (cases_Bool (has_node (tree_of nodes j) i))

  -- no two nodes of a subtree have one number
  pub tree_distinct : (i : ℕ) → i < length nodes → Distinct (tree_of nodes i)
  tree_distinct i h = distinct_below (suc i) i (omega arith) h

  -- ---- what follows the table from a node follows it from each node below
  module _ {P : Type 0} (c : Pricing P) (may : ℕ → Profile → Bool) (e : Steps) where
    pub follows_below : (i k : ℕ) → i < length nodes → has_node (tree_of nodes i) k ≡ true → Follows l c may e (tree_of nodes i) → Follows l c may e (tree_of nodes k)
    follows_below i k h has =
        along k (λ (n : ℕ). Follows l c may e (tree_of nodes n) → Follows l c may e (tree_of nodes k)) (λ _ f. f)
        (λ n j b below u inside more f. more (grow_follows (tree_of nodes) n l c may e (node nodes n) j u (subst (Follows l c may e) (tree_is n b) f))) i h has

    pub follows_all : Follows l c may e (tree_of nodes (length nodes - 1)) → (k : ℕ) → k < length nodes → Follows l c may e (tree_of nodes k)
    follows_all f k h = follows_below (length nodes - 1) k (omega arith) (tree_covers k h) f
