-- A query that is one tree has fewer operands than nodes, so a plan has fewer releases than nodes.
use Rattle.std.proofs.Common.{◌≡◌, ℕ, zero, suc, ◌+◌, ◌-◌, ◌<◌, ◌≤◌, Bool, true, false, ◌||◌, eqb, ◌⊎◌, List, [], ◌∷◌, ◌++◌, length, get_or, drop, set, sym, refl, ap, ◌∙◌, inl, inr, ⊎_elim, arith}
use Rattle.std.proofs.lemmas.List.{append-nil, append_assoc, length-append, length_push, drop_more, set_at}
use Rattle.std.proofs.lemmas.Bool.{cases_eq, cases_Bool, or_left, or_right, or_cases, eq-eqb, ne_eqb, false≢true}
use Rattle.chart.specs.Layout.{Layout}
use Rattle.profile.specs.declared.join.Join.{Join as Pair}
use Rattle.queries.specs.declared.node.Node.{Node}
use Rattle.queries.specs.declared.node.Node.TheVariants.{Leaf, Project, Filter, Join}
use Rattle.queries.specs.Trees.{between}
use Rattle.queries.specs.Flat.{node}
use Rattle.queries.specs.Questions.{uses, node_profile}
use Rattle.queries.specs.Sound.{Sound, Apart}
use Rattle.assignments.specs.declared.mode.Mode.{Mode}
use Rattle.assignments.specs.declared.mode.Mode.TheVariants.{Local, LeftMaster, LeftSemi, RightMaster, RightSemi}
use Rattle.assignments.specs.declared.parts.Release.{Release}
use Rattle.assignments.specs.Modes.{releases}
use Rattle.assignments.specs.Assignments.{Steps}
use Rattle.assignments.proofs.Nodes.{operand_below}
use Rattle.planner.specs.Plans.{node_releases, entailed, releases_after, put_from}

-- ---- how many numbers below n pass a test
abbrev bit : Bool → ℕ
bit true = 1
bit false = 0

abbrev tally : (ℕ → Bool) → ℕ → ℕ
tally p zero = 0
tally p (suc n) = tally p n + bit (p n)

or_none : (x y : Bool) → y ≡ false → (x || y) ≡ x
or_none true y f = refl
or_none false y f = f

or_assoc : (x y z : Bool) → (x || (y || (z || false))) ≡ ((x || y) || z)
or_assoc true y z = refl
or_assoc false true z = refl
or_assoc false false z = or_none z false refl

tally_same : (p q : ℕ → Bool) (n : ℕ) → ((j : ℕ) → j < n → p j ≡ q j) → tally p n ≡ tally q n
tally_same p q zero h = refl
tally_same p q (suc n) h =
    let e = tally_same p q n (λ j b. h j (omega arith)) in
    let f : bit (p n) ≡ bit (q n) = ap bit (h n (omega arith)) in
    omega arith

-- one more number passes
tally_add : (p : ℕ → Bool) (a n : ℕ) → a < n → p a ≡ false → tally (λ j. p j || eqb a j) n ≡ tally p n + 1
tally_add p a zero h f = absurd (omega arith)
tally_add p a (suc n) h f = go (cases_eq a n) (tally_add p a n)
  where
    go : (a ≡ n) ⊎ (a ≡ n → ⊥) → (a < n → p a ≡ false → tally (λ j. p j || eqb a j) n ≡ tally p n + 1)
        → tally (λ j. p j || eqb a j) n + bit (p n || eqb a n) ≡ (tally p n + bit (p n)) + 1
    go (inl z) more =
        let e = tally_same (λ j. p j || eqb a j) p n (λ j b. or_none (p j) (eqb a j) (ne_eqb a j (λ y. omega arith))) in
        let t : bit (p n || eqb a n) ≡ 1 = ap bit (or_right (p n) (eqb a n) (eq-eqb a n z)) in
        let u : bit (p n) ≡ 0 = ap bit (sym (ap p z) ∙ f) in
        omega arith
    go (inr ne) more =
        let e = more (omega arith) f in
        let t : bit (p n || eqb a n) ≡ bit (p n) = ap bit (or_none (p n) (eqb a n) (ne_eqb a n ne)) in
        omega arith

bit_most : (b : Bool) → bit b ≤ 1
bit_most true = omega arith
bit_most false = omega arith

tally_most : (p : ℕ → Bool) (n : ℕ) → tally p n ≤ n
tally_most p zero = omega arith
tally_most p (suc n) = let e = tally_most p n in let b = bit_most (p n) in omega arith

tally_below : (p : ℕ → Bool) (n k : ℕ) → suc k ≡ n → p k ≡ false → tally p n < n
tally_below p n k z f =
    let e = tally_most p k in
    let b : bit (p k) ≡ 0 = ap bit f in
    let t : tally p n ≡ tally p k + bit (p k) = ap (tally p) (sym z) in
    omega arith

-- ---- the nodes that are used
abbrev arity : Node → ℕ
arity (Leaf r) = 0
arity (Project j s) = 1
arity (Filter j s) = 1
arity (Join a b k) = 2

abbrev arities : List Node → ℕ → ℕ
arities nodes zero = 0
arities nodes (suc i) = arities nodes i + arity (node nodes i)

abbrev seen : List Node → ℕ → ℕ → Bool
seen nodes zero j = false
seen nodes (suc i) j = seen nodes i j || uses j (node nodes i)

seen_user : (nodes : List Node) (i j : ℕ) → seen nodes i j ≡ true → (a : ℕ) × (a < i) × (uses j (node nodes a) ≡ true)
seen_user nodes zero j h = absurd (false≢true h)
seen_user nodes (suc i) j h =
    ⊎_elim (λ t. let u = seen_user nodes i j t in (u.0, omega (arith, u.1), u.2)) (λ t. (i, omega arith, t)) (or_cases (seen nodes i j) (uses j (node nodes i)) h)

seen_more : (p : ℕ → Bool) (n : ℕ) (x : Node) → Apart x → ((j : ℕ) → uses j x ≡ true → (j < n) × (p j ≡ false)) → tally (λ j. p j || uses j x) n ≡ tally p n + arity x
seen_more p n (Leaf r) apart free = let e = tally_same (λ j. p j || false) p n (λ j b. or_none (p j) false refl) in omega arith
seen_more p n (Project a s) apart free =
    let f = free a (or_left (eqb a a) false (eq-eqb a a refl)) in
    tally_same (λ j. p j || (eqb a j || false)) (λ j. p j || eqb a j) n (λ j b. ap (λ (t : Bool). p j || t) (or_none (eqb a j) false refl)) ∙ tally_add p a n f.0 f.1
seen_more p n (Filter a s) apart free =
    let f = free a (or_left (eqb a a) false (eq-eqb a a refl)) in
    tally_same (λ j. p j || (eqb a j || false)) (λ j. p j || eqb a j) n (λ j b. ap (λ (t : Bool). p j || t) (or_none (eqb a j) false refl)) ∙ tally_add p a n f.0 f.1
seen_more p n (Join a b k) apart free =
    let f = free a (or_left (eqb a a) (eqb b a || false) (eq-eqb a a refl)) in
    let g = free b (or_right (eqb a b) (eqb b b || false) (or_left (eqb b b) false (eq-eqb b b refl))) in
    let e = tally_same (λ j. p j || (eqb a j || (eqb b j || false))) (λ j. (p j || eqb a j) || eqb b j) n (λ j h. or_assoc (p j) (eqb a j) (eqb b j)) in
    let s = tally_add p a n f.0 f.1 in
    let t = tally_add (λ j. p j || eqb a j) b n g.0 (or_none (p b) (eqb a b) (ne_eqb a b apart) ∙ g.1) in
    omega arith

module _ (l : Layout) (nodes : List Node) (sound : Sound l nodes) where
  unseen : (i j : ℕ) → ((a : ℕ) → a < i → uses j (node nodes a) ≡ true → ⊥) → seen nodes i j ≡ false
  unseen i j none = ⊎_elim (λ t. let u = seen_user nodes i j t in absurd (none u.0 u.1 u.2)) (λ f. f) (cases_Bool (seen nodes i j))

  tally_seen : (i : ℕ) → i ≤ length nodes → tally (seen nodes i) (length nodes) ≡ arities nodes i
  tally_seen zero h = all_false (length nodes)
    where
      all_false : (n : ℕ) → tally (λ j. false) n ≡ 0
      all_false zero = refl
      all_false (suc n) = let e = all_false n in omega arith
  tally_seen (suc i) h =
      let e = tally_seen i (omega arith) in
      let t = seen_more (seen nodes i) (length nodes) (node nodes i) (sound.apart i (omega arith)) fresh in
      omega arith
    where
      fresh : (j : ℕ) → uses j (node nodes i) ≡ true → (j < length nodes) × (seen nodes i j ≡ false)
      fresh j u =
          let b = operand_below l nodes sound i j (omega arith) u in
          (omega arith, unseen i j (λ a lt v. let z = sound.once j a i (omega arith) (omega arith) v u in omega arith))

  -- one operand fewer than nodes, at the most
  few_operands : arities nodes (length nodes) < length nodes
  few_operands =
      let some = sound.some in
      let e = tally_seen (length nodes) (omega arith) in
      let last = unseen (length nodes) (length nodes - 1) (λ a lt u. let b = operand_below l nodes sound a (length nodes - 1) lt u in omega arith) in
      let t = tally_below (seen nodes (length nodes)) (length nodes) (length nodes - 1) (omega arith) last in
      omega arith

  arities_on : (i k : ℕ) → arities nodes i ≤ arities nodes (i + k)
  arities_on i zero = let z : i + 0 ≡ i = omega arith in rw z (omega arith)
  arities_on i (suc k) =
      let z : i + suc k ≡ suc (i + k) = omega arith in
      let e = arities_on i k in
      rw z (omega arith)

  -- ---- a join releases no more than it has operands
  releases_few : (j : Pair) (m : Mode) (x y : ℕ) → length (releases j m x y) ≤ 2
  releases_few j Local x y = omega arith
  releases_few j LeftMaster x y = omega arith
  releases_few j LeftSemi x y = omega arith
  releases_few j RightMaster x y = omega arith
  releases_few j RightSemi x y = omega arith

  module _ (e : Steps) where
    node_few : (k : ℕ) (x : Node) → length (node_releases l nodes e k x) ≤ arity x
    node_few k (Leaf r) = omega arith
    node_few k (Project j s) = omega arith
    node_few k (Filter j s) = omega arith
    node_few k (Join a b link) = releases_few (between l (node_profile l nodes a) (node_profile l nodes b) link) (e k).mode (e a).executor (e b).executor

    entailed_few : (i : ℕ) → length (entailed l nodes e i) ≤ arities nodes i
    unfolding entailed
    entailed_few zero = omega arith
    entailed_few (suc i) =
        let a = entailed_few i in
        let b = node_few i (node nodes i) in
        simp length-append (omega arith)

    -- fewer releases than nodes
    pub releases_below : length (entailed l nodes e (length nodes)) < length nodes
    releases_below = let a = few_operands in let b = entailed_few (length nodes) in omega arith

    -- there is room for the next node's releases
    pub room : (i : ℕ) → i < length nodes → length (entailed l nodes e i) + length (node_releases l nodes e i (node nodes i)) < length nodes
    room i h =
        let z : suc i + (length nodes - suc i) ≡ length nodes = omega arith in
        let a = few_operands in
        let b = rw z at (arities_on (suc i) (length nodes - suc i)) in
        let s = entailed_few i in
        let t = node_few i (node nodes i) in
        omega arith

-- ---- writing on
put_after : (new rs old : List Release) → length new + length rs ≤ length old → put_from (releases_after new old) (length new) rs ≡ releases_after (new ++ rs) old
put_after new [] old h = ap (λ (xs : List Release). releases_after xs old) (sym (append-nil new))
put_after new (r ∷ rs) old h =
    let push : length (new ++ r ∷ []) ≡ length new + 1 = length_push new r in
    let one : set (releases_after new old) (length new) r ≡ releases_after (new ++ r ∷ []) old
    = ap (λ (ys : List Release). set (new ++ ys) (length new) r) (drop_more old (length new) r (omega arith))
    ∙ set_at new (get_or old (length new) r) (drop (length new + 1) old) r (length new) refl
    ∙ ap (λ (n : ℕ). new ++ r ∷ drop n old) (sym push)
    ∙ sym (append_assoc new (r ∷ []) (drop (length (new ++ r ∷ [])) old)) in
    ap (λ (out : List Release). put_from out (length new + 1) rs) one
    ∙ ap (λ (n : ℕ). put_from (releases_after (new ++ r ∷ []) old) n rs) (sym push)
    ∙ put_after (new ++ r ∷ []) rs old (omega arith)
    ∙ ap (λ (xs : List Release). releases_after xs old) (append_assoc new (r ∷ []) rs)

module _ (l : Layout) (nodes : List Node) (e : Steps) where
  pub entailed_more : (i : ℕ) → entailed l nodes e (i + 1) ≡ entailed l nodes e i ++ node_releases l nodes e i (node nodes i)
  unfolding entailed
  entailed_more i = let z : i + 1 ≡ suc i = omega arith in ap (entailed l nodes e) z

  pub listed_none : (out : List Release) → (◌≡◌ {A = ℕ} 0 (length (entailed l nodes e 0))) × (out ≡ releases_after (entailed l nodes e 0) out)
  unfolding entailed
  listed_none out = (refl, refl)

  -- one turn, at the node i
  pub listed_more : Sound l nodes → (i at next : ℕ) (first out after : List Release) → i < length nodes → length nodes ≤ length first
      → (at ≡ length (entailed l nodes e i)) × (out ≡ releases_after (entailed l nodes e i) first)
      → next ≡ at + length (node_releases l nodes e i (node nodes i)) → after ≡ put_from out at (node_releases l nodes e i (node nodes i))
      → (next ≡ length (entailed l nodes e (i + 1))) × (after ≡ releases_after (entailed l nodes e (i + 1)) first)
  listed_more sound i at next first out after h fits inv is wrote =
      let old = entailed l nodes e i in
      let new = node_releases l nodes e i (node nodes i) in
      let more = entailed_more i in
      let long = ap length more ∙ length-append old new in
      let space = room l nodes sound e i h in
      let p = put_after old new first (omega arith) in (
        omega (arith, inv.0),
        wrote ∙ ap (λ (o : List Release). put_from o at new) inv.1 ∙ ap (λ (n : ℕ). put_from (releases_after old first) n new) inv.0 ∙ p ∙ ap (λ (xs : List Release). releases_after xs first) (sym more),
      )
