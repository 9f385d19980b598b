-- The loop that writes a plan, from the root down.
use Rattle.std.proofs.Common.{◌≡◌, ℕ, ◌+◌, ◌-◌, ◌<◌, ◌≤◌, Bool, true, false, cond, ◌||◌, eqb, ltb, ◌⊎◌, List, length, set, Some, None, Option, sym, refl, ap, ◌∙◌, subst, inl, inr, ⊎_elim, arith, length-set}
use Rattle.std.specs.List.{AllByRecursion}
use Rattle.std.proofs.lemmas.List.{get_or-set_same, get_or-set_other}
use Rattle.std.proofs.lemmas.List.FromFn.{fill_by_all}
use Rattle.std.proofs.lemmas.Bool.{cases_eq, cases_lt, cases_Bool, cases_order, or_parts, or_cases, eqb-true, eqb-false, false≢true, both_ways, cond-true, cond-false, lt-ltb, le-ltb}
use Rattle.chart.specs.Layout.{Layout}
use Rattle.chart.specs.Sound as chart
use Rattle.profile.specs.declared.shape.Profile.{Profile}
use Rattle.tariff.specs.Pricing.{Pricing}
use Rattle.queries.specs.declared.node.Node.{Node}
use Rattle.queries.specs.declared.node.Node.TheVariants.{Leaf, Project, Filter, Join}
use Rattle.queries.specs.Trees.{Tree, top}
use Rattle.queries.specs.Flat.{node, operands, grow, tree_of}
use Rattle.queries.specs.Questions.{uses}
use Rattle.queries.specs.Sound.{Sound}
use Rattle.assignments.specs.declared.mode.Mode.{Mode}
use Rattle.assignments.specs.declared.mode.Mode.TheVariants.{Local}
use Rattle.assignments.specs.declared.parts.Step.{Step}
use Rattle.assignments.specs.declared.parts.Place.{Place}
use Rattle.assignments.specs.Modes.{left_at, right_at}
use Rattle.assignments.specs.Assignments.{Steps, step}
use Rattle.assignments.specs.Table.{place, recorded}
use Rattle.assignments.specs.Follows.{Holds, Follows}
use Rattle.assignments.proofs.Cheapest.{not_both, same_some}
use Rattle.assignments.proofs.Follows.{step_is, recorded_executor, follows_recorded, follows_way}
use Rattle.assignments.proofs.Stands.{executor_below}
use Rattle.assignments.proofs.Nodes.{tree_is, tree_top, tree_distinct, follows_all, operand_below}
use Rattle.search.specs.Rows.{place_at, Filled}
use Rattle.planner.specs.Plans.{at_step, plan_after, led}

-- the root, or an operand of a node from i on
abbrev pub From : List Node → ℕ → ℕ → Type 0
From nodes i k = (k + 1 ≡ length nodes) ⊎ ((a : ℕ) × (i ≤ a) × (a < length nodes) × (uses k (node nodes a) ≡ true))

-- the nodes from i on have their steps, what they send on has its executor, and the places behind the nodes are as before
pub record Written (nodes : List Node) (e : Steps) (old : List Step) (i : ℕ) (plan : List Step) : Type 0 where
  pub done : (k : ℕ) → i ≤ k → k < length nodes → at_step plan k ≡ e k
  pub ready : (k : ℕ) → k < length nodes → From nodes i k → (at_step plan k).executor ≡ (e k).executor
  pub later : (k : ℕ) → length nodes ≤ k → at_step plan k ≡ at_step old k

-- ---- one write
here : (plan : List Step) (i : ℕ) (v : Step) → i < length plan → at_step (set plan i v) i ≡ v
here plan i v h = get_or-set_same plan i v (step 0 Local) h

other : (plan : List Step) (i k : ℕ) (v : Step) → (k ≡ i → ⊥) → at_step (set plan i v) k ≡ at_step plan k
other plan i k v ne = get_or-set_other plan i k v (step 0 Local) ne

unused_one : (a k : ℕ) → (eqb a k || false) ≡ false → k ≡ a → ⊥
unused_one a k f z = eqb-false a k (or_parts (eqb a k) false f).0 (sym z)

used_one : (a k : ℕ) → (eqb a k || false) ≡ true → k ≡ a
used_one a k h = ⊎_elim (λ t. sym (eqb-true a k t)) (λ f. absurd (false≢true f)) (or_cases (eqb a k) false h)

-- the operands of a node at s are where its place says
abbrev Onward : {P : Type 0} → Steps → ℕ → Place P → Node → Type 0
Onward e s p (Leaf r) = Unit {0}
Onward e s p (Project j a) = (e j).executor ≡ s
Onward e s p (Filter j a) = (e j).executor ≡ s
Onward e s p (Join a b k) = ((e a).executor ≡ left_at p.mode s p.other) × ((e b).executor ≡ right_at p.mode s p.other)

module _ (i s : ℕ) (m : Mode) (u : ℕ) (plan : List Step) (long : i < length plan) where
  led_here : (x : Node) → AllByRecursion (λ j. j < i) (operands x) → at_step (led x i s m u plan) i ≡ step s m
  led_here (Leaf r) h = here plan i (step s m) long
  led_here (Project j a) h = other (set plan i (step s m)) j i (step s Local) (λ z. omega (arith, h.0)) ∙ here plan i (step s m) long
  led_here (Filter j a) h = other (set plan i (step s m)) j i (step s Local) (λ z. omega (arith, h.0)) ∙ here plan i (step s m) long
  led_here (Join a b k) h =
      other (set (set plan i (step s m)) a (step (left_at m s u) Local)) b i (step (right_at m s u) Local) (λ z. omega (arith, h.1.0))
      ∙ other (set plan i (step s m)) a i (step (left_at m s u) Local) (λ z. omega (arith, h.0))
      ∙ here plan i (step s m) long

  led_other : (x : Node) (k : ℕ) → (k ≡ i → ⊥) → uses k x ≡ false → at_step (led x i s m u plan) k ≡ at_step plan k
  led_other (Leaf r) k ne free = other plan i k (step s m) ne
  led_other (Project j a) k ne free = other (set plan i (step s m)) j k (step s Local) (unused_one j k free) ∙ other plan i k (step s m) ne
  led_other (Filter j a) k ne free = other (set plan i (step s m)) j k (step s Local) (unused_one j k free) ∙ other plan i k (step s m) ne
  led_other (Join a b n) k ne free =
      let two = or_parts (eqb a k) (eqb b k || false) free in
      other (set (set plan i (step s m)) a (step (left_at m s u) Local)) b k (step (right_at m s u) Local) (unused_one b k two.1)
      ∙ other (set plan i (step s m)) a k (step (left_at m s u) Local) (λ z. eqb-false a k two.0 (sym z))
      ∙ other plan i k (step s m) ne

-- an operand has the executor that the place says
module _ {P : Type 0} (e : Steps) (i s : ℕ) (p : Place P) (plan : List Step) (long : i < length plan) where
  sent_here : (old : List Step) (j k v : ℕ) → j < length old → k ≡ j → (e j).executor ≡ v → (at_step (set old j (step v Local)) k).executor ≡ (e k).executor
  sent_here old j k v h z is =
      ap (λ (n : ℕ). (at_step (set old j (step v Local)) n).executor) z ∙ ap (λ (w : Step). w.executor) (here old j (step v Local) h) ∙ sym is ∙ ap (λ (n : ℕ). (e n).executor) (sym z)

  led_onward : (x : Node) (k : ℕ) → AllByRecursion (λ j. j < i) (operands x) → Onward e s p x → uses k x ≡ true → (at_step (led x i s p.mode p.other plan) k).executor ≡ (e k).executor
  led_onward (Leaf r) k h on hit = absurd (false≢true hit)
  led_onward (Project j a) k h on hit = sent_here (set plan i (step s p.mode)) j k s (simp length-set (omega (arith, h.0))) (used_one j k hit) on
  led_onward (Filter j a) k h on hit = sent_here (set plan i (step s p.mode)) j k s (simp length-set (omega (arith, h.0))) (used_one j k hit) on
  led_onward (Join a b n) k h on hit =
      let first = set plan i (step s p.mode) in
      let x = left_at p.mode s p.other in
      let y = right_at p.mode s p.other in
      ⊎_elim (λ (z : k ≡ b). sent_here (set first a (step x Local)) b k y (simp length-set (omega (arith, h.1.0))) z on.1)
      (λ (ne : k ≡ b → ⊥).
      ap (λ (w : Step). w.executor) (other (set first a (step x Local)) b k (step y Local) ne)
      ∙ sent_here first a k x (simp length-set (omega (arith, h.0)))
      (⊎_elim (λ t. sym (eqb-true a k t)) (λ t. absurd (ne (used_one b k t))) (or_cases (eqb a k) (eqb b k || false) hit)) on.0)
      (cases_eq k b)

-- the node k of an assignment goes by its place
record Leads {P : Type 0} (T : ℕ → ℕ → Option (Place P)) (nodes : List Node) (e : Steps) (k : ℕ) : Type 0 where
  pub p : Place P
  pub held : T k (e k).executor ≡ Some p
  pub by_mode : (e k).mode ≡ p.mode
  pub onward : Onward e (e k).executor p (node nodes k)

-- ---- one turn, at the node i
module _ {P : Type 0} (T : ℕ → ℕ → Option (Place P)) (l : Layout) (nodes : List Node) (sound : Sound l nodes) (e : Steps) (old : List Step)
    (i : ℕ) (h : i < length nodes) (leads : Leads T nodes e i) (plan : List Step) (fits : length nodes ≤ length plan) (w : Written nodes e old (i + 1) plan) where
  from_next : From nodes (i + 1) i
  from_next = ⊎_elim (λ z. inl z)
      (λ ne. let u = sound.used i (omega arith) in let b = operand_below l nodes sound u.0 i u.1 u.2 in inr (u.0, omega arith, u.1, u.2))
      (cases_eq (i + 1) (length nodes))

  lies : (at_step plan i).executor ≡ (e i).executor
  lies = w.ready i h from_next

  down_never : None ≡ T i (at_step plan i).executor → ⊥
  down_never is = not_both (T i (at_step plan i).executor) leads.p (sym is) (ap (T i) lies ∙ leads.held)

  module _ (s : ℕ) (q : Place P) (at : (at_step plan i).executor ≡ s) (is : Some q ≡ T i s) where
    abbrev after : List Step
    after = led (node nodes i) i s q.mode q.other plan

    long : i < length plan
    long = omega arith

    same : leads.p ≡ q
    same = same_some (T i s) leads.p q (ap (T i) (sym at ∙ lies) ∙ leads.held) (sym is)

    on : Onward e s q (node nodes i)
    on =
        subst (λ (v : ℕ). Onward e v q (node nodes i)) (sym lies ∙ at)
        (subst (λ (v : Place P). Onward e (e i).executor v (node nodes i)) same leads.onward)

    unused : (k : ℕ) → i ≤ k → uses k (node nodes i) ≡ false
    unused k le = ⊎_elim (λ t. absurd (let b = operand_below l nodes sound i k h t in omega arith)) (λ f. f) (cases_Bool (uses k (node nodes i)))

    down_later : (k : ℕ) → length nodes ≤ k → at_step after k ≡ at_step plan k
    down_later k le = led_other i s q.mode q.other plan long (node nodes i) k (λ z. omega arith) (unused k (omega arith))

    done_here : at_step after i ≡ e i
    done_here =
        led_here i s q.mode q.other plan long (node nodes i) (sound.earlier i h)
        ∙ sym (step_is (e i) s q.mode (sym lies ∙ at) (leads.by_mode ∙ ap (λ (v : Place P). v.mode) same))

    done_above : (k : ℕ) → i < k → k < length nodes → at_step after k ≡ e k
    done_above k lt hk = led_other i s q.mode q.other plan long (node nodes i) k (λ z. omega arith) (unused k (omega arith)) ∙ w.done k (omega arith) hk

    done_more : (k : ℕ) → i ≤ k → k < length nodes → at_step after k ≡ e k
    done_more k le hk =
        ⊎_elim (λ z. subst (λ (n : ℕ). at_step after n ≡ e n) (sym z) done_here) (⊎_elim (λ lt. absurd (omega arith)) (λ lt. done_above k lt hk)) (cases_order k i)

    ready_below : (k : ℕ) → k < i → From nodes i k → (at_step after k).executor ≡ (e k).executor
    ready_below k lt (inl z) = absurd (omega arith)
    ready_below k lt (inr a) =
        ⊎_elim (λ hit. led_onward e i s q plan long (node nodes i) k (sound.earlier i h) on hit)
        (λ free.
        ap (λ (v : Step). v.executor) (led_other i s q.mode q.other plan long (node nodes i) k (λ z. omega arith) free)
        ∙ w.ready k (omega arith) (inr (a.0, later a.0 a.1 a.3 free, a.2, a.3)))
        (cases_Bool (uses k (node nodes i)))
      where
        later : (b : ℕ) → i ≤ b → uses k (node nodes b) ≡ true → uses k (node nodes i) ≡ false → i + 1 ≤ b
        later b le hit free =
            ⊎_elim (λ z. absurd (both_ways (uses k (node nodes i)) free (subst (λ (n : ℕ). uses k (node nodes n) ≡ true) z hit))) (λ ne. omega arith) (cases_eq b i)

    down : Written nodes e old i after
    down = record {
      done = done_more;
      ready = λ k hk from. ⊎_elim (λ lt. ready_below k lt from) (λ le. ap (λ (v : Step). v.executor) (done_more k le hk)) (cases_lt k i);
      later = λ k le. down_later k le ∙ w.later k le;
    }

-- ---- the recorded assignment goes by its places
module _ {P : Type 0} (f : ℕ → Tree) (l : Layout) (c : Pricing P) (may : ℕ → Profile → Bool) (e : Steps) (i : ℕ) where
  grow_leads : (x : Node) → AllByRecursion (λ j. top (f j) ≡ j) (operands x) → Follows l c may e (grow f i x) → (p : Place P) × Holds l c may e (grow f i x) p × Onward e (e i).executor p x
  grow_leads (Leaf r) tops h = (h.0, h.1, tt)
  grow_leads (Project j s) tops h = (h.0, h.1, ap (λ (n : ℕ). (e n).executor) (sym tops.0) ∙ h.2)
  grow_leads (Filter j s) tops h = (h.0, h.1, ap (λ (n : ℕ). (e n).executor) (sym tops.0) ∙ h.2)
  grow_leads (Join a b k) tops h =
      (h.0, h.1, (ap (λ (n : ℕ). (e n).executor) (sym tops.0) ∙ h.2, ap (λ (n : ℕ). (e n).executor) (sym tops.1.0) ∙ h.3))

-- what the table is filled with
pub record Meant {P : Type 0} (nodes : List Node) (places : List (Option (Place P))) (n s : ℕ) (l : Layout) (c : Pricing P) (may : ℕ → Profile → Bool) (old : List (Option (Place P))) (p : Place P) : Type 0 where
  pub charted : chart.Sound l
  pub sound : Sound l nodes
  pub servers : n ≡ l.servers
  pub filled : Filled c may l nodes (length nodes) old places
  pub held : place c may l.servers l (tree_of nodes (length nodes - 1)) s ≡ Some p
  pub below : s < l.servers

module _ {P : Type 0} (nodes : List Node) (places : List (Option (Place P))) (n s : ℕ) (l : Layout) (c : Pricing P) (may : ℕ → Profile → Bool) (old : List (Option (Place P))) (p : Place P)
    (m : Meant nodes places n s l c may old p) where
  abbrev pub by_table : Steps
  by_table = recorded c may l.servers l (tree_of nodes (length nodes - 1)) s

  some : length nodes - 1 < length nodes
  some = let h = m.sound.some in omega arith

  tops : (i : ℕ) → i < length nodes → (x : Node) → AllByRecursion (λ j. j < i) (operands x) → AllByRecursion (λ j. top (tree_of nodes j) ≡ j) (operands x)
  tops i h (Leaf r) b = tt
  tops i h (Project j a) b = (tree_top l nodes m.sound j (omega (arith, b.0)), tt)
  tops i h (Filter j a) b = (tree_top l nodes m.sound j (omega (arith, b.0)), tt)
  tops i h (Join x y k) b = (tree_top l nodes m.sound x (omega (arith, b.0)), (tree_top l nodes m.sound y (omega (arith, b.1.0)), tt))

  follows : (k : ℕ) → k < length nodes → Follows l c may by_table (tree_of nodes k)
  follows k h =
      follows_all l nodes m.sound c may by_table
      (follows_recorded l c may (tree_of nodes (length nodes - 1)) (tree_distinct l nodes m.sound (length nodes - 1) some) s p m.held) k h

  root_at : (by_table (length nodes - 1)).executor ≡ s
  root_at =
      ap (λ (k : ℕ). (by_table k).executor) (sym (tree_top l nodes m.sound (length nodes - 1) some)) ∙ recorded_executor l c may (tree_of nodes (length nodes - 1)) s

  leads_at : (k : ℕ) → k < length nodes → Leads (place_at places n) nodes by_table k
  leads_at k h =
      let t = tree_of nodes k in
      let f = follows k h in
      let z = tree_is l nodes m.sound k h in
      let g = grow_leads (tree_of nodes) l c may by_table k (node nodes k) (tops k h (node nodes k) (m.sound.earlier k h)) (subst (Follows l c may by_table) z f) in
      let holds : Holds l c may by_table t g.0 = subst (λ (x : Tree). Holds l c may by_table x g.0) (sym z) g.1 in
      let root = tree_top l nodes m.sound k h in
      let lies : (by_table (top t)).executor ≡ (by_table k).executor = ap (λ (j : ℕ). (by_table j).executor) root in
      let low : (by_table (top t)).executor < l.servers = executor_below l m.charted by_table t (follows_way l c may by_table t g.0 holds.held f).way.obeys in
      record {
        p = g.0;
        held =
            ap (λ (j : ℕ). place_at places j k (by_table k).executor) m.servers
            ∙ m.filled.rows k (by_table k).executor h (omega arith)
            ∙ ap (place c may l.servers l t) (sym lies) ∙ holds.held;
        by_mode = ap (λ (j : ℕ). (by_table j).mode) (sym root) ∙ holds.by_mode;
        onward = g.2;
      }

  -- the root is sent to its executor
  pub written_none : (plan : List Step) → length nodes ≤ length plan → Written nodes by_table (set plan (length nodes - 1) (step s Local)) (length nodes) (set plan (length nodes - 1) (step s Local))
  written_none plan fits = record {
    done = λ k le h. absurd (omega arith);
    ready = start;
    later = λ k le. refl;
  }
    where
      start : (k : ℕ) → k < length nodes → From nodes (length nodes) k → (at_step (set plan (length nodes - 1) (step s Local)) k).executor ≡ (by_table k).executor
      start k h (inl z) =
          let y : k ≡ length nodes - 1 = omega arith in
          ap (λ (j : ℕ). (at_step (set plan (length nodes - 1) (step s Local)) j).executor) y
          ∙ ap (λ (v : Step). v.executor) (here plan (length nodes - 1) (step s Local) (omega arith))
          ∙ sym root_at ∙ ap (λ (j : ℕ). (by_table j).executor) (sym y)
      start k h (inr a) = absurd (omega (arith, a.1, a.2))

  -- one turn, at the node i - 1
  module _ (first plan : List Step) (fits : length nodes ≤ length plan) (i : ℕ) (some_left : 0 < i) (in_nodes : i ≤ length nodes) (w : Written nodes by_table first i plan) where
    at_next : Written nodes by_table first ((i - 1) + 1) plan
    at_next = let z : i ≡ (i - 1) + 1 = omega arith in subst (λ (k : ℕ). Written nodes by_table first k plan) z w

    -- its place is never empty
    pub turn_never : (start : List Step) (o : Option (Place P)) → o ≡ None → o ≡ place_at places n (i - 1) (at_step plan (i - 1)).executor → plan ≡ plan_after by_table (length nodes) start
    turn_never start o none is =
        absurd (down_never (place_at places n) l nodes m.sound by_table first (i - 1) (omega arith) (leads_at (i - 1) (omega arith)) plan fits at_next (sym none ∙ is))

    pub turn : (q : Place P) (next : List Step) → Some q ≡ place_at places n (i - 1) (at_step plan (i - 1)).executor
        → next ≡ led (node nodes (i - 1)) (i - 1) (at_step plan (i - 1)).executor q.mode q.other plan → Written nodes by_table first (i - 1) next
    turn q next is z =
        subst (Written nodes by_table first (i - 1)) (sym z)
        (down (place_at places n) l nodes m.sound by_table first (i - 1) (omega arith) (leads_at (i - 1) (omega arith)) plan fits at_next (at_step plan (i - 1)).executor q refl is)

  -- all nodes are written
  pub written_all : (first new : List Step) → length new ≡ length first → length nodes ≤ length first → (i : ℕ) → i ≤ 0 → Written nodes by_table (set first (length nodes - 1) (step s Local)) i new → new ≡ plan_after by_table (length nodes) first
  written_all first new long fits i none w =
      fill_by_all (λ k. cond (ltb k (length nodes)) (by_table k) (at_step first k)) new (length first) (step 0 Local) long
      (λ k h. ⊎_elim (λ lt. w.done k (omega arith) lt ∙ sym (cond-true (ltb k (length nodes)) (by_table k) (at_step first k) (lt-ltb k (length nodes) lt)))
      (λ le. w.later k le ∙ other first (length nodes - 1) k (step s Local) (λ z. let h = m.sound.some in omega arith) ∙ sym (cond-false (ltb k (length nodes)) (by_table k) (at_step first k) (le-ltb k (length nodes) le))) (cases_lt k (length nodes)))
