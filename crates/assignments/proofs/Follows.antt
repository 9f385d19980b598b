-- Assignments that follow the table: the recorded one does, each is safe at the table's price, and there is but one.
use Rattle.std.proofs.Common.{◌≡◌, ℕ, Bool, true, false, cond, ◌||◌, eqb, Some, None, Option, sym, refl, ap, ◌∙◌, subst, ⊎_elim}
use Rattle.std.proofs.lemmas.Bool.{both_ways, or_cases, cases_Bool, eqb-true, eq-eqb, cond-true, cond-false}
use Rattle.chart.specs.Layout.{Layout}
use Rattle.chart.specs.Lookup.{server_of}
use Rattle.profile.specs.declared.shape.Profile.{Profile}
use Rattle.tariff.specs.Pricing.{Pricing}
use Rattle.queries.specs.Trees.{Tree, leaf, projection, filtering, join, top, has_node, pair_of}
use Rattle.assignments.specs.declared.mode.Mode.{Mode}
use Rattle.assignments.specs.declared.mode.Mode.TheVariants.{Local}
use Rattle.assignments.specs.declared.parts.Step.{Step}
use Rattle.assignments.specs.declared.parts.Place.{Place}
use Rattle.assignments.specs.Modes.{Joins, other_of, left_at, right_at, releases, allowed}
use Rattle.assignments.specs.Assignments.{Steps, step, executor, own_price, cost}
use Rattle.assignments.specs.Table.{holding, same_server, kept, place, left_by, right_by, mode_by, recorded}
use Rattle.assignments.specs.Stands.{Distinct}
use Rattle.assignments.specs.Follows.{Holds, Follows}
use Rattle.assignments.specs.Theorem.{Reaches}
use Rattle.assignments.proofs.Modes.{option_joins, option_other}
use Rattle.assignments.proofs.Cheapest.{not_both, same_some}
use Rattle.assignments.proofs.Options.{offered, best_offered}
use Rattle.assignments.proofs.Alike.{has_top, not_root, Agree, follows_like}

pub step_is : (v : Step) (s : ℕ) (m : Mode) → v.executor ≡ s → v.mode ≡ m → v ≡ step s m
step_is v s m a b = subst (λ (x : ℕ). v ≡ step x m) a (subst (λ (y : Mode). v ≡ step v.executor y) b refl)

-- what a place that holds a price tells
pub uncond : {X : Type 0} (b : Bool) (q p : X) → cond b (Some q) None ≡ Some p → (b ≡ true) × (p ≡ q)
uncond true q p e = (refl, cc)
uncond false q p e = absurd (not_both _ p refl e)

pub unkept : {P : Type 0} (s : ℕ) (o : Option (Place P)) (p : Place P) → kept s o ≡ Some p → (x : Place P) × (o ≡ Some x) × (p ≡ holding x.price Local s)
unkept s None p e = absurd (not_both _ p refl e)
unkept s (Some x) p e = (x, refl, cc)

pub at_server : (o : Option ℕ) (s : ℕ) → same_server o s ≡ true → o ≡ Some s
at_server None s e = absurd (both_ways false refl e)
at_server (Some h) s e = ap Some (eqb-true h s e)

kept_mode : {P : Type 0} (s : ℕ) (o : Option (Place P)) → mode_by (kept s o) ≡ Local
kept_mode s None = refl
kept_mode s (Some x) = refl

-- what is read off a mode and two servers
read : {X : Type 0} (h : Mode → ℕ → ℕ → X) (m n : Mode) (x v y w : ℕ) → m ≡ n → x ≡ v → y ≡ w → h m x y ≡ h n v w
read h m n x v y w a b d = cc

joins_at : (s : ℕ) (m n : Mode) (x v y w : ℕ) → m ≡ n → x ≡ v → y ≡ w → Joins m s x y → Joins n s v w
joins_at s m n x v y w a b d h =
    subst (λ (k : Mode). Joins k s v w) a (subst (λ (k : ℕ). Joins m s k w) b (subst (λ (k : ℕ). Joins m s x k) d h))

module _ {P : Type 0} (l : Layout) (c : Pricing P) (may : ℕ → Profile → Bool) where
  abbrev at : Tree → ℕ → Option (Place P)
  at t s = place c may l.servers l t s

  abbrev by_table : Tree → ℕ → Steps
  by_table t s = recorded c may l.servers l t s

  -- ---- the recorded assignment follows the table
  recorded_top : (t : Tree) (s : ℕ) → by_table t s (top t) ≡ step s (mode_by (at t s))
  recorded_top (leaf i r) s = go (same_server (server_of l r) s)
    where
      go : (b : Bool) → step s Local ≡ step s (mode_by (cond b (Some (holding c.free Local s)) None))
      go true = refl
      go false = refl
  recorded_top (projection i a t) s = cond-true (eqb i i) (step s Local) (by_table t s i) (eq-eqb i i refl) ∙ ap (step s) (sym (kept_mode s (at t s)))
  recorded_top (filtering i a t) s = cond-true (eqb i i) (step s Local) (by_table t s i) (eq-eqb i i refl) ∙ ap (step s) (sym (kept_mode s (at t s)))
  recorded_top (join i k a b) s =
      let o = at (join i k a b) s in
      cond-true (eqb i i) (step s (mode_by o)) (cond (has_node a i) (by_table a (left_by s o) i) (by_table b (right_by s o) i)) (eq-eqb i i refl)

  pub recorded_executor : (t : Tree) (s : ℕ) → executor (by_table t s) t ≡ s
  recorded_executor t s = ap (λ (v : Step). v.executor) (recorded_top t s)

  recorded_holds : (t : Tree) (s : ℕ) (p : Place P) → at t s ≡ Some p → Holds l c may (by_table t s) t p
  recorded_holds t s p e = record {
    held = ap (at t) (recorded_executor t s) ∙ e;
    by_mode = ap (λ (v : Step). v.mode) (recorded_top t s) ∙ ap mode_by e;
  }

  -- the recorded assignment of a tree is that of its operands
  over_agrees : (i : ℕ) (t : Tree) (s : ℕ) → has_node t i ≡ false → (k : ℕ) → has_node t k ≡ true → by_table t s k ≡ cond (eqb k i) (step s Local) (by_table t s k)
  over_agrees i t s lacks k h = sym (cond-false (eqb k i) (step s Local) (by_table t s k) (not_root t i k lacks h))

  over_executor : (t : Tree) (e : Steps) (s : ℕ) → Agree t (by_table t s) e → executor e t ≡ s
  over_executor t e s g = ap (λ (v : Step). v.executor) (sym (g (top t) (has_top t))) ∙ recorded_executor t s

  module _ (i k : ℕ) (a b : Tree) (s x y : ℕ) (xs : left_by s (at (join i k a b) s) ≡ x) (ys : right_by s (at (join i k a b) s) ≡ y) where
    left_agrees : has_node a i ≡ false → Agree a (by_table a x) (by_table (join i k a b) s)
    left_agrees lacks n h =
        let o = at (join i k a b) s in
        sym (
        cond-false (eqb n i) (step s (mode_by o)) (cond (has_node a n) (by_table a (left_by s o) n) (by_table b (right_by s o) n)) (not_root a i n lacks h)
        ∙ cond-true (has_node a n) (by_table a (left_by s o) n) (by_table b (right_by s o) n) h
        ∙ ap (λ (z : ℕ). by_table a z n) xs)

    right_agrees : has_node b i ≡ false → ((n : ℕ) → has_node a n ≡ true → has_node b n ≡ false) → Agree b (by_table b y) (by_table (join i k a b) s)
    right_agrees lacks apart n h =
        let o = at (join i k a b) s in
        let outside : has_node a n ≡ false = ⊎_elim (λ t. absurd (both_ways (has_node b n) (apart n t) h)) (λ f. f) (cases_Bool (has_node a n)) in
        sym (
        cond-false (eqb n i) (step s (mode_by o)) (cond (has_node a n) (by_table a (left_by s o) n) (by_table b (right_by s o) n)) (not_root b i n lacks h)
        ∙ cond-false (has_node a n) (by_table a (left_by s o) n) (by_table b (right_by s o) n) outside
        ∙ ap (λ (z : ℕ). by_table b z n) ys)

  pub follows_recorded : (t : Tree) → Distinct t → (s : ℕ) (p : Place P) → place c may l.servers l t s ≡ Some p → Follows l c may (recorded c may l.servers l t s) t
  follows_recorded (leaf i r) d s p e = (p, recorded_holds (leaf i r) s p e)
  follows_recorded (projection i a t) d s p e =
      let u = unkept s (at t s) p e in
      let g : Agree t (by_table t s) (by_table (projection i a t) s) = over_agrees i t s d.0 in (
        p,
        recorded_holds (projection i a t) s p e,
        over_executor t (by_table (projection i a t) s) s g ∙ sym (recorded_executor (projection i a t) s),
        follows_like (by_table t s) (by_table (projection i a t) s) l c may t g (follows_recorded t d.1 s u.0 u.1),
      )
  follows_recorded (filtering i a t) d s p e =
      let u = unkept s (at t s) p e in
      let g : Agree t (by_table t s) (by_table (filtering i a t) s) = over_agrees i t s d.0 in (
        p,
        recorded_holds (filtering i a t) s p e,
        over_executor t (by_table (filtering i a t) s) s g ∙ sym (recorded_executor (filtering i a t) s),
        follows_like (by_table t s) (by_table (filtering i a t) s) l c may t g (follows_recorded t d.1 s u.0 u.1),
      )
  follows_recorded (join i k a b) d s p e =
      let all = by_table (join i k a b) s in
      let x = left_at p.mode s p.other in
      let y = right_at p.mode s p.other in
      let o = offered c may l.servers (pair_of l k a b) (at a) (at b) s p.mode p.other p (best_offered c may l.servers (pair_of l k a b) (at a) (at b) s p e).1 in
      let ga : Agree a (by_table a x) all = left_agrees i k a b s x y (ap (left_by s) e) (ap (right_by s) e) d.0 in
      let gb : Agree b (by_table b y) all = right_agrees i k a b s x y (ap (left_by s) e) (ap (right_by s) e) d.1 d.2 in
      let root = recorded_executor (join i k a b) s in (
        p,
        recorded_holds (join i k a b) s p e,
        over_executor a all x ga ∙ ap (λ (z : ℕ). left_at p.mode z p.other) (sym root),
        over_executor b all y gb ∙ ap (λ (z : ℕ). right_at p.mode z p.other) (sym root),
        follows_like (by_table a x) all l c may a ga (follows_recorded a d.3 x o.left o.at_left),
        follows_like (by_table b y) all l c may b gb (follows_recorded b d.4 y o.right o.at_right),
      )

  -- ---- what follows the table is safe, at the table's price
  pub follows_holds : (e : Steps) (t : Tree) → Follows l c may e t → (p : Place P) × Holds l c may e t p
  follows_holds e (leaf i r) h = (h.0, h.1)
  follows_holds e (projection i s t) h = (h.0, h.1)
  follows_holds e (filtering i s t) h = (h.0, h.1)
  follows_holds e (join i k a b) h = (h.0, h.1)

  -- a node that is not a join has the operand's price, and lies where the operand does
  module _ (e : Steps) (i : ℕ) (t : Tree) (p q : Place P) (held : kept (e i).executor (at t (e i).executor) ≡ Some p) (same : (e i).mode ≡ q.mode) (is : q ≡ p) (lies : executor e t ≡ (e i).executor) where
    over : (x : Place P) × (at t (executor e t) ≡ Some x) × ((e i).mode ≡ Local) × (x.price ≡ p.price) × (p.mode ≡ Local) × ((e i).executor ≡ p.other)
    over =
        let u = unkept (e i).executor (at t (e i).executor) p held in
        let m : p.mode ≡ Local = ap (λ (z : Place P). z.mode) u.2 in
        (u.0, ap (at t) lies ∙ u.1, same ∙ ap (λ (z : Place P). z.mode) is ∙ m, sym (ap (λ (z : Place P). z.price) u.2), m, sym (ap (λ (z : Place P). z.other) u.2))

  pub follows_way : (e : Steps) (t : Tree) (p : Place P) → place c may l.servers l t (executor e t) ≡ Some p → Follows l c may e t → Reaches l c may t (executor e t) p e
  follows_way e (leaf i r) p held h =
      let is : h.0 ≡ p = same_some (at (leaf i r) (e i).executor) h.0 p h.1.held held in
      let u = uncond (same_server (server_of l r) (e i).executor) (holding c.free Local (e i).executor) p held in
      let mode : (e i).mode ≡ p.mode = h.1.by_mode ∙ ap (λ (z : Place P). z.mode) is in
      record {
        way = record { obeys = (at_server (server_of l r) (e i).executor u.0, mode ∙ ap (λ (z : Place P). z.mode) u.1); at = refl; safe = tt };
        costs = sym (ap (λ (z : Place P). z.price) u.1);
        by_mode = mode;
        by_other = sym (ap (λ (z : Place P). z.other) u.1);
      }
  follows_way e (projection i s t) p held h =
      let is : h.0 ≡ p = same_some (at (projection i s t) (e i).executor) h.0 p h.1.held held in
      let u = over e i t p h.0 held h.1.by_mode is h.2 in
      let r = follows_way e t u.0 u.1 h.3 in
      record {
        way = record { obeys = (sym h.2, u.2, r.way.obeys); at = refl; safe = r.way.safe };
        costs = r.costs ∙ u.3;
        by_mode = u.2 ∙ sym u.4;
        by_other = u.5;
      }
  follows_way e (filtering i s t) p held h =
      let is : h.0 ≡ p = same_some (at (filtering i s t) (e i).executor) h.0 p h.1.held held in
      let u = over e i t p h.0 held h.1.by_mode is h.2 in
      let r = follows_way e t u.0 u.1 h.3 in
      record {
        way = record { obeys = (sym h.2, u.2, r.way.obeys); at = refl; safe = r.way.safe };
        costs = r.costs ∙ u.3;
        by_mode = u.2 ∙ sym u.4;
        by_other = u.5;
      }
  follows_way e (join i k a b) p held h =
      let j = pair_of l k a b in
      let s = (e i).executor in
      let x = left_at p.mode s p.other in
      let y = right_at p.mode s p.other in
      let is : h.0 ≡ p = same_some (at (join i k a b) s) h.0 p h.1.held held in
      let mode : (e i).mode ≡ p.mode = h.1.by_mode ∙ ap (λ (z : Place P). z.mode) is in
      let xs : executor e a ≡ x = h.2 ∙ ap (λ (z : Place P). left_at z.mode s z.other) is in
      let ys : executor e b ≡ y = h.3 ∙ ap (λ (z : Place P). right_at z.mode s z.other) is in
      let o = offered c may l.servers j (at a) (at b) s p.mode p.other p (best_offered c may l.servers j (at a) (at b) s p held).1 in
      let ra = follows_way e a o.left (ap (at a) xs ∙ o.at_left) h.4 in
      let rb = follows_way e b o.right (ap (at b) ys ∙ o.at_right) h.5 in
      let sent : releases j (e i).mode (executor e a) (executor e b) ≡ releases j p.mode x y
      = read (releases j) (e i).mode p.mode (executor e a) x (executor e b) y mode xs ys in
      let own : own_price c (releases j (e i).mode (executor e a) (executor e b)) ≡ own_price c (releases j p.mode x y) = ap (own_price c) sent in
      let gives : c.sum (c.sum o.left.price o.right.price) (own_price c (releases j p.mode x y)) ≡ p.price = sym (ap (λ (z : Place P). z.price) o.gives) in
      let left : cost l c e a ≡ o.left.price = ra.costs in
      let right : cost l c e b ≡ o.right.price = rb.costs in
      record {
        way = record {
          obeys = (joins_at s p.mode (e i).mode x (executor e a) y (executor e b) (sym mode) (sym xs) (sym ys) (option_joins p.mode s p.other o.fit), ra.way.obeys, rb.way.obeys);
          at = refl;
          safe = (ra.way.safe, rb.way.safe, ap (allowed may) sent ∙ o.safe);
        };
        costs = ap (λ (z : P). c.sum (c.sum z (cost l c e b)) (own_price c (releases j (e i).mode (executor e a) (executor e b)))) left
            ∙ ap (λ (z : P). c.sum (c.sum o.left.price z) (own_price c (releases j (e i).mode (executor e a) (executor e b)))) right
            ∙ ap (c.sum (c.sum o.left.price o.right.price)) own ∙ gives;
        by_mode = mode;
        by_other = read other_of (e i).mode p.mode (executor e a) x (executor e b) y mode xs ys ∙ option_other p.mode s p.other;
      }

  -- ---- and it is the recorded one
  module _ (e : Steps) where
    follows_top : (t : Tree) (s : ℕ) → executor e t ≡ s → Follows l c may e t → e (top t) ≡ by_table t s (top t)
    follows_top t s es h =
        let g = follows_holds e t h in
        let held : at t s ≡ Some g.0 = ap (at t) (sym es) ∙ g.1.held in
        step_is (e (top t)) s (mode_by (at t s)) es (g.1.by_mode ∙ sym (ap mode_by held)) ∙ sym (recorded_top t s)

    -- the step at the root's number
    at_root : (t : Tree) (s k : ℕ) → executor e t ≡ s → Follows l c may e t → eqb k (top t) ≡ true → e k ≡ by_table t s k
    at_root t s k es h root = let z : k ≡ top t = eqb-true k (top t) root in subst (λ (n : ℕ). e n ≡ by_table t s n) (sym z) (follows_top t s es h)

    under : (x y : Bool) → x ≡ false → (x || y) ≡ true → y ≡ true
    under x y f h = ⊎_elim (λ t. absurd (both_ways x f t)) (λ t. t) (or_cases x y h)

    pub follows_unique : (t : Tree) (s : ℕ) → executor e t ≡ s → Follows l c may e t → (k : ℕ) → has_node t k ≡ true → e k ≡ recorded c may l.servers l t s k
    follows_unique (leaf i r) s es h k has = at_root (leaf i r) s k es h has
    follows_unique (projection i a t) s es h k has =
        ⊎_elim (λ root. at_root (projection i a t) s k es h root)
        (λ no-root. follows_unique t s (h.2 ∙ es) h.3 k (under (eqb k i) (has_node t k) no-root has) ∙ sym (cond-false (eqb k i) (step s Local) (by_table t s k) no-root))
        (cases_Bool (eqb k i))
    follows_unique (filtering i a t) s es h k has =
        ⊎_elim (λ root. at_root (filtering i a t) s k es h root)
        (λ no-root. follows_unique t s (h.2 ∙ es) h.3 k (under (eqb k i) (has_node t k) no-root has) ∙ sym (cond-false (eqb k i) (step s Local) (by_table t s k) no-root))
        (cases_Bool (eqb k i))
    follows_unique (join i x a b) s es h k has =
        let o = at (join i x a b) s in
        let held : o ≡ Some h.0 = ap (at (join i x a b)) (sym es) ∙ h.1.held in
        let xs : executor e a ≡ left_by s o = h.2 ∙ ap (λ (z : ℕ). left_at h.0.mode z h.0.other) es ∙ sym (ap (left_by s) held) in
        let ys : executor e b ≡ right_by s o = h.3 ∙ ap (λ (z : ℕ). right_at h.0.mode z h.0.other) es ∙ sym (ap (right_by s) held) in
        let va = by_table a (left_by s o) k in
        let vb = by_table b (right_by s o) k in
        ⊎_elim (λ root. at_root (join i x a b) s k es h root)
        (λ no-root.
        let rest = under (eqb k i) (has_node a k || has_node b k) no-root has in
        let skip : cond (eqb k i) (step s (mode_by o)) (cond (has_node a k) va vb) ≡ cond (has_node a k) va vb = cond-false (eqb k i) (step s (mode_by o)) (cond (has_node a k) va vb) no-root in
        ⊎_elim (λ inside. follows_unique a (left_by s o) xs h.4 k inside ∙ sym (skip ∙ cond-true (has_node a k) va vb inside))
        (λ outside. follows_unique b (right_by s o) ys h.5 k (under (has_node a k) (has_node b k) outside rest) ∙ sym (skip ∙ cond-false (has_node a k) va vb outside))
        (cases_Bool (has_node a k)))
        (cases_Bool (eqb k i))
