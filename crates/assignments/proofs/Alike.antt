-- What is said of a tree's steps depends on the steps at its own nodes alone.
use Rattle.std.proofs.Common.{◌≡◌, ℕ, Bool, true, false, ◌||◌, eqb, Some, sym, refl, ap, ◌∙◌, subst}
use Rattle.std.proofs.lemmas.Bool.{both_ways, or_left, or_right, eq-eqb, ne_eqb}
use Rattle.chart.specs.Layout.{Layout}
use Rattle.chart.specs.Lookup.{server_of}
use Rattle.profile.specs.declared.shape.Profile.{Profile}
use Rattle.tariff.specs.Pricing.{Pricing}
use Rattle.queries.specs.Trees.{Tree, leaf, projection, filtering, join, top, has_node, pair_of}
use Rattle.assignments.specs.declared.mode.Mode.{Mode}
use Rattle.assignments.specs.declared.mode.Mode.TheVariants.{Local}
use Rattle.assignments.specs.declared.parts.Step.{Step}
use Rattle.assignments.specs.declared.parts.Place.{Place}
use Rattle.assignments.specs.Modes.{Joins, other_of, releases, allowed}
use Rattle.assignments.specs.Assignments.{Steps, executor, Obeys, Safe, own_releases, own_price, cost, other, Way}
use Rattle.assignments.specs.Table.{place}
use Rattle.assignments.specs.Follows.{Holds, Follows}

-- a tree has its root, and its operands' nodes
pub has_top : (t : Tree) → has_node t (top t) ≡ true
has_top (leaf i r) = eq-eqb i i refl
has_top (projection i s t) = or_left (eqb i i) (has_node t i) (eq-eqb i i refl)
has_top (filtering i s t) = or_left (eqb i i) (has_node t i) (eq-eqb i i refl)
has_top (join i k a b) = or_left (eqb i i) (has_node a i || has_node b i) (eq-eqb i i refl)

pub has_left : (i k : ℕ) (a b : Tree) (n : ℕ) → has_node a n ≡ true → has_node (join i k a b) n ≡ true
has_left i k a b n h = or_right (eqb n i) (has_node a n || has_node b n) (or_left (has_node a n) (has_node b n) h)

pub has_right : (i k : ℕ) (a b : Tree) (n : ℕ) → has_node b n ≡ true → has_node (join i k a b) n ≡ true
has_right i k a b n h = or_right (eqb n i) (has_node a n || has_node b n) (or_right (has_node a n) (has_node b n) h)

-- a node of a tree is no node that the tree lacks
pub not_root : (t : Tree) (i k : ℕ) → has_node t i ≡ false → has_node t k ≡ true → eqb k i ≡ false
not_root t i k lacks has = ne_eqb k i (λ e. both_ways (has_node t i) lacks (ap (has_node t) (sym e) ∙ has))

-- two assignments give the tree's nodes the same steps
abbrev pub Agree : Tree → Steps → Steps → Type 0
Agree t e f = (k : ℕ) → has_node t k ≡ true → e k ≡ f k

module _ (e f : Steps) where
  pub agree_top : (t : Tree) → Agree t e f → e (top t) ≡ f (top t)
  agree_top t g = g (top t) (has_top t)

  agree_under : (i : ℕ) (t : Tree) → ((k : ℕ) → (eqb k i || has_node t k) ≡ true → e k ≡ f k) → Agree t e f
  agree_under i t g k h = g k (or_right (eqb k i) (has_node t k) h)

  agree_left : (i k : ℕ) (a b : Tree) → Agree (join i k a b) e f → Agree a e f
  agree_left i k a b g n h = g n (has_left i k a b n h)

  agree_right : (i k : ℕ) (a b : Tree) → Agree (join i k a b) e f → Agree b e f
  agree_right i k a b g n h = g n (has_right i k a b n h)

  pub obeys_like : (l : Layout) (t : Tree) → Agree t e f → Obeys l e t → Obeys l f t
  obeys_like l (leaf i r) g h = subst (λ (v : Step). (server_of l r ≡ Some v.executor) × (v.mode ≡ Local)) (agree_top (leaf i r) g) h
  obeys_like l (projection i s t) g h =
      let here = agree_top (projection i s t) g in
      let under = agree_top t (agree_under i t g) in
      (cc, cc, obeys_like l t (agree_under i t g) h.2)
  obeys_like l (filtering i s t) g h =
      let here = agree_top (filtering i s t) g in
      let under = agree_top t (agree_under i t g) in
      (cc, cc, obeys_like l t (agree_under i t g) h.2)
  obeys_like l (join i k a b) g h =
      let here = agree_top (join i k a b) g in
      let left = agree_top a (agree_left i k a b g) in
      let right = agree_top b (agree_right i k a b g) in
      let joins : Joins (f i).mode (f i).executor (executor f a) (executor f b) =
      subst (λ (v : Step). Joins (f i).mode (f i).executor (executor f a) v.executor) right
      (subst (λ (v : Step). Joins (f i).mode (f i).executor v.executor (executor e b)) left
      (subst (λ (v : Step). Joins v.mode v.executor (executor e a) (executor e b)) here h.0)) in
      (joins, obeys_like l a (agree_left i k a b g) h.1, obeys_like l b (agree_right i k a b g) h.2)

  -- what is read off a join's mode and its operands' executors
  at_join : {X : Type 0} (h : Mode → ℕ → ℕ → X) (i k : ℕ) (a b : Tree) → Agree (join i k a b) e f
      → h (e i).mode (executor e a) (executor e b) ≡ h (f i).mode (executor f a) (executor f b)
  at_join h i k a b g =
      let here : (e i).mode ≡ (f i).mode = ap (λ (v : Step). v.mode) (agree_top (join i k a b) g) in
      let left : executor e a ≡ executor f a = ap (λ (v : Step). v.executor) (agree_top a (agree_left i k a b g)) in
      let right : executor e b ≡ executor f b = ap (λ (v : Step). v.executor) (agree_top b (agree_right i k a b g)) in
      cc

  releases_like : (l : Layout) (i k : ℕ) (a b : Tree) → Agree (join i k a b) e f → own_releases l e i k a b ≡ own_releases l f i k a b
  releases_like l i k a b g = at_join (releases (pair_of l k a b)) i k a b g

  pub safe_like : (l : Layout) (may : ℕ → Profile → Bool) (t : Tree) → Agree t e f → Safe l may e t → Safe l may f t
  safe_like l may (leaf i r) g h = tt
  safe_like l may (projection i s t) g h = safe_like l may t (agree_under i t g) h
  safe_like l may (filtering i s t) g h = safe_like l may t (agree_under i t g) h
  safe_like l may (join i k a b) g h =
      (safe_like l may a (agree_left i k a b g) h.0, safe_like l may b (agree_right i k a b g) h.1, ap (allowed may) (sym (releases_like l i k a b g)) ∙ h.2)

  pub cost_like : {P : Type 0} (l : Layout) (c : Pricing P) (t : Tree) → Agree t e f → cost l c e t ≡ cost l c f t
  cost_like l c (leaf i r) g = refl
  cost_like l c (projection i s t) g = cost_like l c t (agree_under i t g)
  cost_like l c (filtering i s t) g = cost_like l c t (agree_under i t g)
  cost_like l c (join i k a b) g =
      let left = cost_like l c a (agree_left i k a b g) in
      let right = cost_like l c b (agree_right i k a b g) in
      let own = ap (own_price c) (releases_like l i k a b g) in
      cc

  pub other_like : (t : Tree) → Agree t e f → other e t ≡ other f t
  other_like (leaf i r) g = ap (λ (v : Step). v.executor) (agree_top (leaf i r) g)
  other_like (projection i s t) g = ap (λ (v : Step). v.executor) (agree_top (projection i s t) g)
  other_like (filtering i s t) g = ap (λ (v : Step). v.executor) (agree_top (filtering i s t) g)
  other_like (join i k a b) g = at_join other_of i k a b g

  pub way_like : (l : Layout) (may : ℕ → Profile → Bool) (t : Tree) (s : ℕ) → Agree t e f → Way l may t s e → Way l may t s f
  way_like l may t s g h = record {
    obeys = obeys_like l t g h.obeys;
    at = sym (ap (λ (v : Step). v.executor) (agree_top t g)) ∙ h.at;
    safe = safe_like l may t g h.safe;
  }

  module _ {P : Type 0} (l : Layout) (c : Pricing P) (may : ℕ → Profile → Bool) where
    holds_like : (t : Tree) (p : Place P) → Agree t e f → Holds l c may e t p → Holds l c may f t p
    holds_like t p g h = record {
      held = ap (λ (v : Step). place c may l.servers l t v.executor) (sym (agree_top t g)) ∙ h.held;
      by_mode = ap (λ (v : Step). v.mode) (sym (agree_top t g)) ∙ h.by_mode;
    }

    pub follows_like : (t : Tree) → Agree t e f → Follows l c may e t → Follows l c may f t
    follows_like (leaf i r) g h = (h.0, holds_like (leaf i r) h.0 g h.1)
    follows_like (projection i s t) g h =
        let here = agree_top (projection i s t) g in
        let under = agree_top t (agree_under i t g) in
        (h.0, holds_like (projection i s t) h.0 g h.1, cc, follows_like t (agree_under i t g) h.3)
    follows_like (filtering i s t) g h =
        let here = agree_top (filtering i s t) g in
        let under = agree_top t (agree_under i t g) in
        (h.0, holds_like (filtering i s t) h.0 g h.1, cc, follows_like t (agree_under i t g) h.3)
    follows_like (join i k a b) g h =
        let here = agree_top (join i k a b) g in
        let left = agree_top a (agree_left i k a b g) in
        let right = agree_top b (agree_right i k a b g) in
        (h.0, holds_like (join i k a b) h.0 g h.1, cc, cc, follows_like a (agree_left i k a b g) h.4, follows_like b (agree_right i k a b g) h.5)
