-- How many known attributes a view has: what two views compose to has theirs together, and each has at least one.
use Rattle.std.proofs.Common.{◌≡◌, ℕ, zero, suc, ◌+◌, ◌<◌, ◌≤◌, Bool, true, false, ◌&&◌, eqb, List, [], ◌∷◌, length, IfSome, Some, None, Option, sym, refl, ap, ◌∙◌, inl, inr, arith}
use Rattle.std.specs.Option.{option_map}
use Rattle.std.specs.List.{slice_get, ContainsAt as Has}
use Rattle.std.proofs.lemmas.Option.{slice_get_past}
use Rattle.std.proofs.lemmas.Bool.{eqb-true, eq-eqb, and_parts, and_from, or_left, or_right, or_cases, false≢true}
use Rattle.sets.specs.declared.small_set.SmallSet.{SmallSet}
use Rattle.sets.specs.Bits.{rising}
use Rattle.sets.specs.Sets.{has, single, union, subset, disjoint}
use Rattle.sets.specs.Sets as set
use Rattle.sets.proofs.Sets.{single_has, union_has, union_comm, subset_has, disjoint_has, has_disjoint, rising_has}
use Rattle.chart.specs.declared.parts.Attribute.{Attribute}
use Rattle.chart.specs.declared.parts.Link.{Link}
use Rattle.chart.specs.declared.state.Chart.{Chart}
use Rattle.chart.specs.Layout.{Layout, relation_of, crosses}
use Rattle.chart.specs.Lookup.{ends, ends_of}
use Rattle.chart.specs.Charts.{layout}
use Rattle.chart.proofs.Sound.{crosses_tells, crossing, attributes_length}
use Rattle.rules.specs.declared.view.View.{View}
use Rattle.rules.specs.Relations.{gather, set_of, relations_of, link_relations, touched}
use Rattle.members.specs.Compose.{lies_across, bridges, share_none, composes, composition}
use Rattle.members.proofs.Counts.{count_some, count_either}

abbrev pub rank : Layout → View → ℕ
rank l v = length (rising (has v.attributes) 0 (length l.attributes))

-- what it takes to compose, in parts
pub record May (l : Layout) (a b : View) (k : ℕ) : Type 0 where
  pub one_server : a.server ≡ b.server
  pub over : lies_across (ends_of l k) a.attributes b.attributes ≡ true
  pub shares_none : disjoint (touched l a.attributes a.path) (touched l b.attributes b.path) ≡ true

pub may : (l : Layout) (a b : View) (k : ℕ) → composes l a b k ≡ true → May l a b k
unfolding composes bridges share_none
may l a b k h =
    let p = and_parts (eqb a.server b.server) (bridges l a b k && share_none l a b) h in
    let q = and_parts (bridges l a b k) (share_none l a b) p.1 in
    record { one_server = eqb-true a.server b.server p.0; over = q.0; shares_none = q.1 }

pub may_compose : (l : Layout) (a b : View) (k : ℕ) → May l a b k → composes l a b k ≡ true
unfolding composes bridges share_none
may_compose l a b k m =
    and_from (eqb a.server b.server) (bridges l a b k && share_none l a b) (eq-eqb a.server b.server m.one_server)
    (and_from (bridges l a b k) (share_none l a b) m.over m.shares_none)

-- the relation of an attribute is one of the view's
gather_has : (f : ℕ → SmallSet) (xs : List ℕ) (x r : ℕ) → Has xs x → has (f x) r ≡ true → has (gather f xs) r ≡ true
gather_has f [] x r (k, below, at) h = absurd (omega arith)
gather_has f (y ∷ ys) x r (zero, below, at) h =
    union_has (f y) (gather f ys) r ∙ or_left (has (f y) r) (has (gather f ys) r) (ap (λ z. has (f z) r) (at x) ∙ h)
gather_has f (y ∷ ys) x r (suc k, below, at) h =
    union_has (f y) (gather f ys) r ∙ or_right (has (f y) r) (has (gather f ys) r) (gather_has f ys x r (k, omega arith, at) h)

pub touched_has : (l : Layout) (attributes path : SmallSet) (i r : ℕ) → i < 64 → has attributes i ≡ true → relation_of l i ≡ Some r → has (touched l attributes path) r ≡ true
touched_has l attributes path i r below h e =
    let own : has (set_of (relation_of l i)) r ≡ true = ap (λ o. has (set_of o) r) e ∙ single_has r r ∙ eq-eqb r r refl in
    union_has (relations_of l attributes) (gather (link_relations l) (set.members path)) r
    ∙ or_left (has (relations_of l attributes) r) (has (gather (link_relations l) (set.members path)) r)
    (gather_has (λ a. set_of (relation_of l a)) (set.members attributes) i r (rising_has (has attributes) 64 0 i (omega arith) (omega arith) h) own)

known_relation : (xs : List Attribute) (i : ℕ) → i < length xs → (r : ℕ) × (option_map (λ (x : Attribute). x.relation) (slice_get xs i) ≡ Some r)
known_relation [] i below = absurd (omega arith)
known_relation (x ∷ xs) zero below = (x.relation, refl)
known_relation (x ∷ xs) (suc i) below = known_relation xs i (omega arith)

-- the view has an attribute that the chart knows
abbrev pub Owns : Layout → View → Type 0
Owns l v = (i : ℕ) × (i < length l.attributes) × (has v.attributes i ≡ true)

module _ (c : Chart) where
  abbrev l : Layout
  l = layout c

  few : length l.attributes ≤ 64
  few = omega (arith, attributes_length c, c.counted.1)

  -- views that share no relation share no known attribute
  pub attributes_apart : (a b : View) (k : ℕ) → May l a b k → (i : ℕ) → i < length l.attributes → has a.attributes i ≡ true → has b.attributes i ≡ true → ⊥
  attributes_apart a b k m i below p q =
      let r = known_relation l.attributes i below in
      let low : i < 64 = omega (arith, few) in
      disjoint_has (touched l a.attributes a.path) (touched l b.attributes b.path) m.shares_none r.0
      (touched_has l a.attributes a.path i r.0 low p r.1) (touched_has l b.attributes b.path i r.0 low q r.1)

  owns : (s : SmallSet) (i : ℕ) → subset (single i) s ≡ true → has s i ≡ true
  owns s i h = subset_has (single i) s h i (single_has i i ∙ eq-eqb i i refl)

  -- each of two views that compose has a known attribute, its end of the link
  both_own : (a b : View) (o : Option Link) → IfSome o (λ x. crosses l.attributes x.left x.right ≡ true)
      → lies_across (option_map ends o) a.attributes b.attributes ≡ true
      → Owns l a × Owns l b
  both_own a b None t h = absurd (false≢true h)
  both_own a b (Some x) t h =
      let known = crosses_tells l.attributes x.left x.right t in
      let s = a.attributes in
      let u = b.attributes in
      elim (or_cases (subset (single x.left) s && subset (single x.right) u) (subset (single x.right) s && subset (single x.left) u) h) [
        | inl p ↦ let q = and_parts (subset (single x.left) s) (subset (single x.right) u) p in
            ((x.left, known.0, owns s x.left q.0), (x.right, known.1, owns u x.right q.1))
        | inr p ↦ let q = and_parts (subset (single x.right) s) (subset (single x.left) u) p in
            ((x.right, known.1, owns s x.right q.0), (x.left, known.0, owns u x.left q.1))
      ]

  pub ends_owned : (a b : View) (k : ℕ) → May l a b k → Owns l a × Owns l b
  ends_owned a b k m = both_own a b (slice_get l.links k) (crossing c k) m.over

  pub record Ranks (a b : View) (k : ℕ) : Type 0 where
    pub some_left : 1 ≤ rank l a
    pub some_right : 1 ≤ rank l b
    pub sum : rank l (composition a b k) ≡ rank l a + rank l b

  pub ranks : (a b : View) (k : ℕ) → composes l a b k ≡ true → Ranks a b k
  unfolding composition
  ranks a b k h =
      let m = may l a b k h in
      let o = ends_owned a b k m in
      let n = length l.attributes in
      record {
        some_left = count_some (has a.attributes) n 0 o.0.0 (omega arith) (omega (arith, o.0.1)) o.0.2;
        some_right = count_some (has b.attributes) n 0 o.1.0 (omega arith) (omega (arith, o.1.1)) o.1.2;
        sum = count_either (has a.attributes) (has b.attributes) (has (union a.attributes b.attributes)) n 0 (union_has a.attributes b.attributes)
            (λ i low high. attributes_apart a b k m i (omega arith));
      }

  -- no view composes with itself
  pub never_self : (a : View) (k : ℕ) → composes l a a k ≡ true → ⊥
  never_self a k h =
      let m = may l a a k h in
      let o = (ends_owned a a k m).0 in
      attributes_apart a a k m o.0 o.1 o.2 o.2

-- a link that is not there joins nothing
pub never_past : (l : Layout) (a b : View) (k : ℕ) → length l.links ≤ k → composes l a b k ≡ false
unfolding composes bridges
never_past l a b k past = go (eqb a.server b.server) (ap (λ o. lies_across (option_map ends o) a.attributes b.attributes) (slice_get_past l.links k past))
  where
    go : (t : Bool) → bridges l a b k ≡ false → (t && (bridges l a b k && share_none l a b)) ≡ false
    go true e = ap (λ u. u && share_none l a b) e
    go false e = refl

-- composing goes both ways
disjoint_turn : (s t : SmallSet) → disjoint s t ≡ true → disjoint t s ≡ true
disjoint_turn s t h = has_disjoint t s (λ i p q. disjoint_has s t h i q p)

across_turn : (o : Option (SmallSet × SmallSet)) (s t : SmallSet) → lies_across o s t ≡ true → lies_across o t s ≡ true
across_turn None s t h = h
across_turn (Some e) s t h =
    elim (or_cases (subset e.0 s && subset e.1 t) (subset e.1 s && subset e.0 t) h) [
      | inl p ↦ let q = and_parts (subset e.0 s) (subset e.1 t) p in
          or_right (subset e.0 t && subset e.1 s) (subset e.1 t && subset e.0 s) (and_from (subset e.1 t) (subset e.0 s) q.1 q.0)
      | inr p ↦ let q = and_parts (subset e.1 s) (subset e.0 t) p in
          or_left (subset e.0 t && subset e.1 s) (subset e.1 t && subset e.0 s) (and_from (subset e.0 t) (subset e.1 s) q.1 q.0)
    ]

pub composes_turn : (l : Layout) (a b : View) (k : ℕ) → composes l a b k ≡ true → composes l b a k ≡ true
composes_turn l a b k h =
    let m = may l a b k h in
    may_compose l b a k (record {
      one_server = sym m.one_server;
      over = across_turn (ends_of l k) a.attributes b.attributes m.over;
      shares_none = disjoint_turn (touched l a.attributes a.path) (touched l b.attributes b.path) m.shares_none;
    })

pub composition_turn : (l : Layout) (a b : View) (k : ℕ) → composes l a b k ≡ true → composition a b k ≡ composition b a k
unfolding composition
composition_turn l a b k h =
    let seen : ℕ → SmallSet → SmallSet → View = λ s x p. record { server = s; attributes = x; path = p } in
    ap (λ s. seen s (union a.attributes b.attributes) (union (union a.path b.path) (single k))) (may l a b k h).one_server
    ∙ ap (λ x. seen b.server x (union (union a.path b.path) (single k))) (union_comm a.attributes b.attributes)
    ∙ ap (λ p. seen b.server (union b.attributes a.attributes) (union p (single k))) (union_comm a.path b.path)
