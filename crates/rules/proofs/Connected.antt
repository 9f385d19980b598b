-- The test of a path decides whether it joins its relations into one tree.
use Rattle.std.proofs.Common.{◌≡◌, ℕ, zero, suc, ◌+◌, ◌<◌, ◌≤◌, Bool, true, false, cond, ◌&&◌, eqb, ◌⊎◌, List, [], ◌∷◌, length, is_some, IfSome, Some, None, Decides, Option, sym, refl, ap, ◌∙◌, subst, inl, inr, arith}
use Rattle.std.specs.Option.{option_map}
use Rattle.std.specs.List.{ContainsAt as Has, slice_get}
use Rattle.std.proofs.ByRecursion.{all-has}
use Rattle.std.proofs.lemmas.Bool.{eqb-true, eq-eqb, or_cases, or_left, or_right, and_parts, and_from, cases_lt, cases_Bool, both_ways, false≢true}
use Rattle.sets.specs.declared.small_set.SmallSet.{SmallSet}
use Rattle.sets.specs.Sets.{has, none, single, union, disjoint, members, count}
use Rattle.sets.specs.Laws.{Within}
use Rattle.sets.proofs.Bits.{bit_none}
use Rattle.sets.proofs.Sets.{union_has, single_has, subset_has, has_subset, disjoint_has, has_disjoint, subset_antisym, rising_all, rising_has}
use Rattle.chart.specs.declared.parts.Attribute.{Attribute}
use Rattle.chart.specs.declared.parts.Link.{Link}
use Rattle.chart.specs.declared.state.Chart.{Chart}
use Rattle.chart.specs.Layout.{Layout, relation_of}
use Rattle.chart.specs.Lookup.{ends, ends_of}
use Rattle.chart.specs.Charts.{layout}
use Rattle.chart.proofs.Sound.{attribute_bound, link_known}
use Rattle.rules.specs.Relations.{gather, set_of, relations_of, ends_relations, link_relations, touched}
use Rattle.rules.specs.Trees.{Leads, here, over, Tree, spread, rounds, reached_from, tree}
use Rattle.rules.proofs.Counts.{count_most, count_same}

none_not : (i : ℕ) → has none i ≡ true → ⊥
none_not i h = both_ways (has none i) (bit_none i) h

-- a number of a union is one of either set
union_cases : (s t : SmallSet) (i : ℕ) → has (union s t) i ≡ true → (has s i ≡ true) ⊎ (has t i ≡ true)
union_cases s t i h = or_cases (has s i) (has t i) (sym (union_has s t i) ∙ h)

union_left : (s t : SmallSet) (i : ℕ) → has s i ≡ true → has (union s t) i ≡ true
union_left s t i h = union_has s t i ∙ or_left (has s i) (has t i) h

union_right : (s t : SmallSet) (i : ℕ) → has t i ≡ true → has (union s t) i ≡ true
union_right s t i h = union_has s t i ∙ or_right (has s i) (has t i) h

-- a number that f gathers over a list is in f of one of its elements
pub gather_has : (f : ℕ → SmallSet) (xs : List ℕ) (i : ℕ) → has (gather f xs) i ≡ true → (x : ℕ) × Has xs x × (has (f x) i ≡ true)
gather_has f [] i h = absurd (none_not i h)
gather_has f (y ∷ ys) i h = go (union_cases (f y) (gather f ys) i h) (gather_has f ys i)
  where
    go : (has (f y) i ≡ true) ⊎ (has (gather f ys) i ≡ true) → (has (gather f ys) i ≡ true → (x : ℕ) × Has ys x × (has (f x) i ≡ true))
        → (x : ℕ) × Has (y ∷ ys) x × (has (f x) i ≡ true)
    go (inl now) rest = (y, (0, omega arith, λ d. refl), now)
    go (inr later) rest = let r = rest later in (r.0, (suc r.1.0, omega (arith, r.1.1), r.1.2), r.2)

-- and what f of an element has is gathered
pub has_gather : (f : ℕ → SmallSet) (xs : List ℕ) (x i : ℕ) → Has xs x → has (f x) i ≡ true → has (gather f xs) i ≡ true
has_gather f [] x i (k, below, at) h = absurd (omega arith)
has_gather f (y ∷ ys) x i (zero, below, at) h = union_left (f y) (gather f ys) i (ap (λ z. has (f z) i) (at x) ∙ h)
has_gather f (y ∷ ys) x i (suc k, below, at) h = union_right (f y) (gather f ys) i (has_gather f ys x i (k, omega arith, at) h)

-- the same over the numbers of a set
member_in : (s : SmallSet) (k : ℕ) → Has (members s) k → (k < 64) × (has s k ≡ true)
member_in s k h = let t = all-has (λ k. (0 ≤ k) × (k < 0 + 64) × (has s k ≡ true)) (members s) k (rising_all (has s) 64 0) h in (omega (arith, t.1), t.2)

gather_member : (f : ℕ → SmallSet) (s : SmallSet) (i : ℕ) → has (gather f (members s)) i ≡ true → (k : ℕ) × (has s k ≡ true) × (has (f k) i ≡ true)
gather_member f s i h = let g = gather_has f (members s) i h in (g.0, (member_in s g.0 g.1).1, g.2)

member_gather : (f : ℕ → SmallSet) (s : SmallSet) (k i : ℕ) → k < 64 → has s k ≡ true → has (f k) i ≡ true → has (gather f (members s)) i ≡ true
member_gather f s k i below in-s h = has_gather f (members s) k i (rising_has (has s) 64 0 k (omega arith) (omega arith) in-s) h

-- what a chart's attributes, links and paths touch are relations of the chart
module _ (c : Chart) where
  owner_below : (i : ℕ) (o : Option Attribute) → IfSome o (λ x. x.relation < 32) → has (set_of (option_map (λ (x : Attribute). x.relation) o)) i ≡ true → i < 32
  owner_below i None bound h = absurd (none_not i h)
  owner_below i (Some x) bound h = omega (arith, eqb-true x.relation i (sym (single_has x.relation i) ∙ h))

  pub relations_below : (attributes : SmallSet) (i : ℕ) → has (relations_of (layout c) attributes) i ≡ true → i < 32
  relations_below attributes i h =
      let g = gather_member (λ a. set_of (relation_of (layout c) a)) attributes i h in
      owner_below i (slice_get (layout c).attributes g.0) (attribute_bound c g.0) g.2

  ends_below : (i : ℕ) (o : Option (SmallSet × SmallSet)) → has (ends_relations (layout c) o) i ≡ true → i < 32
  ends_below i None h = absurd (none_not i h)
  ends_below i (Some e) h =
      elim (union_cases (relations_of (layout c) e.0) (relations_of (layout c) e.1) i h)
      [ inl left ↦ relations_below e.0 i left | inr right ↦ relations_below e.1 i right ]

  pub link_below : (k i : ℕ) → has (link_relations (layout c) k) i ≡ true → i < 32
  link_below k i h = ends_below i (ends_of (layout c) k) h

  pub touched_below : (attributes path : SmallSet) (i : ℕ) → has (touched (layout c) attributes path) i ≡ true → i < 32
  touched_below attributes path i h =
      elim (union_cases (relations_of (layout c) attributes) (gather (link_relations (layout c)) (members path)) i h) [
        | inl own ↦ relations_below attributes i own
        | inr joined ↦ let g = gather_member (link_relations (layout c)) path i joined in link_below g.0 i g.2
      ]

  -- a link with relations is one of the chart's
  pub link_numbered : (k i : ℕ) → has (link_relations (layout c) k) i ≡ true → k < 64
  link_numbered k i h = go (slice_get (layout c).links k) refl h
    where
      go : (o : Option Link) → slice_get (layout c).links k ≡ o → has (ends_relations (layout c) (option_map ends o)) i ≡ true → k < 64
      go None e h = absurd (none_not i h)
      go (Some x) e h = link_known c k (ap is_some e)

-- leading goes both ways, and on
leads_on : {l : Layout} {path : SmallSet} {i j n : ℕ} → Leads l path i j → Leads l path j n → Leads l path i n
leads_on r here = r
leads_on r (over k s on from to) = over k (leads_on r s) on from to

leads_back : {l : Layout} {path : SmallSet} {i j : ℕ} → Leads l path i j → Leads l path j i
leads_back here = here
leads_back (over k r on from to) = leads_on (over k here on to from) (leads_back r)

-- a number below n that passes, or none does
find : (p : ℕ → Bool) (n : ℕ) → ((i : ℕ) × (p i ≡ true)) ⊎ ((i : ℕ) → i < n → p i ≡ true → ⊥)
find p zero = inr (λ i below h. omega arith)
find p (suc n) = go (cases_Bool (p n)) (find p n)
  where
    go : (p n ≡ true) ⊎ (p n ≡ false) → ((i : ℕ) × (p i ≡ true)) ⊎ ((i : ℕ) → i < n → p i ≡ true → ⊥) → ((i : ℕ) × (p i ≡ true)) ⊎ ((i : ℕ) → i < suc n → p i ≡ true → ⊥)
    go (inl yes') rest = inl (n, yes')
    go (inr no') (inl found) = inl found
    go (inr no') (inr nothing) =
        inr (λ i below h. elim (cases_lt i n) [
          | inl less ↦ nothing i less h
          | inr past ↦ let e : i ≡ n = omega arith in both_ways (p n) no' (ap p (sym e) ∙ h)
        ])

-- sets of numbers below 64 that are not disjoint share a number
shared : (s t : SmallSet) → ((i : ℕ) → has s i ≡ true → i < 64) → disjoint s t ≡ false → (i : ℕ) × (has s i ≡ true) × (has t i ≡ true)
shared s t small apart = go (find (λ i. has s i && has t i) 64)
  where
    go : ((i : ℕ) × ((has s i && has t i) ≡ true)) ⊎ ((i : ℕ) → i < 64 → (has s i && has t i) ≡ true → ⊥) → (i : ℕ) × (has s i ≡ true) × (has t i ≡ true)
    go (inl (i, both)) = let b = and_parts (has s i) (has t i) both in (i, b.0, b.1)
    go (inr nothing) = absurd (both_ways (disjoint s t) apart (has_disjoint s t (λ i in-s in-t. nothing i (small i in-s) (and_from (has s i) (has t i) in-s in-t))))

-- Rounds over a path, where links and relations are numbered below 64.
module _ (l : Layout) (path : SmallSet) (small : (k i : ℕ) → has (link_relations l k) i ≡ true → i < 64) (numbered : (k i : ℕ) → has (link_relations l k) i ≡ true → k < 64) where
  -- both ends of link k, if one of them is reached
  abbrev crossed : SmallSet → ℕ → SmallSet
  crossed s k = cond (disjoint (link_relations l k) s) none (link_relations l k)

  crossed_from : (s : SmallSet) (k n : ℕ) → has (crossed s k) n ≡ true → (j : ℕ) × (has s j ≡ true) × (has (link_relations l k) j ≡ true) × (has (link_relations l k) n ≡ true)
  crossed_from s k n h = go (disjoint (link_relations l k) s) refl h
    where
      go : (b : Bool) → disjoint (link_relations l k) s ≡ b → has (cond b none (link_relations l k)) n ≡ true → (j : ℕ) × (has s j ≡ true) × (has (link_relations l k) j ≡ true) × (has (link_relations l k) n ≡ true)
      go true e h = absurd (none_not n h)
      go false e h = let w = shared (link_relations l k) s (small k) e in (w.0, w.2, w.1, h)

  crossed_has : (s : SmallSet) (k j n : ℕ) → has s j ≡ true → has (link_relations l k) j ≡ true → has (link_relations l k) n ≡ true → has (crossed s k) n ≡ true
  crossed_has s k j n in-s from to = go (disjoint (link_relations l k) s) refl
    where
      go : (b : Bool) → disjoint (link_relations l k) s ≡ b → has (cond b none (link_relations l k)) n ≡ true
      go true e = absurd (disjoint_has (link_relations l k) s e j from in-s)
      go false e = to

  -- one round keeps all, adds what is one link away, and adds no more
  spread_keeps : (s : SmallSet) → Within s (spread l path s)
  spread_keeps s i h = union_left s (gather (crossed s) (members path)) i h

  spread_far : (s : SmallSet) (k j n : ℕ) → has path k ≡ true → has s j ≡ true → has (link_relations l k) j ≡ true → has (link_relations l k) n ≡ true → has (spread l path s) n ≡ true
  spread_far s k j n on in-s from to =
      union_right s (gather (crossed s) (members path)) n
      (member_gather (crossed s) path k n (numbered k j from) on (crossed_has s k j n in-s from to))

  spread_only : (i : ℕ) (s : SmallSet) → ((j : ℕ) → has s j ≡ true → Leads l path i j) → (n : ℕ) → has (spread l path s) n ≡ true → Leads l path i n
  spread_only i s led n h =
      elim (union_cases s (gather (crossed s) (members path)) n h) [
        | inl old ↦ led n old
        | inr new ↦
            let g = gather_member (crossed s) path n new in
            let w = crossed_from s g.0 n g.2 in
            over g.0 (led w.0 w.1) g.1 w.2 w.3
      ]

  spread_small : (s : SmallSet) → ((j : ℕ) → has s j ≡ true → j < 64) → (n : ℕ) → has (spread l path s) n ≡ true → n < 64
  spread_small s below n h =
      elim (union_cases s (gather (crossed s) (members path)) n h) [
        | inl old ↦ below n old
        | inr new ↦
            let g = gather_member (crossed s) path n new in
            small g.0 n (crossed_from s g.0 n g.2).3
      ]

  -- what rounds reach is led to
  rounds_only : (i n : ℕ) (s : SmallSet) → ((j : ℕ) → has s j ≡ true → Leads l path i j) → (j : ℕ) → has (rounds l path n s) j ≡ true → Leads l path i j
  unfolding rounds
  rounds_only i zero s led j h = led j h
  rounds_only i (suc n) s led j h = rounds_only i n (spread l path s) (spread_only i s led) j h

  rounds_keep : (n : ℕ) (s : SmallSet) → Within s (rounds l path n s)
  unfolding rounds
  rounds_keep zero s i h = h
  rounds_keep (suc n) s i h = rounds_keep n (spread l path s) i (spread_keeps s i h)

  -- a set to which a round adds nothing stays as it is
  rounds_still : (n : ℕ) (s : SmallSet) → spread l path s ≡ s → rounds l path n s ≡ s
  unfolding rounds
  rounds_still zero s still = refl
  rounds_still (suc n) s still = ap (rounds l path n) still ∙ rounds_still n s still

  -- and has all that its numbers lead to
  still_closed : (s : SmallSet) → spread l path s ≡ s → {i j : ℕ} → Leads l path i j → has s i ≡ true → has s j ≡ true
  still_closed s still here h = h
  still_closed s still (over {j} {n} k r on from to) h = ap (λ t. has t n) (sym still) ∙ spread_far s k j n on (still_closed s still r h) from to

  -- a round adds a number or nothing
  spread_grows : (s : SmallSet) → ((j : ℕ) → has s j ≡ true → j < 64) → (spread l path s ≡ s) ⊎ (count s < count (spread l path s))
  spread_grows s below =
      elim (cases_lt (count s) (count (spread l path s))) [
        | inl more ↦ inr more
        | inr few ↦ inl (subset_antisym (spread l path s) s
            (has_subset (spread l path s) s (λ i h. count_same s (spread l path s) (spread_keeps s) few i (spread_small s below i h) h))
            (has_subset s (spread l path s) (spread_keeps s)))
      ]

  -- so n rounds add n numbers, or come to an end
  rounds_grow : (n : ℕ) (s : SmallSet) → ((j : ℕ) → has s j ≡ true → j < 64) → (spread l path (rounds l path n s) ≡ rounds l path n s) ⊎ (n + count s ≤ count (rounds l path n s))
  unfolding rounds
  rounds_grow zero s below = inr (omega arith)
  rounds_grow (suc n) s below = go (spread_grows s below) (rounds_grow n (spread l path s) (spread_small s below))
    where
      go : (spread l path s ≡ s) ⊎ (count s < count (spread l path s))
          → (spread l path (rounds l path n (spread l path s)) ≡ rounds l path n (spread l path s)) ⊎ (n + count (spread l path s) ≤ count (rounds l path n (spread l path s)))
          → (spread l path (rounds l path n (spread l path s)) ≡ rounds l path n (spread l path s)) ⊎ (suc n + count s ≤ count (rounds l path n (spread l path s)))
      go (inl still) rest = let e = rounds_still (suc n) s still in inl (ap (spread l path) e ∙ still ∙ sym e)
      go (inr more) (inl ended) = inl ended
      go (inr more) (inr grown) = inr (omega arith)

  -- the rounds begin with one relation
  single_led : (i j : ℕ) → has (single i) j ≡ true → Leads l path i j
  single_led i j h =
      let P : ℕ → Type 0 = λ n. Leads l path i n in
      subst P (eqb-true i j (sym (single_has i j) ∙ h)) here

  single_itself : (i : ℕ) → has (single i) i ≡ true
  single_itself i = single_has i i ∙ eq-eqb i i refl

  -- 64 rounds from a relation end, and reach all that it leads to
  rounds_end : (i : ℕ) → i < 64 → spread l path (rounds l path 64 (single i)) ≡ rounds l path 64 (single i)
  rounds_end i below =
      let one = rising_has (has (single i)) 64 0 i (omega arith) (omega arith) (single_itself i) in
      elim (rounds_grow 64 (single i) (λ j h. omega (arith, eqb-true i j (sym (single_has i j) ∙ h)))) [
        | inl ended ↦ ended
        | inr grown ↦ absurd (omega (arith, count_most (rounds l path 64 (single i)), one.1))
      ]

  rounds_all : (i j : ℕ) → i < 64 → Leads l path i j → has (rounds l path 64 (single i)) j ≡ true
  rounds_all i j below r = still_closed (rounds l path 64 (single i)) (rounds_end i below) r (rounds_keep 64 (single i) i (single_itself i))

  -- where all are reached from the first, any two lead to each other
  reached_connects : (all : SmallSet) (is : List ℕ) → reached_from l path all is ≡ true → (i j : ℕ) → has all i ≡ true → has all j ≡ true → Leads l path i j
  reached_connects all [] h i j in-i in-j = absurd (false≢true h)
  reached_connects all (k ∷ ks) h i j in-i in-j =
      let led : (n : ℕ) → has all n ≡ true → Leads l path k n =
      λ n in-n. rounds_only k 64 (single k) (single_led k) n (subset_has all (rounds l path 64 (single k)) h n in-n) in
      leads_on (leads_back (led i in-i)) (led j in-j)

  -- and back, if there is a first at all
  connected_reaches : (all : SmallSet) → 0 < count all → ((i j : ℕ) → has all i ≡ true → has all j ≡ true → Leads l path i j) → reached_from l path all (members all) ≡ true
  connected_reaches all some connected = go (members all) refl some
    where
      go : (is : List ℕ) → members all ≡ is → 0 < length is → reached_from l path all is ≡ true
      go [] e some = absurd (omega arith)
      go (i ∷ is) e some =
          let P : List ℕ → Type 0 = λ xs. Has xs i in
          let first = member_in all i (subst P (sym e) (0, some, λ d. refl)) in
          has_subset all (rounds l path 64 (single i)) (λ j in-j. rounds_all i j first.0 (connected i j first.1 in-j))

-- the test passes exactly when the path joins the relations into one tree
pub tree_decides : (c : Chart) (attributes path : SmallSet) → Decides (tree (layout c) attributes path) (Tree (layout c) attributes path)
tree_decides c attributes path =
    let l = layout c in
    let all = touched l attributes path in
    let small : (k i : ℕ) → has (link_relations l k) i ≡ true → i < 64 = λ k i h. omega (arith, link_below c k i h) in
    let fewer = eqb (count all) (count path + 1) in
    let reached = reached_from l path all (members all) in (
      λ h. let b = and_parts fewer reached h in record {
        fewer = eqb-true (count all) (count path + 1) b.0;
        connected = reached_connects l path small (link_numbered c) all (members all) b.1;
      },
      λ t. and_from fewer reached (eq-eqb (count all) (count path + 1) t.fewer)
          (connected_reaches l path small (link_numbered c) all (omega (arith, t.fewer)) t.connected),
    )
