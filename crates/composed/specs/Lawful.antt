-- The composed reading keeps the laws of a policy: the term that the book gives for `lawful`, with what it needs.
use Rattle.std.specs.Prelude.{◌≡◌, ℕ, ◌<◌, Bool, true, false, ◌||◌, ◌⊎◌, List, [], ◌∷◌, length, refl}
use Rattle.std.specs.List.{list_all, list_any}
use Rattle.std.proofs.Common.{sym, ap, subst, ◌∙◌, inl, inr}
use Rattle.std.proofs.lemmas.Bool.{eqb-true, and_parts, or_cases, or_left, or_right, cases_Bool, both_ways, false≢true, lt-ltb, cases_lt}
use Rattle.sets.specs.Sets.{union, single, subset, below}
use Rattle.sets.proofs.Bits.{bit_low}
use Rattle.sets.proofs.Sets.{union_least, has_subset, single_has}
use Rattle.chart.specs.declared.state.Chart.{Chart}
use Rattle.chart.specs.Charts.{layout}
use Rattle.chart.specs.Layout.{Layout, server_known}
use Rattle.chart.specs.Lookup.{attributes_known, links_known}
use Rattle.profile.specs.declared.shape.Profile.{Profile}
use Rattle.rules.specs.declared.view.View.{View}
use Rattle.rules.specs.declared.view.RuleRecord.{RuleRecord}
use Rattle.rules.specs.Rules.{well_formed}
use Rattle.members.specs.Members.{same_view, among, Member, listed, composed}
use Rattle.members.specs.Compose.{composes, composition}
use Rattle.members.specs.Laws.{Within}
use Rattle.members.proofs.Views.{same_view_is, iff_same, among_here}
use Rattle.members.proofs.Exact.{members_sound, members_more}
use Rattle.members.proofs.Rank.{never_past}
use Rattle.policy.specs.Same.{Same, done, keep, swap, chain}
use Rattle.policy.specs.Reading.{view_lets, granted, inside}
use Rattle.policy.specs.Books.{apart}
use Rattle.policy.specs.Lawful.{Lawful}
use Rattle.policy.proofs.Lawfully.{view_inside, rule_parts}
use Rattle.policy.proofs.Orders.{same_sym}
use Rattle.composed.specs.Composed.{composed_reading, composed_members}

-- a view of the list that passes makes the test of the list pass, and the other way round
any_true : (p : View → Bool) (xs : List View) → list_any p xs ≡ true → (v : View) × (among v xs ≡ true) × (p v ≡ true)
any_true p [] h = absurd (false≢true h)
any_true p (x ∷ xs) h = go (or_cases (p x) (list_any p xs) h) (any_true p xs)
  where
    go : (p x ≡ true) ⊎ (list_any p xs ≡ true) → (list_any p xs ≡ true → (v : View) × (among v xs ≡ true) × (p v ≡ true)) → (v : View) × (among v (x ∷ xs) ≡ true) × (p v ≡ true)
    go (inl here) rest = (x, among_here x xs, here)
    go (inr later) rest = let r = rest later in (r.0, or_right (same_view r.0 x) (among r.0 xs) r.1, r.2)

true_any : (p : View → Bool) (xs : List View) (v : View) → among v xs ≡ true → p v ≡ true → list_any p xs ≡ true
true_any p [] v there passes = absurd (false≢true there)
true_any p (x ∷ xs) v there passes = go (or_cases (same_view v x) (among v xs) there) (λ later. true_any p xs v later passes)
  where
    go : (same_view v x ≡ true) ⊎ (among v xs ≡ true) → (among v xs ≡ true → list_any p xs ≡ true) → list_any p (x ∷ xs) ≡ true
    go (inl here) rest = or_left (p x) (list_any p xs) (ap p (sym (same_view_is v x here)) ∙ passes)
    go (inr later) rest = or_right (p x) (list_any p xs) (rest later)

pub any_within : (p : View → Bool) (xs ys : List View) → Within xs ys → list_any p xs ≡ true → list_any p ys ≡ true
any_within p xs ys within h = let r = any_true p xs h in true_any p ys r.0 (within r.0 r.1) r.2

-- lists with the same views read alike
pub any_alike : (p : View → Bool) (xs ys : List View) → Within xs ys → Within ys xs → list_any p xs ≡ list_any p ys
any_alike p xs ys there back = iff_same (list_any p xs) (list_any p ys) (any_within p xs ys there) (any_within p ys xs back)

-- rules that are the same up to order grant the same views
pub granted_within : {xs ys : List RuleRecord} → Same xs ys → Within (granted xs) (granted ys)
granted_within done v h = h
granted_within (keep {xs} {ys} r s) v h = go (or_cases (same_view v r.view) (among v (granted xs)) h) (granted_within s v)
  where
    go : (same_view v r.view ≡ true) ⊎ (among v (granted xs) ≡ true) → (among v (granted xs) ≡ true → among v (granted ys) ≡ true) → among v (granted (r ∷ ys)) ≡ true
    go (inl here) rest = or_left (same_view v r.view) (among v (granted ys)) here
    go (inr later) rest = or_right (same_view v r.view) (among v (granted ys)) (rest later)
granted_within (swap r q xs) v h = sym (or_turn (same_view v r.view) (same_view v q.view) (among v (granted xs))) ∙ h
  where
    or_turn : (a b c : Bool) → (a || (b || c)) ≡ (b || (a || c))
    or_turn true true c = refl
    or_turn true false c = refl
    or_turn false b c = refl
granted_within (chain s t) v h = granted_within t v (granted_within s v h)

-- what a member names lies in the chart
pub record Known (l : Layout) (v : View) : Type 0 where
  pub server : server_known l v.server ≡ true
  pub attributes : attributes_known l v.attributes ≡ true
  pub links : links_known l v.path ≡ true

link_below : (l : Layout) (a b : View) (k : ℕ) → composes l a b k ≡ true → k < length l.links
link_below l a b k h = elim (cases_lt k (length l.links)) [
  | inl within ↦ within
  | inr past ↦ absurd (both_ways (composes l a b k) (never_past l a b k past) h)
]

single_known : (n k : ℕ) → k < n → subset (single k) (below n) ≡ true
single_known n k within =
    has_subset (single k) (below n) (λ i h. bit_low n i ∙ lt-ltb i n (subst (λ (j : ℕ). j < n) (eqb-true k i (sym (single_has k i) ∙ h)) within))

both_known : (l : Layout) (a b : View) (k : ℕ) → composes l a b k ≡ true → Known l a → Known l b → Known l (composition a b k)
unfolding composition
both_known l a b k may p q =
    let links = below (length l.links) in
    let columns = below (length l.attributes) in
    record {
      server = p.server;
      attributes = union_least a.attributes b.attributes columns p.attributes q.attributes;
      links = union_least (union a.path b.path) (single k) links (union_least a.path b.path links p.links q.links) (single_known (length l.links) k (link_below l a b k may));
    }

granted_known : (l : Layout) (rules : List RuleRecord) → list_all (well_formed l) rules ≡ true → (v : View) → among v (granted rules) ≡ true → Known l v
granted_known l [] formed v there = absurd (false≢true there)
granted_known l (r ∷ rules) formed v there =
    let b = and_parts (well_formed l r) (list_all (well_formed l) rules) formed in
    go b.0 (or_cases (same_view v r.view) (among v (granted rules)) there) (granted_known l rules b.1 v)
  where
    go : well_formed l r ≡ true → (same_view v r.view ≡ true) ⊎ (among v (granted rules) ≡ true) → (among v (granted rules) ≡ true → Known l v) → Known l v
    go fine (inl here) rest =
        let p = rule_parts l r fine in
        subst (Known l) (sym (same_view_is v r.view here)) (record { server = p.0; attributes = p.1; links = p.2 })
    go fine (inr later) rest = rest later

member_known : (l : Layout) (rules : List RuleRecord) → list_all (well_formed l) rules ≡ true → {v : View} → Member l (granted rules) v → Known l v
member_known l rules formed {v} (listed there) = granted_known l rules formed v there
member_known l rules formed (composed {a} {b} k p q may) = both_known l a b k may (member_known l rules formed p) (member_known l rules formed q)

-- outside the chart no member lets anything be seen
composed_outside : (l : Layout) (rules : List RuleRecord) → list_all (well_formed l) rules ≡ true → (server : ℕ) (p : Profile) → inside l server p ≡ false → composed_reading l rules server p ≡ false
composed_outside l rules formed server p out = elim (cases_Bool (composed_reading l rules server p)) [
  | inl lets ↦
      let m = any_true (view_lets server p) (composed_members l rules) lets in
      let k : Known l m.0 = member_known l rules formed (members_sound l (granted rules) m.0 m.1) in
      absurd (both_ways (inside l server p) out (view_inside l server p m.0 k.server k.attributes k.links m.2))
  | inr not_let ↦ not_let
]

pub composed_lawful : (chart : Chart) (rules : List RuleRecord) → apart rules ≡ true → list_all (well_formed (layout chart)) rules ≡ true → Lawful chart rules (composed_reading (layout chart))
composed_lawful chart rules distinct formed = record {
  order = λ xs ys same server p. any_alike (view_lets server p) (composed_members (layout chart) xs) (composed_members (layout chart) ys)
      (members_more chart (granted xs) (granted ys) (granted_within same)) (members_more chart (granted ys) (granted xs) (granted_within (same_sym same)));
  distinct = distinct;
  formed = formed;
  outside = composed_outside (layout chart) rules formed;
}
