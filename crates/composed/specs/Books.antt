-- Which lists fit a composed book: whatever their order, and with a rule more or less; and what its table keeps.
use Rattle.std.specs.Prelude.{◌≡◌, ℕ, zero, suc, ◌<◌, ◌≤◌, Bool, true, false, cond, not, ◌&&◌, leb, List, [], ◌∷◌, length, filter, Option, ◌==◌, nat_le, refl}
use Rattle.std.specs.List.{list_all}
use Rattle.std.proofs.Common.{sym, ap, subst, ◌∙◌, inl, inr, arith}
use Rattle.std.proofs.lemmas.Bool.{and_from, and_parts, and_left, and_right, le-leb, lt-leb, leb-true, or_cases, or_left, or_right}
use Rattle.chart.specs.declared.state.Chart.{Chart}
use Rattle.chart.specs.Charts.{layout}
use Rattle.chart.specs.Layout.{Layout}
use Rattle.rules.specs.declared.view.View.{View}
use Rattle.rules.specs.declared.view.RuleRecord.{RuleRecord}
use Rattle.rules.specs.declared.rule.Rule.{Rule}
use Rattle.rules.specs.Rules.{well_formed}
use Rattle.members.specs.Members.{same_view, among, members, rounds, round, with_new}
use Rattle.members.specs.Laws.{Within}
use Rattle.members.specs.Table.{Holds}
use Rattle.members.proofs.Exact.{members_le, laws_hold}
use Rattle.policy.specs.Same.{Same}
use Rattle.policy.specs.Reading.{granted}
use Rattle.policy.specs.Books.{apart, withdrawal_list}
use Rattle.policy.proofs.Orders.{same_sym, same_length}
use Rattle.books.specs.Slots.{held}
use Rattle.composed.specs.Composed.{composed_members, composed_fits}
use Rattle.composed.specs.Kept.{Kept}
use Rattle.composed.specs.Lawful.{granted_within}

-- rules that are the same up to order have as many members
pub members_same : (c : Chart) (xs ys : List RuleRecord) → Same xs ys → length (composed_members (layout c) xs) ≡ length (composed_members (layout c) ys)
members_same c xs ys h = laws_hold.as_many c (granted xs) (granted ys) (granted_within h) (granted_within (same_sym h))

-- fewer rules grant fewer views
pub granted_fewer : (q : RuleRecord → Bool) (rules : List RuleRecord) → Within (granted (filter q rules)) (granted rules)
granted_fewer q [] v h = h
granted_fewer q (r ∷ rules) v h = go (q r) h (granted_fewer q rules v)
  where
    go : (b : Bool) → among v (granted (cond b (r ∷ filter q rules) (filter q rules))) ≡ true → (among v (granted (filter q rules)) ≡ true → among v (granted rules) ≡ true) → among v (granted (r ∷ rules)) ≡ true
    go true k rest = elim (or_cases (same_view v r.view) (among v (granted (filter q rules))) k) [
      | inl here ↦ or_left (same_view v r.view) (among v (granted rules)) here
      | inr later ↦ or_right (same_view v r.view) (among v (granted rules)) (rest later)
    ]
    go false k rest = or_right (same_view v r.view) (among v (granted rules)) (rest k)

-- a table that holds the members of the rules keeps what the book keeps
pub kept_from : (l : Layout) (slots : List (Option Rule)) (table : List View) (n : ℕ) → length slots ≡ 64 → length table ≡ 256 → apart (held slots) ≡ true → list_all (well_formed l) (held slots) ≡ true
    → Holds l (granted (held slots)) table n → Kept l slots table n
kept_from l slots table n sized wide distinct formed h = record {
  sized = sized;
  wide = wide;
  distinct = distinct;
  formed = formed;
  counted = h.fits;
  few = omega (arith, h.fits, h.all);
  just = h.just;
}

-- what is kept of values is kept where they are stored
pub kept_stored : (l : Layout) (slots others : List (Option Rule)) (table grown : List View) (count n : ℕ) → slots ≡ others → table ≡ grown → count ≡ n → Kept l others grown n → Kept l slots table count
kept_stored l slots others table grown count n same_slots same_table same_count k =
    subst (λ (c : ℕ). Kept l slots table c) (sym same_count)
    (subst (λ (t : List View). Kept l slots t n) (sym same_table)
    (subst (λ (s : List (Option Rule)). Kept l s grown n) (sym same_slots) k))

-- one more rule, in other slots
module _ (c : Chart) (rules after : List RuleRecord) (r : RuleRecord) (same : Same after (r ∷ rules)) where
  pub more_fits : length rules < 64 → length (composed_members (layout c) after) ≤ 256 → composed_fits (layout c) (r ∷ rules) ≡ true
  more_fits room few =
      let e = members_same c after (r ∷ rules) same in
      and_from (nat_le (length (r ∷ rules)) 64) (nat_le (length (composed_members (layout c) (r ∷ rules))) 256)
      (le-leb (length (r ∷ rules)) 64 (omega arith)) (le-leb (length (composed_members (layout c) (r ∷ rules))) 256 (omega arith))

  pub more_unfit : 256 < length (composed_members (layout c) after) → composed_fits (layout c) (r ∷ rules) ≡ false
  more_unfit many =
      let e = members_same c after (r ∷ rules) same in
      and_right (nat_le (length (r ∷ rules)) 64) (nat_le (length (composed_members (layout c) (r ∷ rules))) 256) (lt-leb (length (composed_members (layout c) (r ∷ rules))) 256 (omega arith))

pub full_unfit : (l : Layout) (rules : List RuleRecord) (r : RuleRecord) → 64 ≤ length rules → composed_fits l (r ∷ rules) ≡ false
full_unfit l rules r full = and_left (nat_le (length (r ∷ rules)) 64) (nat_le (length (composed_members l (r ∷ rules))) 256) (lt-leb (length (r ∷ rules)) 64 (omega arith))

-- a rule that leaves never makes the members too many
pub fewer_few : (c : Chart) (rules : List RuleRecord) (n : ℕ) → length (composed_members (layout c) rules) ≤ 256 → length (composed_members (layout c) (withdrawal_list rules n)) ≤ 256
fewer_few c rules n few =
    let h = members_le c (granted (withdrawal_list rules n)) (granted rules) (granted_fewer (λ q. not (q.number == n)) rules) in omega arith

-- the laws of fitting: one rule fits; a fitting list less one rule fits; order does not matter
pub lone_fits : (c : Chart) (r : RuleRecord) → composed_fits (layout c) (r ∷ []) ≡ true
lone_fits c r = ap (λ vs. leb (length vs) 256) (laws_hold.lone c r.view)

pub less_fits : (c : Chart) (r : RuleRecord) (xs : List RuleRecord) → composed_fits (layout c) (r ∷ xs) ≡ true → composed_fits (layout c) xs ≡ true
less_fits c r xs h =
    let p = and_parts (nat_le (length (r ∷ xs)) 64) (nat_le (length (composed_members (layout c) (r ∷ xs))) 256) h in
    let few = leb-true (length (r ∷ xs)) 64 p.0 in
    let members = leb-true (length (composed_members (layout c) (r ∷ xs))) 256 p.1 in
    let fewer = members_le c (granted xs) (granted (r ∷ xs)) (λ v k. or_right (same_view v r.view) (among v (granted xs)) k) in
    and_from (nat_le (length xs) 64) (nat_le (length (composed_members (layout c) xs)) 256) (le-leb (length xs) 64 (omega arith)) (le-leb (length (composed_members (layout c) xs)) 256 (omega arith))

pub alike_fits : (c : Chart) (xs ys : List RuleRecord) → Same xs ys → composed_fits (layout c) xs ≡ composed_fits (layout c) ys
alike_fits c xs ys h =
    ap (λ n. nat_le n 64 && nat_le (length (composed_members (layout c) xs)) 256) (same_length h)
    ∙ ap (λ n. nat_le (length ys) 64 && nat_le n 256) (members_same c xs ys h)

-- no rules have no members
rounds_none : (l : Layout) (n : ℕ) → rounds l n [] ≡ []
unfolding rounds round with_new
rounds_none l zero = refl
rounds_none l (suc n) = rounds_none l n

pub members_none : (l : Layout) → members l [] ≡ []
unfolding members with_new
members_none l = rounds_none l (length l.attributes)
