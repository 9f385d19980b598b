-- The list of members has just the members.
use Rattle.std.proofs.Common.{◌≡◌, ℕ, zero, suc, ◌≤◌, Bool, true, false, ◌||◌, List, [], ◌∷◌, length, sym, refl, ap, ◌∙◌, subst, inl, inr, arith}
use Rattle.std.specs.List.{flat_map}
use Rattle.std.proofs.lemmas.Bool.{or_cases, or_left, or_right, or_parts, both_ways, cases_lt, false≢true}
use Rattle.sets.specs.Sets.{has, union, subset}
use Rattle.sets.proofs.Sets.{subset_union, subset_trans, union_least, union_comm}
use Rattle.chart.specs.declared.state.Chart.{Chart}
use Rattle.chart.specs.Layout.{Layout}
use Rattle.chart.specs.Charts.{layout}
use Rattle.rules.specs.declared.view.View.{View}
use Rattle.members.specs.Compose.{composes, composition, compositions}
use Rattle.members.specs.Members.{same_view, among, Distinct, Member, listed, composed, with_new, round, rounds, members}
use Rattle.members.specs.Laws.{Within, Laws, all_attributes}
use Rattle.members.proofs.Views.{same_view_is, is_same_view, iff_same, among_new, distinct_new, distinct_le}
use Rattle.members.proofs.Counts.{count_le, among_made, made_among, among_joined, joined_among}
use Rattle.members.proofs.Rank.{rank, ranks, never_self, never_past}

-- what two views compose to is among their compositions, and nothing else is
pub compositions_have : (l : Layout) (a b : View) (k : ℕ) → composes l a b k ≡ true → among (composition a b k) (compositions l a b) ≡ true
unfolding compositions
compositions_have l a b k h =
    elim (cases_lt k (length l.links)) [
      | inl below ↦ among_made (composition a b) (composes l a b) (length l.links) 0 k (omega arith) (omega arith) h
      | inr past ↦ absurd (both_ways (composes l a b k) (never_past l a b k past) h)
    ]

pub compositions_are : (l : Layout) (a b v : View) → among v (compositions l a b) ≡ true → (k : ℕ) × (composes l a b k ≡ true) × (v ≡ composition a b k)
unfolding compositions
compositions_are l a b v h = made_among (composition a b) (composes l a b) (length l.links) 0 v h

-- a member, said of an equal view
pub composed_is : {l : Layout} {given : List View} {a b v : View} → Member l given a → Member l given b → (k : ℕ) × (composes l a b k ≡ true) × (v ≡ composition a b k) → Member l given v
composed_is {l} {given} {a} {b} {v} p q (k, h, e) = let P : View → Type 0 = λ w. Member l given w in subst P (sym e) (composed k p q h)

-- one round
round_keeps : (l : Layout) (xs : List View) → Within xs (round l xs)
unfolding round
round_keeps l xs v h = among_new v xs (flat_map (λ a. flat_map (compositions l a) xs) xs) ∙ or_left (among v xs) (among v (flat_map (λ a. flat_map (compositions l a) xs) xs)) h

round_brings : (l : Layout) (xs : List View) (a b : View) (k : ℕ) → among a xs ≡ true → among b xs ≡ true → composes l a b k ≡ true → among (composition a b k) (round l xs) ≡ true
unfolding round
round_brings l xs a b k p q h =
    let v = composition a b k in
    let rows : View → List View = λ x. flat_map (compositions l x) xs in
    among_new v xs (flat_map rows xs)
    ∙ or_right (among v xs) (among v (flat_map rows xs)) (among_joined rows v a xs p (among_joined (compositions l a) v b xs q (compositions_have l a b k h)))

round_sound : (l : Layout) (given xs : List View) → ((v : View) → among v xs ≡ true → Member l given v) → (v : View) → among v (round l xs) ≡ true → Member l given v
unfolding round
round_sound l given xs sound v h =
    let rows : View → List View = λ x. flat_map (compositions l x) xs in
    elim (or_cases (among v xs) (among v (flat_map rows xs)) (sym (among_new v xs (flat_map rows xs)) ∙ h)) [
      | inl old ↦ sound v old
      | inr new ↦
          let a = joined_among rows v xs new in
          let b = joined_among (compositions l a.0) v xs a.2 in
          composed_is (sound a.0 a.1) (sound b.0 b.1) (compositions_are l a.0 b.0 v b.2)
    ]

round_distinct : (l : Layout) (xs : List View) → Distinct xs → Distinct (round l xs)
unfolding round
round_distinct l xs d = distinct_new xs (flat_map (λ a. flat_map (compositions l a) xs) xs) d

-- one round more at the end
rounds_last : (l : Layout) (n : ℕ) (xs : List View) → rounds l (suc n) xs ≡ round l (rounds l n xs)
unfolding rounds
rounds_last l zero xs = refl
rounds_last l (suc n) xs = rounds_last l n (round l xs)

rounds_keep : (l : Layout) (n : ℕ) (xs : List View) → Within xs (rounds l n xs)
unfolding rounds
rounds_keep l zero xs v h = h
rounds_keep l (suc n) xs v h = rounds_keep l n (round l xs) v (round_keeps l xs v h)

rounds_sound : (l : Layout) (given : List View) (n : ℕ) (xs : List View) → ((v : View) → among v xs ≡ true → Member l given v) → (v : View) → among v (rounds l n xs) ≡ true → Member l given v
unfolding rounds
rounds_sound l given zero xs sound = sound
rounds_sound l given (suc n) xs sound = rounds_sound l given n (round l xs) (round_sound l given xs sound)

rounds_distinct : (l : Layout) (n : ℕ) (xs : List View) → Distinct xs → Distinct (rounds l n xs)
unfolding rounds
rounds_distinct l zero xs d = d
rounds_distinct l (suc n) xs d = rounds_distinct l n (round l xs) (round_distinct l xs d)

-- a member with n known attributes is there after n rounds
rounds_all : (c : Chart) (given xs : List View) → Within given xs → {v : View} → Member (layout c) given v → (n : ℕ) → rank (layout c) v ≤ n → among v (rounds (layout c) n xs) ≡ true
rounds_all c given xs start {v} (listed h) n few = rounds_keep (layout c) n xs v (start v h)
rounds_all c given xs start (composed {a} {b} k p q h) zero few = let r = ranks c a b k h in absurd (omega (arith, r.sum, r.some_left))
rounds_all c given xs start (composed {a} {b} k p q h) (suc n) few =
    let l = layout c in
    let r = ranks c a b k h in
    ap (among (composition a b k)) (rounds_last l n xs)
    ∙ round_brings l (rounds l n xs) a b k
    (rounds_all c given xs start p n (omega (arith, r.sum, r.some_right)))
    (rounds_all c given xs start q n (omega (arith, r.sum, r.some_left))) h

start_has : (given : List View) → Within given (with_new [] given)
start_has given v h = among_new v [] given ∙ h

start_are : (l : Layout) (given : List View) (v : View) → among v (with_new [] given) ≡ true → Member l given v
start_are l given v h = listed (sym (among_new v [] given) ∙ h)

pub members_sound : (l : Layout) (given : List View) (v : View) → among v (members l given) ≡ true → Member l given v
unfolding members
members_sound l given = rounds_sound l given (length l.attributes) (with_new [] given) (start_are l given)

pub members_complete : (c : Chart) (given : List View) (v : View) → Member (layout c) given v → among v (members (layout c) given) ≡ true
unfolding members
members_complete c given v m =
    let n = length (layout c).attributes in
    rounds_all c given (with_new [] given) (start_has given) m n (count_le (has v.attributes) n 0)

pub members_distinct : (l : Layout) (given : List View) → Distinct (members l given)
unfolding members
members_distinct l given = rounds_distinct l (length l.attributes) (with_new [] given) (distinct_new [] given tt)

-- more views, more members
pub member_more : {l : Layout} {given wider : List View} → Within given wider → {v : View} → Member l given v → Member l wider v
member_more within {v} (listed h) = listed (within v h)
member_more within (composed k p q h) = composed k (member_more within p) (member_more within q) h

pub members_more : (c : Chart) (given wider : List View) → Within given wider → Within (members (layout c) given) (members (layout c) wider)
members_more c given wider within v h = members_complete c wider v (member_more within (members_sound (layout c) given v h))

pub members_le : (c : Chart) (given wider : List View) → Within given wider → length (members (layout c) given) ≤ length (members (layout c) wider)
members_le c given wider within = distinct_le (members (layout c) given) (members (layout c) wider) (members_distinct (layout c) given) (members_more c given wider within)

-- a view alone
or_none : (a : Bool) → (a || false) ≡ true → a ≡ true
or_none true h = refl
or_none false h = h

lone_member : (c : Chart) (v : View) {w : View} → Member (layout c) (v ∷ []) w → w ≡ v
lone_member c v {w} (listed h) = same_view_is w v (or_none (same_view w v) h)
lone_member c v (composed {a} {b} k p q h) =
    let e = lone_member c v q ∙ sym (lone_member c v p) in
    absurd (never_self c a k (ap (λ u. composes (layout c) a u k) (sym e) ∙ h))

lone_list : (v : View) (xs : List View) → Distinct xs → ((w : View) → among w xs ≡ true → w ≡ v) → among v xs ≡ true → xs ≡ v ∷ []
lone_list v [] d only here = absurd (false≢true here)
lone_list v (x ∷ []) d only here = ap (λ w. w ∷ []) (only x (or_left (same_view x x) false (is_same_view x x refl)))
lone_list v (x ∷ y ∷ ys) d only here =
    let ex = only x (or_left (same_view x x) (same_view x y || among x ys) (is_same_view x x refl)) in
    let ey = only y (or_right (same_view y x) (same_view y y || among y ys) (or_left (same_view y y) (among y ys) (is_same_view y y refl))) in
    absurd (both_ways (same_view x y) (or_parts (same_view x y) (among x ys) d.0).0 (is_same_view x y (ex ∙ sym ey)))

members_lone : (c : Chart) (v : View) → members (layout c) (v ∷ []) ≡ v ∷ []
members_lone c v =
    lone_list v (members (layout c) (v ∷ [])) (members_distinct (layout c) (v ∷ []))
    (λ w h. lone_member c v (members_sound (layout c) (v ∷ []) w h))
    (members_complete c (v ∷ []) v (listed (or_left (same_view v v) false (is_same_view v v refl))))

-- the attributes of a member are given
given_covered : (vs : List View) (v : View) → among v vs ≡ true → subset v.attributes (all_attributes vs) ≡ true
given_covered [] v h = absurd (false≢true h)
given_covered (w ∷ ws) v h =
    let all = union w.attributes (all_attributes ws) in
    elim (or_cases (same_view v w) (among v ws) h) [
      | inl s ↦ ap (λ u. subset u.attributes all) (same_view_is v w s) ∙ subset_union w.attributes (all_attributes ws)
      | inr k ↦ subset_trans v.attributes (all_attributes ws) all (given_covered ws v k)
          (ap (subset (all_attributes ws)) (union_comm w.attributes (all_attributes ws)) ∙ subset_union (all_attributes ws) w.attributes)
    ]

covered : {l : Layout} {given : List View} {v : View} → Member l given v → subset v.attributes (all_attributes given) ≡ true
unfolding composition
covered {l} {given} {v} (listed h) = given_covered given v h
covered {l} {given} (composed {a} {b} k p q h) = union_least a.attributes b.attributes (all_attributes given) (covered p) (covered q)

pub laws_hold : Laws
laws_hold = record {
  same_means = λ v w. (same_view_is v w, is_same_view v w);
  exact = λ c given v. (members_sound (layout c) given v, members_complete c given v);
  distinct = λ c given. members_distinct (layout c) given;
  more = members_more;
  fewer = members_le;
  alike = λ c given other f g v. iff_same (among v (members (layout c) given)) (among v (members (layout c) other)) (members_more c given other f v) (members_more c other given g v);
  as_many = λ c given other f g. let p = members_le c given other f in let q = members_le c other given g in omega arith;
  lone = members_lone;
  covered = λ c given v m. covered m;
}
