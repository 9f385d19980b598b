-- A list that grows to the members.
use Rattle.std.proofs.Common.{◌≡◌, ℕ, ◌+◌, ◌<◌, ◌≤◌, true, ◌⊎◌, List, [], ◌∷◌, ◌++◌, length, get_or, take, sym, ap, ◌∙◌, inl, inr, arith}
use Rattle.std.specs.List.{flat_map}
use Rattle.std.proofs.lemmas.List.{take_more, take_all, take-append-le, length-take-le}
use Rattle.std.proofs.lemmas.Bool.{or_cases, or_left, or_right, false≢true}
use Rattle.chart.specs.declared.state.Chart.{Chart}
use Rattle.chart.specs.Layout.{Layout}
use Rattle.chart.specs.Charts.{layout}
use Rattle.rules.specs.declared.view.View.{View}
use Rattle.members.specs.Compose.{composes, composition, compositions}
use Rattle.members.specs.Members.{among, Member, listed, composed, with_new, members}
use Rattle.members.specs.Table.{Growing, Holds}
use Rattle.members.proofs.Views.{iff_same, among_push, among_take, among_at, among_new, distinct_new, distinct_le, new_behind}
use Rattle.members.proofs.Counts.{among_joined, joined_among}
use Rattle.members.proofs.Rank.{never_self, composes_turn, composition_turn}
use Rattle.members.proofs.Exact.{compositions_have, compositions_are, composed_is, members_sound, members_complete, members_distinct}

pub growing_start : (l : Layout) (given : List View) → Growing l given (with_new [] given) 0
growing_start l given = record {
  distinct = distinct_new [] given tt;
  sound = λ y h. listed (sym (among_new y [] given) ∙ h);
  start = λ y h. among_new y [] given ∙ h;
  closed = λ a b k p q h. absurd (false≢true p);
}

-- a list of members is no longer than the members
pub growing_le : (c : Chart) (given xs : List View) (i : ℕ) → Growing (layout c) given xs i → length xs ≤ length (members (layout c) given)
growing_le c given xs i g = distinct_le xs (members (layout c) given) g.distinct (λ y h. members_complete c given y (g.sound y h))

-- place i is composed with those before it
module _ (c : Chart) (given xs : List View) (i : ℕ) (d : View) (below : i < length xs) (g : Growing (layout c) given xs i) where
  abbrev row : List View
  row = flat_map (compositions (layout c) (get_or xs i d)) (take i xs)

  keeps : (y : View) → among y xs ≡ true → among y (with_new xs row) ≡ true
  keeps y h = among_new y xs row ∙ or_left (among y xs) (among y row) h

  brings : (b : View) (k : ℕ) → among b (take i xs) ≡ true → composes (layout c) (get_or xs i d) b k ≡ true → among (composition (get_or xs i d) b k) (with_new xs row) ≡ true
  brings b k p h =
      let y = composition (get_or xs i d) b k in
      among_new y xs row
      ∙ or_right (among y xs) (among y row) (among_joined (compositions (layout c) (get_or xs i d)) y b (take i xs) p (compositions_have (layout c) (get_or xs i d) b k h))

  row_sound : (y : View) → among y (with_new xs row) ≡ true → Member (layout c) given y
  row_sound y h =
      elim (or_cases (among y xs) (among y row) (sym (among_new y xs row) ∙ h)) [
        | inl old ↦ g.sound y old
        | inr new ↦
            let b = joined_among (compositions (layout c) (get_or xs i d)) y (take i xs) new in
            composed_is (g.sound (get_or xs i d) (among_at xs i d below)) (g.sound b.0 (among_take b.0 i xs b.1))
            (compositions_are (layout c) (get_or xs i d) b.0 y b.2)
      ]

  front : take (i + 1) (with_new xs row) ≡ take i xs ++ get_or xs i d ∷ []
  front =
      let n = new_behind xs row in
      ap (take (i + 1)) n.1 ∙ take-append-le (i + 1) xs n.0 (omega arith) ∙ take_more xs i d below

  -- among the first i + 1: before place i, or there
  split : (y : View) → among y (take (i + 1) (with_new xs row)) ≡ true → (among y (take i xs) ≡ true) ⊎ (y ≡ get_or xs i d)
  split y h = among_push y (get_or xs i d) (take i xs) (sym (ap (among y) front) ∙ h)

  row_closed : (a b : View) (k : ℕ) → (among a (take i xs) ≡ true) ⊎ (a ≡ get_or xs i d) → (among b (take i xs) ≡ true) ⊎ (b ≡ get_or xs i d)
      → composes (layout c) a b k ≡ true → among (composition a b k) (with_new xs row) ≡ true
  row_closed a b k (inl p) (inl q) h = keeps (composition a b k) (g.closed a b k p q h)
  row_closed a b k (inr e) (inl q) h =
      ap (λ v. among (composition v b k) (with_new xs row)) e ∙ brings b k q (ap (λ v. composes (layout c) v b k) (sym e) ∙ h)
  row_closed a b k (inl p) (inr e) h =
      ap (λ v. among v (with_new xs row)) (composition_turn (layout c) a b k h)
      ∙ ap (λ v. among (composition v a k) (with_new xs row)) e ∙ brings a k p (ap (λ v. composes (layout c) v a k) (sym e) ∙ composes_turn (layout c) a b k h)
  row_closed a b k (inr e) (inr f) h = absurd (never_self c a k (ap (λ v. composes (layout c) a v k) (e ∙ sym f) ∙ h))

  pub growing_more : Growing (layout c) given (with_new xs row) (i + 1)
  growing_more = record {
    distinct = distinct_new xs row g.distinct;
    sound = row_sound;
    start = λ y h. keeps y (g.start y h);
    closed = λ a b k p q h. row_closed a b k (split a p) (split b q) h;
  }

-- a closed list has every member
all_in : {l : Layout} {given : List View} (xs : List View) → ((y : View) → among y given ≡ true → among y xs ≡ true)
    → ((a b : View) (k : ℕ) → among a xs ≡ true → among b xs ≡ true → composes l a b k ≡ true → among (composition a b k) xs ≡ true)
    → {y : View} → Member l given y → among y xs ≡ true
all_in xs start closed {y} (listed h) = start y h
all_in xs start closed (composed {a} {b} k p q h) = closed a b k (all_in xs start closed p) (all_in xs start closed q) h

pub growing_end : (c : Chart) (given table : List View) (n i : ℕ) → n ≤ 256 → n ≤ length table → n ≤ i → Growing (layout c) given (take n table) i → Holds (layout c) given table n
growing_end c given table n i fits sized past g =
    let xs = take n table in
    let ms = members (layout c) given in
    let counted = length-take-le n table sized in
    let whole = sym (take_all i xs (omega arith)) in
    let complete : (y : View) → Member (layout c) given y → among y xs ≡ true = λ y m.
    all_in xs g.start (λ a b k p q h. g.closed a b k (sym (ap (among a) whole) ∙ p) (sym (ap (among b) whole) ∙ q) h) m in
    let back = distinct_le ms xs (members_distinct (layout c) given) (λ y h. complete y (members_sound (layout c) given y h)) in
    record {
      fits = fits;
      all = omega (arith, growing_le c given xs i g);
      distinct = g.distinct;
      just = λ y. iff_same (among y xs) (among y ms) (λ h. members_complete c given y (g.sound y h)) (λ h. complete y (members_sound (layout c) given y h));
    }
