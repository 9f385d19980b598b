-- Laws of sets, from those of bits.
use Rattle.std.proofs.Common.{◌≡◌, ℕ, zero, suc, ◌+◌, ◌-◌, ◌<◌, ◌≤◌, Bool, true, false, cond, ◌&&◌, ◌||◌, eqb, ◌⊎◌, List, [], ◌∷◌, Some, None, Option, Decides, MatchOption, sym, refl, ap, ◌∙◌, inl, inr, add-one, arith}
use lib.Bits.{bit_and}
use Rattle.std.specs.List.{ContainsAt as Has, AllByRecursion}
use Rattle.std.proofs.ByRecursion.{All-weaker, all-has}
use Rattle.std.proofs.lemmas.Bool.{eqb-true, eq-eqb, or_cases, or_left, and_parts, and_from, cases_eq, cases_lt, cond-true, cond-false, both_ways}
use Rattle.sets.specs.declared.small_set.SmallSet.{SmallSet}
use Rattle.sets.specs.Bits.{bit, rising}
use Rattle.sets.specs.Sets.{has, none, single, union, subset, disjoint, same, members, members_from, next_from}
use Rattle.sets.specs.Laws.{Laws, Within, Rises}
use Rattle.sets.proofs.Bits.{bit-bit_or, bit-bit_and, bit_none, bit_power, bit_low, same_bits}

abbrev of_bits : ℕ → SmallSet
of_bits n = record { bits = n }

pub same_members : (s t : SmallSet) → ((i : ℕ) → has s i ≡ has t i) → s ≡ t
same_members s t same = ap of_bits (same_bits s.bits t.bits same)

pub union_has : (s t : SmallSet) (i : ℕ) → has (union s t) i ≡ (has s i || has t i)
union_has s t i = bit-bit_or s.bits t.bits i

pub single_has : (k i : ℕ) → has (single k) i ≡ eqb k i
single_has k i = bit_power k i

and_first : (a b : Bool) → (a ≡ true → b ≡ true) → (a && b) ≡ a
and_first true b h = h refl
and_first false b h = refl

pub subset_has : (s t : SmallSet) → subset s t ≡ true → Within s t
subset_has s t h i in-s =
    let e = eqb-true (bit_and s.bits t.bits) s.bits h in
    let both : (has s i && has t i) ≡ true = sym (bit-bit_and s.bits t.bits i) ∙ ap (λ n. bit n i) e ∙ in-s in
    (and_parts (has s i) (has t i) both).1

pub has_subset : (s t : SmallSet) → Within s t → subset s t ≡ true
has_subset s t within =
    eq-eqb (bit_and s.bits t.bits) s.bits
    (same_bits (bit_and s.bits t.bits) s.bits (λ i. bit-bit_and s.bits t.bits i ∙ and_first (has s i) (has t i) (within i)))

and_false : (a b : Bool) → (a ≡ true → b ≡ true → ⊥) → (a && b) ≡ false
and_false true true h = absurd (h refl refl)
and_false true false h = refl
and_false false b h = refl

pub disjoint_has : (s t : SmallSet) → disjoint s t ≡ true → (i : ℕ) → has s i ≡ true → has t i ≡ true → ⊥
disjoint_has s t h i in-s in-t =
    let e = eqb-true (bit_and s.bits t.bits) 0 h in
    both_ways (has none i) (bit_none i) (ap (λ n. bit n i) (sym e) ∙ bit-bit_and s.bits t.bits i ∙ and_from (has s i) (has t i) in-s in-t)

pub has_disjoint : (s t : SmallSet) → ((i : ℕ) → has s i ≡ true → has t i ≡ true → ⊥) → disjoint s t ≡ true
has_disjoint s t h =
    eq-eqb (bit_and s.bits t.bits) 0
    (same_bits (bit_and s.bits t.bits) 0 (λ i. bit-bit_and s.bits t.bits i ∙ and_false (has s i) (has t i) (h i) ∙ sym (bit_none i)))

pub same_is : (s t : SmallSet) → same s t ≡ true → s ≡ t
same_is s t h = ap of_bits (eqb-true s.bits t.bits h)

pub is_same : (s t : SmallSet) → s ≡ t → same s t ≡ true
is_same s t e = eq-eqb s.bits t.bits (ap (λ (u : SmallSet). u.bits) e)

or_comm : (a b : Bool) → (a || b) ≡ (b || a)
or_comm true true = refl
or_comm true false = refl
or_comm false true = refl
or_comm false false = refl

or_assoc : (a b c : Bool) → ((a || b) || c) ≡ (a || (b || c))
or_assoc true b c = refl
or_assoc false b c = refl

or_self : (a : Bool) → (a || a) ≡ a
or_self true = refl
or_self false = refl

or_none : (a : Bool) → (a || false) ≡ a
or_none true = refl
or_none false = refl

pub union_comm : (s t : SmallSet) → union s t ≡ union t s
union_comm s t = same_members (union s t) (union t s) (λ i. union_has s t i ∙ or_comm (has s i) (has t i) ∙ sym (union_has t s i))

pub union_assoc : (s t u : SmallSet) → union (union s t) u ≡ union s (union t u)
union_assoc s t u =
    same_members (union (union s t) u) (union s (union t u))
    (λ i. union_has (union s t) u i ∙ ap (λ b. b || has u i) (union_has s t i) ∙ or_assoc (has s i) (has t i) (has u i)
    ∙ sym (ap (λ b. has s i || b) (union_has t u i)) ∙ sym (union_has s (union t u) i))

pub union_self : (s : SmallSet) → union s s ≡ s
union_self s = same_members (union s s) s (λ i. union_has s s i ∙ or_self (has s i))

pub union_none : (s : SmallSet) → union s none ≡ s
union_none s = same_members (union s none) s (λ i. union_has s none i ∙ ap (λ b. has s i || b) (bit_none i) ∙ or_none (has s i))

pub subset_union : (s t : SmallSet) → subset s (union s t) ≡ true
subset_union s t = has_subset s (union s t) (λ i h. union_has s t i ∙ or_left (has s i) (has t i) h)

pub union_least : (s t u : SmallSet) → subset s u ≡ true → subset t u ≡ true → subset (union s t) u ≡ true
union_least s t u p q =
    has_subset (union s t) u
    (λ i h. elim (or_cases (has s i) (has t i) (sym (union_has s t i) ∙ h))
    [ inl e ↦ subset_has s u p i e | inr e ↦ subset_has t u q i e ])

pub subset_refl : (s : SmallSet) → subset s s ≡ true
subset_refl s = has_subset s s (λ i h. h)

pub subset_trans : (s t u : SmallSet) → subset s t ≡ true → subset t u ≡ true → subset s u ≡ true
subset_trans s t u p q = has_subset s u (λ i h. subset_has t u q i (subset_has s t p i h))

iff_same : (a b : Bool) → (a ≡ true → b ≡ true) → (b ≡ true → a ≡ true) → a ≡ b
iff_same true b p q = sym (p refl)
iff_same false true p q = q refl
iff_same false false p q = refl

pub subset_antisym : (s t : SmallSet) → subset s t ≡ true → subset t s ≡ true → s ≡ t
subset_antisym s t p q = same_members s t (λ i. iff_same (has s i) (has t i) (subset_has s t p i) (subset_has t s q i))

-- the numbers of a set from one on: itself if the set has it, then those above
pub members_step : (s : SmallSet) (from : ℕ) → from < 64 → members_from s from ≡ cond (has s from) (from ∷ members_from s (from + 1)) (members_from s (from + 1))
unfolding rising
members_step s from h =
    let e : 64 - from ≡ suc (64 - (from + 1)) = omega arith in
    ap (rising (has s) from) e

pub members_past : (s : SmallSet) (from : ℕ) → 64 ≤ from → members_from s from ≡ []
unfolding rising
members_past s from h =
    let e : 64 - from ≡ 0 = omega arith in
    ap (rising (has s) from) e

-- numbers that the set does not have are passed over
members_skip : (s : SmallSet) (d from : ℕ) → from + d ≤ 64 → ((k : ℕ) → from ≤ k → k < from + d → has s k ≡ false) → members_from s from ≡ members_from s (from + d)
members_skip s zero from within lacks = ap (members_from s) (omega arith)
members_skip s (suc d) from within lacks =
    members_step s from (omega arith)
    ∙ cond-false (has s from) (from ∷ members_from s (from + 1)) (members_from s (from + 1)) (lacks from (omega arith) (omega arith))
    ∙ members_skip s d (from + 1) (omega arith) (λ k least below. lacks k (omega arith) (omega arith))
    ∙ ap (members_from s) (omega arith)

-- the numbers of a set from one on, by the first of them
pub members_first : (s : SmallSet) (from : ℕ) (r : Option ℕ)
    → MatchOption r ((k : ℕ) → from ≤ k → k < 64 → has s k ≡ false) (λ i. (from ≤ i) × (i < 64) × (has s i ≡ true) × ((k : ℕ) → from ≤ k → k < i → has s k ≡ false))
    → members_from s from ≡ next_from s r
members_first s from None lacks = go (cases_lt from 64)
  where
    go : (from < 64) ⊎ (64 ≤ from) → members_from s from ≡ []
    go (inl few) =
        members_skip s (64 - from) from (omega arith) (λ k least below. lacks k least (omega arith))
        ∙ members_past s (from + (64 - from)) (omega arith)
    go (inr past) = members_past s from past
members_first s from (Some i) (least, below, has_it, lacks) =
    members_skip s (i - from) from (omega arith) (λ k at_least under. lacks k at_least (omega arith))
    ∙ ap (members_from s) (omega arith)
    ∙ members_step s i below
    ∙ cond-true (has s i) (i ∷ members_from s (i + 1)) (members_from s (i + 1)) has_it

module _ (p : ℕ → Bool) where
  pub rising_all : (n from : ℕ) → AllByRecursion (λ i. (from ≤ i) × (i < from + n) × (p i ≡ true)) (rising p from n)
  unfolding rising
  rising_all zero from = tt
  rising_all (suc n) from =
      let rest = All-weaker (λ i. (from + 1 ≤ i) × (i < from + 1 + n) × (p i ≡ true)) (λ i. (from ≤ i) × (i < from + suc n) × (p i ≡ true))
      (λ i h. (omega (arith, h.0), omega (arith, h.1, add-one n), h.2)) (rising p (from + 1) n) (rising_all n (from + 1)) in
      go (p from) refl rest
    where
      go : (b : Bool) → p from ≡ b → AllByRecursion (λ i. (from ≤ i) × (i < from + suc n) × (p i ≡ true)) (rising p (from + 1) n)
          → AllByRecursion (λ i. (from ≤ i) × (i < from + suc n) × (p i ≡ true)) (cond b (from ∷ rising p (from + 1) n) (rising p (from + 1) n))
      go true e rest = ((omega arith, omega (arith, add-one n), e), rest)
      go false e rest = rest

  pub rising_rises : (n from : ℕ) → Rises (rising p from n)
  unfolding rising
  rising_rises zero from = tt
  rising_rises (suc n) from = go (p from) (rising_rises n (from + 1))
    where
      go : (b : Bool) → Rises (rising p (from + 1) n) → Rises (cond b (from ∷ rising p (from + 1) n) (rising p (from + 1) n))
      go true rest =
          (All-weaker (λ i. (from + 1 ≤ i) × (i < from + 1 + n) × (p i ≡ true)) (λ i. from < i) (λ i h. omega (arith, h.0)) (rising p (from + 1) n) (rising_all n (from + 1)), rest)
      go false rest = rest

has_later : {X : Type 0} (x : X) (xs : List X) (y : X) → Has xs y → Has (x ∷ xs) y
has_later x xs y (k, below, at) = (suc k, omega arith, at)

module _ (p : ℕ → Bool) where
  pub rising_has : (n from i : ℕ) → from ≤ i → i < from + n → p i ≡ true → Has (rising p from n) i
  unfolding rising
  rising_has zero from i low high passes = absurd (omega arith)
  rising_has (suc n) from i low high passes = go (p from) refl (cases_eq i from) (λ below. rising_has n (from + 1) i (omega arith) (omega (arith, add-one n)) passes)
    where
      go : (b : Bool) → p from ≡ b → (i ≡ from) ⊎ (i ≡ from → ⊥) → (from < i → Has (rising p (from + 1) n) i) → Has (cond b (from ∷ rising p (from + 1) n) (rising p (from + 1) n)) i
      go true e (inl here) rest = (0, omega arith, λ d. sym here)
      go true e (inr later) rest = has_later from (rising p (from + 1) n) i (rest (omega arith))
      go false e (inl here) rest = absurd (both_ways (p from) e (ap p (sym here) ∙ passes))
      go false e (inr later) rest = rest (omega arith)

members_have : (s : SmallSet) (i : ℕ) → i < 64 → Decides (has s i) (Has (members s) i)
members_have s i below = (λ h. rising_has (has s) 64 0 i (omega arith) (omega arith) h, λ h. (all-has (λ k. (0 ≤ k) × (k < 0 + 64) × (has s k ≡ true)) (members s) i (rising_all (has s) 64 0) h).2)

pub laws_hold : Laws
laws_hold = record {
  same_members = same_members;
  none_has = bit_none;
  single_has = single_has;
  union_has = union_has;
  subset_means = λ s t. (subset_has s t, has_subset s t);
  disjoint_means = λ s t. (disjoint_has s t, has_disjoint s t);
  same_means = λ s t. (same_is s t, is_same s t);
  below_has = bit_low;
  union_comm = union_comm;
  union_assoc = union_assoc;
  union_self = union_self;
  union_none = union_none;
  subset_union = subset_union;
  union_least = union_least;
  subset_refl = subset_refl;
  subset_trans = subset_trans;
  subset_antisym = subset_antisym;
  members_have = members_have;
  members_below = λ s. All-weaker (λ k. (0 ≤ k) × (k < 0 + 64) × (has s k ≡ true)) (λ k. k < 64) (λ k h. h.1) (members s) (rising_all (has s) 64 0);
  members_rise = λ s. rising_rises (has s) 64 0;
}
