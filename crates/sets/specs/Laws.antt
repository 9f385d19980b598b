-- What the definitions of sets mean, said by membership.
use Rattle.std.specs.Prelude.{◌≡◌, ℕ, ◌<◌, true, false, ◌||◌, List, [], ◌∷◌, Decides, ◌==◌, ◌≢◌, nat_lt}
use Rattle.std.specs.List.{ContainsAt as Has, AllByRecursion}
use Rattle.sets.specs.declared.small_set.SmallSet.{SmallSet}
use Rattle.sets.specs.Sets.{has, none, single, union, subset, disjoint, same, below, members}

-- every number of s is one of t
abbrev pub Within : SmallSet → SmallSet → Type 0
Within s t = (i : ℕ) → has s i ≡ true → has t i ≡ true

-- each number of the list is below all that follow it
abbrev pub Rises : List ℕ → Type 0
Rises [] = Unit {0}
Rises (x ∷ xs) = AllByRecursion (λ y. x < y) xs × Rises xs

pub record Laws : Type 0 where
  -- sets with the same members are equal
  pub same_members : (s t : SmallSet) → ((i : ℕ) → has s i ≡ has t i) → s ≡ t
  pub none_has : (i : ℕ) → has none i ≡ false
  pub single_has : (k i : ℕ) → has (single k) i ≡ (k == i)
  pub union_has : (s t : SmallSet) (i : ℕ) → has (union s t) i ≡ (has s i || has t i)
  pub subset_means : (s t : SmallSet) → Decides (subset s t) (Within s t)
  pub disjoint_means : (s t : SmallSet) → Decides (disjoint s t) ((i : ℕ) → has s i ≡ true → has t i ≢ true)
  pub same_means : (s t : SmallSet) → Decides (same s t) (s ≡ t)
  pub below_has : (n i : ℕ) → has (below n) i ≡ nat_lt i n
  pub union_comm : (s t : SmallSet) → union s t ≡ union t s
  pub union_assoc : (s t u : SmallSet) → union (union s t) u ≡ union s (union t u)
  pub union_self : (s : SmallSet) → union s s ≡ s
  pub union_none : (s : SmallSet) → union s none ≡ s
  pub subset_union : (s t : SmallSet) → subset s (union s t) ≡ true
  pub union_least : (s t u : SmallSet) → subset s u ≡ true → subset t u ≡ true → subset (union s t) u ≡ true
  pub subset_refl : (s : SmallSet) → subset s s ≡ true
  pub subset_trans : (s t u : SmallSet) → subset s t ≡ true → subset t u ≡ true → subset s u ≡ true
  pub subset_antisym : (s t : SmallSet) → subset s t ≡ true → subset t s ≡ true → s ≡ t
  -- the list of a set's numbers has just those, each once and in rising order
  pub members_have : (s : SmallSet) (i : ℕ) → i < 64 → Decides (has s i) (Has (members s) i)
  pub members_below : (s : SmallSet) → AllByRecursion (λ i. i < 64) (members s)
  pub members_rise : (s : SmallSet) → Rises (members s)
