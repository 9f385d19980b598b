-- Sets of numbers below 64. A set is known by `has`; the laws below it say so (Laws).
use Rattle.std.specs.Prelude.{ℕ, ◌+◌, ◌-◌, ◌^◌, Bool, cond, List, [], ◌∷◌, length, Some, None, Option, ◌==◌, bit_and, bit_or, nat_le, nat_lt}
use Rattle.sets.specs.declared.small_set.SmallSet.{SmallSet}
use Rattle.sets.specs.Bits.{bit, rising}

-- whether the set has the number i
abbrev pub has : SmallSet → ℕ → Bool
has s i = bit s.bits i

abbrev pub none : SmallSet
none = record { bits = 0 }

-- the set of i alone
abbrev pub single : ℕ → SmallSet
single i = record { bits = 2 ^ i }

abbrev pub union : SmallSet → SmallSet → SmallSet
union s t = record { bits = bit_or s.bits t.bits }

-- whether t has every number that s has
abbrev pub subset : SmallSet → SmallSet → Bool
subset s t = bit_and s.bits t.bits == s.bits

-- whether s and t have no number in common
abbrev pub disjoint : SmallSet → SmallSet → Bool
disjoint s t = bit_and s.bits t.bits == 0

-- whether s and t are the same set
abbrev pub same : SmallSet → SmallSet → Bool
same s t = s.bits == t.bits

-- the numbers below n
abbrev pub below : ℕ → SmallSet
below n = record { bits = 2 ^ n - 1 }

-- the numbers of the set, in rising order
abbrev pub members : SmallSet → List ℕ
members s = rising (has s) 0 64

abbrev pub count : SmallSet → ℕ
count s = length (members s)

-- A set has numbers below 64 only, so one with another number is no set.
abbrev pub insert_answer : SmallSet → ℕ → Option SmallSet
insert_answer s i = cond (nat_lt i 64) (Some (union s (single i))) None

abbrev pub below_answer : ℕ → Option SmallSet
below_answer n = cond (nat_le n 64) (Some (below n)) None

abbrev pub single_answer : ℕ → Option SmallSet
single_answer i = cond (nat_lt i 64) (Some (single i)) None

-- those of its numbers that are `from` or above
abbrev pub members_from : SmallSet → ℕ → List ℕ
members_from s from = rising (has s) from (64 - from)

-- What is left of a set's numbers, by the first of them: that one and those above it, or nothing.
abbrev pub next_from : SmallSet → Option ℕ → List ℕ
next_from s None = []
next_from s (Some i) = i ∷ members_from s (i + 1)

-- the first number of a list
abbrev pub head : List ℕ → Option ℕ
head [] = None
head (x ∷ xs) = Some x
