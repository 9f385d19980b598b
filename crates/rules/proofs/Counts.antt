-- How many numbers pass a test.
use Rattle.std.proofs.Common.{◌≡◌, ℕ, zero, suc, ◌+◌, ◌<◌, ◌≤◌, Bool, true, false, cond, ◌⊎◌, ◌∷◌, length, sym, refl, ap, ◌∙◌, inl, inr, arith}
use Rattle.std.proofs.lemmas.Bool.{cases_eq, both_ways}
use Rattle.sets.specs.declared.small_set.SmallSet.{SmallSet}
use Rattle.sets.specs.Bits.{rising}
use Rattle.sets.specs.Sets.{has, count}
use Rattle.sets.specs.Laws.{Within}

-- of n numbers, at most n pass
rising_most : (p : ℕ → Bool) (n from : ℕ) → length (rising p from n) ≤ n
unfolding rising
rising_most p zero from = omega arith
rising_most p (suc n) from = go (p from) (rising_most p n (from + 1))
  where
    go : (b : Bool) → length (rising p (from + 1) n) ≤ n → length (cond b (from ∷ rising p (from + 1) n) (rising p (from + 1) n)) ≤ suc n
    go true rest = omega arith
    go false rest = omega arith

-- a test that passes more, passes as many or more
module _ (p q : ℕ → Bool) (more : (i : ℕ) → p i ≡ true → q i ≡ true) where
  rising_more : (n from : ℕ) → length (rising p from n) ≤ length (rising q from n)
  unfolding rising
  rising_more zero from = omega arith
  rising_more (suc n) from = go (p from) refl (q from) refl (rising_more n (from + 1))
    where
      go : (a : Bool) → p from ≡ a → (b : Bool) → q from ≡ b → length (rising p (from + 1) n) ≤ length (rising q (from + 1) n)
          → length (cond a (from ∷ rising p (from + 1) n) (rising p (from + 1) n)) ≤ length (cond b (from ∷ rising q (from + 1) n) (rising q (from + 1) n))
      go true e true f rest = omega arith
      go true e false f rest = absurd (both_ways (q from) f (more from e))
      go false e true f rest = omega arith
      go false e false f rest = omega arith

  -- and if it passes no greater number of them, it passes the same
  rising_same : (n from : ℕ) → length (rising q from n) ≤ length (rising p from n) → (i : ℕ) → from ≤ i → i < from + n → q i ≡ true → p i ≡ true
  unfolding rising
  rising_same zero from few i low high passes = absurd (omega arith)
  rising_same (suc n) from few i low high passes =
      go (p from) refl (q from) refl few (cases_eq i from) (λ rest later. rising_same n (from + 1) rest i (omega arith) (omega arith) passes)
    where
      go : (a : Bool) → p from ≡ a → (b : Bool) → q from ≡ b
          → length (cond b (from ∷ rising q (from + 1) n) (rising q (from + 1) n)) ≤ length (cond a (from ∷ rising p (from + 1) n) (rising p (from + 1) n))
          → (i ≡ from) ⊎ (i ≡ from → ⊥) → (length (rising q (from + 1) n) ≤ length (rising p (from + 1) n) → from < i → p i ≡ true) → p i ≡ true
      go true e b f few (inl here) rest = ap p here ∙ e
      go true e true f few (inr other) rest = rest (omega arith) (omega arith)
      go true e false f few (inr other) rest = absurd (both_ways (q from) f (more from e))
      go false e true f few at rest = let fewer = rising_more n (from + 1) in absurd (omega arith)
      go false e false f few (inl here) rest = absurd (both_ways (q from) f (ap q (sym here) ∙ passes))
      go false e false f few (inr other) rest = rest few (omega arith)

pub count_most : (s : SmallSet) → count s ≤ 64
count_most s = rising_most (has s) 64 0

-- a set within another that has no more numbers below 64 has the same numbers there
pub count_same : (s t : SmallSet) → Within s t → count t ≤ count s → (i : ℕ) → i < 64 → has t i ≡ true → has s i ≡ true
count_same s t within few i below h = rising_same (has s) (has t) within 64 0 few i (omega arith) (omega arith) h
