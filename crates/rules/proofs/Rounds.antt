-- Rounds of spreading over a path.
use Rattle.std.proofs.Common.{◌≡◌, ℕ, zero, suc, ◌+◌, ◌-◌, ◌<◌, ◌≤◌, refl, ap, ◌∙◌, arith}
use Rattle.sets.specs.declared.small_set.SmallSet.{SmallSet}
use Rattle.chart.specs.Layout.{Layout}
use Rattle.rules.specs.Trees.{spread, rounds}

module _ (l : Layout) (path : SmallSet) where
  -- a round fewer to come
  pub rounds_step : (n i : ℕ) (s : SmallSet) → i < n → rounds l path (n - i) s ≡ rounds l path (n - (i + 1)) (spread l path s)
  unfolding rounds
  rounds_step n i s below =
      let e : n - i ≡ suc (n - (i + 1)) = omega arith in
      ap (λ k. rounds l path k s) e

  pub rounds_none : (n i : ℕ) (s : SmallSet) → n ≤ i → rounds l path (n - i) s ≡ s
  unfolding rounds
  rounds_none n i s past = let e : n - i ≡ 0 = omega arith in ap (λ k. rounds l path k s) e

  -- where a round adds nothing, more rounds add nothing
  pub rounds_fixed : (n : ℕ) (s : SmallSet) → spread l path s ≡ s → rounds l path n s ≡ s
  unfolding rounds
  rounds_fixed zero s fixed = refl
  rounds_fixed (suc n) s fixed = ap (rounds l path n) fixed ∙ rounds_fixed n s fixed
