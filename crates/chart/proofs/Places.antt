-- The places of the elements that pass, collected one by one.
use Rattle.std.proofs.Common.{◌≡◌, ℕ, ◌+◌, ◌<◌, ◌≤◌, Bool, true, false, cond, List, length, get_or, drop, sym, ap, ◌∙◌}
use Rattle.std.proofs.lemmas.List.{at_drop_more, at_drop_all}
use Rattle.std.proofs.lemmas.Bool.{cond-true, cond-false}
use Rattle.sets.specs.declared.small_set.SmallSet.{SmallSet}
use Rattle.sets.specs.Sets.{single, union}
use Rattle.sets.proofs.Sets.{union_assoc, union_none}
use Rattle.chart.specs.Lookup.{places}

module _ {X : Type 0} (p : X → Bool) (xs : List X) (i : ℕ) (d : X) (below : i < length xs) (found : SmallSet) where
  step : places p i (drop i xs) ≡ cond (p (get_or xs i d)) (union (single i) (places p (i + 1) (drop (i + 1) xs))) (places p (i + 1) (drop (i + 1) xs))
  step = at_drop_more (places p i) xs i d below

  -- one more that passes, and one that does not
  pub places_took : p (get_or xs i d) ≡ true → union (union found (single i)) (places p (i + 1) (drop (i + 1) xs)) ≡ union found (places p i (drop i xs))
  places_took h =
      union_assoc found (single i) (places p (i + 1) (drop (i + 1) xs))
      ∙ ap (union found) (sym (step ∙ cond-true (p (get_or xs i d)) (union (single i) (places p (i + 1) (drop (i + 1) xs))) (places p (i + 1) (drop (i + 1) xs)) h))

  pub places_passed : p (get_or xs i d) ≡ false → union found (places p (i + 1) (drop (i + 1) xs)) ≡ union found (places p i (drop i xs))
  places_passed h = ap (union found) (sym (step ∙ cond-false (p (get_or xs i d)) (union (single i) (places p (i + 1) (drop (i + 1) xs))) (places p (i + 1) (drop (i + 1) xs)) h))

pub places_done : {X : Type 0} (p : X → Bool) (xs : List X) (i : ℕ) → length xs ≤ i → (found : SmallSet) → union found (places p i (drop i xs)) ≡ found
places_done p xs i past found = ap (union found) (at_drop_all (places p i) xs i past) ∙ union_none found
