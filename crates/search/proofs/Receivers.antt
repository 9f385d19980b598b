-- The set of the servers that may see a profile, one server at a time.
use Rattle.std.proofs.Common.{◌≡◌, ℕ, ◌+◌, ◌<◌, ◌≤◌, Bool, true, false, ◌||◌, eqb, ◌⊎◌, sym, refl, ap, ◌∙◌, inl, inr, arith, below_more}
use Rattle.std.proofs.Math.Bool.{or-false}
use Rattle.std.proofs.lemmas.Bool.{eq-eqb, ne_eqb, or_right, or_from}
use Rattle.sets.specs.declared.small_set.SmallSet.{SmallSet}
use Rattle.sets.specs.Sets.{has, none}
use Rattle.sets.proofs.Sets.{laws_hold}

pub none_told : (s : SmallSet) → s ≡ none → (i : ℕ) → has s i ≡ false
none_told s e i = ap (λ (t : SmallSet). has t i) e ∙ laws_hold.none_has i

module _ (may : ℕ → Bool) (i : ℕ) (few : i < 64) (old new : SmallSet) (told : (s : ℕ) → s < i → has old s ≡ may s) (rest : (s : ℕ) → i ≤ s → s < 64 → has old s ≡ false)
    (came : ((may i ≡ true) × ((s : ℕ) → s < 64 → has new s ≡ (has old s || eqb i s))) ⊎ ((may i ≡ false) × (new ≡ old))) where
  pub told_more : (s : ℕ) → s < i + 1 → has new s ≡ may s
  told_more = go came
    where
      go : ((may i ≡ true) × ((s : ℕ) → s < 64 → has new s ≡ (has old s || eqb i s))) ⊎ ((may i ≡ false) × (new ≡ old)) → (s : ℕ) → s < i + 1 → has new s ≡ may s
      go (inl h) =
          below_more _ _
          (λ s b. h.1 s (omega arith) ∙ ap (λ (c : Bool). has old s || c) (ne_eqb i s (λ e. omega arith)) ∙ or-false (has old s) ∙ told s b)
          (h.1 i few ∙ or_right (has old i) (eqb i i) (eq-eqb i i refl) ∙ sym h.0)
      go (inr h) =
          below_more _ _
          (λ s b. ap (λ (t : SmallSet). has t s) h.1 ∙ told s b)
          (ap (λ (t : SmallSet). has t i) h.1 ∙ rest i (omega arith) few ∙ sym h.0)

  pub rest_more : (s : ℕ) → i + 1 ≤ s → s < 64 → has new s ≡ false
  rest_more s b f = go came
    where
      go : ((may i ≡ true) × ((s : ℕ) → s < 64 → has new s ≡ (has old s || eqb i s))) ⊎ ((may i ≡ false) × (new ≡ old)) → has new s ≡ false
      go (inl h) = h.1 s f ∙ or_from (has old s) (eqb i s) (rest s (omega arith) f) (ne_eqb i s (λ e. omega arith))
      go (inr h) = ap (λ (t : SmallSet). has t s) h.1 ∙ rest s (omega arith) f
