-- The question whether each node is used.
use Rattle.std.proofs.Common.{◌≡◌, ℕ, zero, suc, ◌+◌, ◌<◌, ◌≤◌, Bool, true, false, cond, ◌⊎◌, MatchOption, Some, None, Option, Ok, Err, Result, sym, refl, ap, ◌∙◌, inl, inr, arith}
use Rattle.std.proofs.lemmas.Bool.{cases_eq, cond-true, cond-false}
use Rattle.queries.specs.declared.refusal.TreeRefusal.{TreeRefusal}
use Rattle.queries.specs.declared.refusal.TreeRefusal.TheVariants.{Unused}
use Rattle.queries.specs.Questions.{uses_from, answered}

-- each of them is used
uses_all : (used : ℕ → Bool) (n j : ℕ) → ((k : ℕ) → j ≤ k → k < j + n → used k ≡ true) → answered (uses_from used j n) ≡ Ok tt
unfolding uses_from
uses_all used zero j h = refl
uses_all used (suc n) j h =
    cond-true (used j) (answered (uses_from used (j + 1) n)) (Err (Unused j)) (h j (omega arith) (omega arith))
    ∙ uses_all used n (j + 1) (λ k low high. h k (omega arith) (omega arith))

-- those before i are used, and i is not
uses_first : (used : ℕ → Bool) (n j i : ℕ) → j ≤ i → i < j + n → used i ≡ false → ((k : ℕ) → j ≤ k → k < i → used k ≡ true) → answered (uses_from used j n) ≡ Err (Unused i)
unfolding uses_from
uses_first used zero j i low high no' h = absurd (omega arith)
uses_first used (suc n) j i low high no' h = go (cases_eq i j) (uses_first used n (j + 1) i)
  where
    go : (i ≡ j) ⊎ (i ≡ j → ⊥) → (j + 1 ≤ i → i < j + 1 + n → used i ≡ false → ((k : ℕ) → j + 1 ≤ k → k < i → used k ≡ true) → answered (uses_from used (j + 1) n) ≡ Err (Unused i))
        → cond (used j) (answered (uses_from used (j + 1) n)) (Err (Unused j)) ≡ Err (Unused i)
    go (inl e) rest =
        cond-false (used j) (answered (uses_from used (j + 1) n)) (Err (Unused j)) (sym (ap used e) ∙ no') ∙ ap (λ (k : ℕ). Err (Unused k)) (sym e)
    go (inr ne) rest =
        cond-true (used j) (answered (uses_from used (j + 1) n)) (Err (Unused j)) (h j (omega arith) (omega arith))
        ∙ rest (omega arith) (omega arith) no' (λ k low' high'. h k (omega arith) high')

-- the answer by the first number that is not used
pub unused_first : (used : ℕ → Bool) (n : ℕ) (first : Option ℕ) (r : Result (Unit {0}) TreeRefusal)
    → MatchOption first ((k : ℕ) → 0 ≤ k → k < n → used k ≡ true) (λ i. (0 ≤ i) × (i < n) × (used i ≡ false) × ((k : ℕ) → 0 ≤ k → k < i → used k ≡ true))
    → MatchOption first (r ≡ Ok tt) (λ i. r ≡ Err (Unused i)) → r ≡ answered (uses_from used 0 n)
unused_first used n None r h e = e ∙ sym (uses_all used n 0 (λ k low high. h k low (omega arith)))
unused_first used n (Some i) r h e = e ∙ sym (uses_first used n 0 i h.0 (omega (arith, h.1)) h.2 h.3)

-- the questions are the same where the tests are
pub uses_same : (p q : ℕ → Bool) (n j : ℕ) → ((k : ℕ) → k < j + n → p k ≡ q k) → uses_from p j n ≡ uses_from q j n
unfolding uses_from
uses_same p q zero j same = refl
uses_same p q (suc n) j same =
    let e = same j (omega arith) in
    let r = uses_same p q n (j + 1) (λ k h. same k (omega arith)) in
    cc
