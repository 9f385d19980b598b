-- Rows that are empty, and the first of them.
use Rattle.std.proofs.Common.{◌≡◌, ℕ, zero, suc, ◌+◌, ◌<◌, ◌≤◌, Bool, true, false, cond, not, ◌&&◌, ◌⊎◌, length, is_some, MatchOption, subst, zero-add, Some, None, Option, sym, refl, ap, ◌∙◌, ap₂, inl, inr, ⊎_elim, arith}
use Rattle.std.specs.Bool.{MatchBool}
use Rattle.std.specs.List.{AllWithin, HoldsAt, range_with_len}
use Rattle.std.proofs.lemmas.List.FromFn.{get_or-range_with_len, length-range_with_len}
use Rattle.std.proofs.lemmas.Bool.{cases_order, cases_lt, cases_Bool, and_parts, and_from, and_left, and_right, not_from_true, not_from_false, not-true, both_ways}
use Rattle.assignments.specs.declared.parts.Place.{Place}
use Rattle.search.specs.Root.{empty_row, first_of}

no_some : {X : Type 0} (o : Option X) → is_some o ≡ false → o ≡ None
no_some None h = refl
no_some (Some x) h = absurd (both_ways true h refl)

module _ {P : Type 0} (f : ℕ → Option (Place P)) where
  pub empty_stop : (n i : ℕ) → i < n → is_some (f i) ≡ true → empty_row f n ≡ false
  unfolding empty_row
  empty_stop zero i h e = absurd (omega arith)
  empty_stop (suc n) i h e = go (empty_stop n i) (cases_lt i n)
    where
      go : (i < n → is_some (f i) ≡ true → empty_row f n ≡ false) → (i < n) ⊎ (n ≤ i) → empty_row f (suc n) ≡ false
      go below (inl lt) = and_left (empty_row f n) (not (is_some (f n))) (below lt e)
      go below (inr ge) =
          let z : n ≡ i = omega arith in
          and_right (empty_row f n) (not (is_some (f n))) (not_from_true (is_some (f n)) (ap (λ (k : ℕ). is_some (f k)) z ∙ e))

  -- an empty row is empty at every server, and one that is not has a place
  pub empty_at : (n : ℕ) → empty_row f n ≡ true → (s : ℕ) → s < n → f s ≡ None
  unfolding empty_row
  empty_at zero h s b = absurd (omega arith)
  empty_at (suc n) h s b =
      let t = and_parts (empty_row f n) (not (is_some (f n))) h in
      ⊎_elim (λ lt. empty_at n t.0 s lt) (λ ge. let z : s ≡ n = omega arith in ap f z ∙ no_some (f n) (not-true (is_some (f n)) t.1)) (cases_lt s n)

  pub all_empty : (n : ℕ) → ((s : ℕ) → s < n → f s ≡ None) → empty_row f n ≡ true
  unfolding empty_row
  all_empty zero h = refl
  all_empty (suc n) h = and_from (empty_row f n) (not (is_some (f n))) (all_empty n (λ s b. h s (omega arith))) (not_from_false (is_some (f n)) (ap is_some (h n (omega arith))))

  pub some_at : (n : ℕ) → empty_row f n ≡ false → (s : ℕ) × (s < n) × ((p : Place P) × (f s ≡ Some p))
  unfolding empty_row
  some_at zero h = absurd (both_ways true h refl)
  some_at (suc n) h = go (some_at n) (cases_Bool (empty_row f n)) (f n) refl
    where
      go : (empty_row f n ≡ false → (s : ℕ) × (s < n) × ((p : Place P) × (f s ≡ Some p))) → (empty_row f n ≡ true) ⊎ (empty_row f n ≡ false) → (o : Option (Place P)) → f n ≡ o
          → (s : ℕ) × (s < suc n) × ((p : Place P) × (f s ≡ Some p))
      go below (inr e) o k = let r = below e in (r.0, omega (arith, r.1), r.2)
      go below (inl e) None k = absurd (both_ways (empty_row f (suc n)) h (and_from (empty_row f n) (not (is_some (f n))) e (not_from_false (is_some (f n)) (ap is_some k))))
      go below (inl e) (Some p) k = (n, omega arith, (p, k))

-- whether a row is empty, by a walk over its servers
pub empty_by : {P : Type 0} (f : ℕ → Option (Place P)) (n : ℕ) (r : Bool)
    → MatchBool r (AllWithin (λ s. is_some (f s) ≡ false) (range_with_len 0 n) 0 (length (range_with_len 0 n))) ((k : ℕ) × (k < length (range_with_len 0 n)) × HoldsAt (λ s. is_some (f s) ≡ true) (range_with_len 0 n) k)
    → r ≡ empty_row f n
empty_by f n true h =
    let z = length-range_with_len 0 n in
    sym (all_empty f n (λ s b. no_some (f s) (subst (λ (k : ℕ). is_some (f k) ≡ false) (get_or-range_with_len 0 n s 0 b ∙ zero-add s) (h s 0 (omega arith) (omega arith)))))
empty_by f n false h =
    let z = length-range_with_len 0 n in
    let below : h.0 < n = omega (arith, h.1) in
    sym (empty_stop f n h.0 below (subst (λ (k : ℕ). is_some (f k) ≡ true) (get_or-range_with_len 0 n h.0 0 below ∙ zero-add h.0) (h.2 0)))

pub empty_like : {P : Type 0} (f g : ℕ → Option (Place P)) (n : ℕ) → ((s : ℕ) → s < n → f s ≡ g s) → empty_row f n ≡ empty_row g n
unfolding empty_row
empty_like f g zero h = refl
empty_like f g (suc n) h = ap₂ (λ (a b : Bool). a && b) (empty_like f g n (λ s b. h s (omega arith))) (ap (λ o. not (is_some o)) (h n (omega arith)))

module _ (p : ℕ → Bool) where
  -- where one of the numbers passes, the first of them does, and none before it
  pub record FirstPasses (k n r : ℕ) : Type 0 where
    pub below : r < k + n
    pub from : k ≤ r
    pub passes : p r ≡ true
    pub others : (j : ℕ) → k ≤ j → j < r → p j ≡ false

  pub first_passes : (n k i : ℕ) → k ≤ i → i < k + n → p i ≡ true → FirstPasses k n (first_of p k n)
  unfolding first_of
  first_passes zero k i low high h = absurd (omega arith)
  first_passes (suc n) k i low high h = go (first_passes n (k + 1) i) (p k) refl
    where
      go : (k + 1 ≤ i → i < k + 1 + n → p i ≡ true → FirstPasses (k + 1) n (first_of p (k + 1) n)) → (b : Bool) → p k ≡ b → FirstPasses k (suc n) (cond (p k) k (first_of p (k + 1) n))
      go rest true e = rw e (record { below = omega arith; from = omega arith; passes = e; others = λ j l u. absurd (omega arith) })
      go rest false e =
          let ne : i ≡ k → ⊥ = λ z. both_ways (p k) e (sym (ap p z) ∙ h) in
          let r = rest (⊎_elim (λ q. absurd (ne q)) (λ q. q) (cases_order' i k low)) (omega arith) h in
          rw e (record { below = omega (arith, r.below); from = omega (arith, r.from); passes = r.passes; others = λ j l u. ⊎_elim (λ q. ap p q ∙ e) (λ q. r.others j q u) (cases_order' j k l) })
        where
          cases_order' : (a b : ℕ) → b ≤ a → (a ≡ b) ⊎ (b + 1 ≤ a)
          cases_order' a b l = ⊎_elim (λ q. inr (omega arith)) (λ q. inl (omega arith)) (cases_lt b a)

-- what a walk over the numbers finds
pub first_by : (p : ℕ → Bool) (n : ℕ) (r : Option ℕ)
    → MatchOption r ((k : ℕ) → 0 ≤ k → k < n → p k ≡ false) (λ i. (0 ≤ i) × (i < n) × (p i ≡ true) × ((k : ℕ) → 0 ≤ k → k < i → p k ≡ false))
    → MatchOption r ((k : ℕ) → k < n → p k ≡ false) (λ i. i ≡ first_of p 0 n)
first_by p n None h = λ k b. h k (omega arith) b
first_by p n (Some i) h =
    let f = first_passes p n 0 i (omega arith) (omega (arith, h.1)) h.2 in
    ⊎_elim (λ e. e)
    (⊎_elim (λ lt. absurd (both_ways (p i) (f.others i (omega arith) lt) h.2)) (λ gt. absurd (both_ways (p (first_of p 0 n)) (h.3 (first_of p 0 n) (omega arith) gt) f.passes)))
    (cases_order i (first_of p 0 n))

pub first_like : (p q : ℕ → Bool) (n k : ℕ) → ((j : ℕ) → k ≤ j → j < k + n → p j ≡ q j) → first_of p k n ≡ first_of q k n
unfolding first_of
first_like p q zero k h = refl
first_like p q (suc n) k h =
    let e = h k (omega arith) (omega arith) in
    let r = first_like p q n (k + 1) (λ j l u. h j (omega arith) (omega arith)) in
    ap₂ (λ (b : Bool) (m : ℕ). cond b k m) e r
