-- What the first of the cheapest is: the offer at a place, none cheaper, and those before it dearer.
use Rattle.std.proofs.Common.{◌≡◌, ℕ, zero, suc, ◌+◌, ◌<◌, Bool, true, false, cond, ◌||◌, ◌⊎◌, Some, None, Option, sym, refl, ap, ◌∙◌, subst, inl, inr, ⊎_elim, add-one, arith}
use Rattle.std.proofs.lemmas.Bool.{both_ways, or_cases, cases_lt}
use Rattle.assignments.specs.Cheapest.{better, cheapest}

pub not_both : {X : Type 0} (o : Option X) (x : X) → o ≡ None → o ≡ Some x → ⊥
not_both o x e h = let z : ◌≡◌ {A = ℕ} 0 1 = cc in omega arith

pub same_some : {X : Type 0} (o : Option X) (x y : X) → o ≡ Some x → o ≡ Some y → x ≡ y
same_some o x y e h = cc

-- one of the numbers below the next one
below_next : (j n : ℕ) → j < suc n → (j < n) ⊎ (j ≡ n)
below_next j n h = ⊎_elim inl (λ past. inr (omega arith)) (cases_lt j n)

module _ {P : Type 0} (leq : P → P → Bool) (total : (x y : P) → (leq x y || leq y x) ≡ true) (transitive : (x y z : P) → leq x y ≡ true → leq y z ≡ true → leq x z ≡ true) where
  pub level : (x : P) → leq x x ≡ true
  level x = ⊎_elim (λ t. t) (λ t. t) (or_cases (leq x x) (leq x x) (total x x))

  dearer : (x y : P) → leq x y ≡ false → leq y x ≡ true
  dearer x y h = ⊎_elim (λ t. absurd (both_ways (leq x y) h t)) (λ t. t) (or_cases (leq x y) (leq y x) (total x y))

  -- where x is dearer than z, so is whatever x is at most
  pub dearer_still : (x y z : P) → leq x y ≡ true → leq x z ≡ false → leq y z ≡ false
  dearer_still x y z h k = go (leq y z) refl
    where
      go : (b : Bool) → leq y z ≡ b → leq y z ≡ false
      go true e = absurd (both_ways (leq x z) k (transitive x y z h e))
      go false e = e

module _ {X P : Type 0} (leq : P → P → Bool) (key : X → P) where
  pub cheapest_none : (f : ℕ → Option X) → cheapest leq key f 0 ≡ None
  unfolding cheapest
  cheapest_none f = refl

  pub cheapest_more : (f : ℕ → Option X) (n : ℕ) → cheapest leq key f (n + 1) ≡ better leq key (cheapest leq key f n) (f n)
  unfolding cheapest
  cheapest_more f n = ap (cheapest leq key f) (add-one n)

  pub cheapest_like : (f g : ℕ → Option X) (n : ℕ) → ((j : ℕ) → j < n → f j ≡ g j) → cheapest leq key f n ≡ cheapest leq key g n
  unfolding cheapest
  cheapest_like f g zero e = refl
  cheapest_like f g (suc n) e =
      let rest : cheapest leq key f n ≡ cheapest leq key g n = cheapest_like f g n (λ j h. e j (omega arith)) in
      let here : f n ≡ g n = e n (omega arith) in
      rw (rest, here)

  -- the better of two is one of them
  better_of : (x y : Option X) (p : X) → better leq key x y ≡ Some p → (x ≡ Some p) ⊎ (y ≡ Some p)
  better_of None y p e = inr e
  better_of (Some x) None p e = inl e
  better_of (Some x) (Some y) p e = go (leq (key x) (key y)) e
    where
      go : (b : Bool) → cond b (Some x) (Some y) ≡ Some p → (Some x ≡ Some p) ⊎ (Some y ≡ Some p)
      go true h = inl h
      go false h = inr h

  -- what is cheapest is offered somewhere
  pub cheapest_offered : (f : ℕ → Option X) (n : ℕ) (p : X) → cheapest leq key f n ≡ Some p → (k : ℕ) × (k < n) × (f k ≡ Some p)
  unfolding cheapest
  cheapest_offered f zero p e = absurd (not_both _ p refl e)
  cheapest_offered f (suc n) p e =
      ⊎_elim (λ h. let r = cheapest_offered f n p h in (r.0, omega arith, r.2)) (λ h. (n, omega arith, h)) (better_of (cheapest leq key f n) (f n) p e)

  -- p is offered at a place; none is cheaper, and those before it are dearer
  pub record First (f : ℕ → Option X) (n : ℕ) (p : X) : Type 0 where
    pub spot : ℕ
    pub below : spot < n
    pub offered : f spot ≡ Some p
    pub least : (j : ℕ) (q : X) → j < n → f j ≡ Some q → leq (key p) (key q) ≡ true
    pub first : (j : ℕ) (q : X) → j < spot → f j ≡ Some q → leq (key q) (key p) ≡ false

  abbrev Found : (ℕ → Option X) → ℕ → Option X → Type 0
  Found f n None = (j : ℕ) → j < n → f j ≡ None
  Found f n (Some p) = First f n p

  module _ (total : (x y : P) → (leq x y || leq y x) ≡ true) (transitive : (x y z : P) → leq x y ≡ true → leq y z ≡ true → leq x z ≡ true) where
    module _ (f : ℕ → Option X) (n : ℕ) where
      -- the offer at n stays behind what was found before
      stays : (x : X) → ((q : X) → f n ≡ Some q → leq (key x) (key q) ≡ true) → First f n x → First f (suc n) x
      stays x behind h = record {
        spot = h.spot;
        below = omega arith;
        offered = h.offered;
        least = λ j q b o. ⊎_elim (λ l. h.least j q l o) (λ e. behind q (sym (ap f e) ∙ o)) (below_next j n b);
        first = h.first;
      }

      -- or it is taken
      takes : (y : X) → f n ≡ Some y → ((j : ℕ) (q : X) → j < n → f j ≡ Some q → (leq (key y) (key q) ≡ true) × (leq (key q) (key y) ≡ false)) → First f (suc n) y
      takes y e ahead = record {
        spot = n;
        below = omega arith;
        offered = e;
        least = λ j q b o. ⊎_elim (λ l. (ahead j q l o).0) (λ i. let z : y ≡ q = same_some (f n) y q e (sym (ap f i) ∙ o) in rw z (level leq total transitive (key q))) (below_next j n b);
        first = λ j q b o. (ahead j q b o).1;
      }

      found_next : (b y : Option X) → f n ≡ y → Found f n b → Found f (suc n) (better leq key b y)
      found_next None None e h = λ j b. ⊎_elim (λ l. h j l) (λ i. ap f i ∙ e) (below_next j n b)
      found_next None (Some y) e h = takes y e (λ j q l o. absurd (not_both (f j) q (h j l) o))
      found_next (Some x) None e h = stays x (λ q o. absurd (not_both (f n) q e o)) h
      found_next (Some x) (Some y) e h = go (leq (key x) (key y)) refl
        where
          go : (v : Bool) → leq (key x) (key y) ≡ v → Found f (suc n) (cond v (Some x) (Some y))
          go true d = stays x (λ q o. let z : y ≡ q = same_some (f n) y q e o in rw (← z) d) h
          go false d =
              takes y e (λ j q l o.
              (transitive (key y) (key x) (key q) (dearer leq total transitive (key x) (key y) d) (h.least j q l o), dearer_still leq total transitive (key x) (key q) (key y) (h.least j q l o) d))

    found : (f : ℕ → Option X) (n : ℕ) → Found f n (cheapest leq key f n)
    unfolding cheapest
    found f zero = λ j h. absurd (omega arith)
    found f (suc n) = found_next f n (cheapest leq key f n) (f n) refl (found f n)

    pub cheapest_empty : (f : ℕ → Option X) (n : ℕ) → cheapest leq key f n ≡ None → (j : ℕ) → j < n → f j ≡ None
    cheapest_empty f n e = subst (Found f n) e (found f n)

    pub cheapest_first : (f : ℕ → Option X) (n : ℕ) (p : X) → cheapest leq key f n ≡ Some p → First f n p
    cheapest_first f n p e = subst (Found f n) e (found f n)
