-- How many numbers of a range pass a test, and views made of those.
use Rattle.std.proofs.Common.{◌≡◌, ℕ, zero, suc, ◌+◌, ◌<◌, ◌≤◌, Bool, true, false, cond, ◌||◌, ◌⊎◌, List, [], ◌∷◌, map, length, sym, refl, ap, ◌∙◌, inl, inr, arith}
use Rattle.std.specs.List.{flat_map}
use Rattle.std.proofs.lemmas.Bool.{or_cases, or_left, or_right, both_ways, cases_eq, false≢true}
use Rattle.sets.specs.Bits.{rising}
use Rattle.rules.specs.declared.view.View.{View}
use Rattle.members.specs.Members.{same_view, among}
use Rattle.members.proofs.Views.{same_view_is, is_same_view, among_left, among_right, among_append}

pub count_le : (p : ℕ → Bool) (n from : ℕ) → length (rising p from n) ≤ n
unfolding rising
count_le p zero from = omega arith
count_le p (suc n) from =
    let h = count_le p n (from + 1) in
    elim (p from) as (λ b. length (cond b (from ∷ rising p (from + 1) n) (rising p (from + 1) n)) ≤ suc n) [ true ↦ omega arith | false ↦ omega arith ]

pub count_some : (p : ℕ → Bool) (n from i : ℕ) → from ≤ i → i < from + n → p i ≡ true → 1 ≤ length (rising p from n)
unfolding rising
count_some p zero from i low high h = absurd (omega arith)
count_some p (suc n) from i low high h = go (p from) refl (cases_eq i from) (λ later. count_some p n (from + 1) i (omega arith) (omega arith) h)
  where
    go : (b : Bool) → p from ≡ b → (i ≡ from) ⊎ (i ≡ from → ⊥) → ((i ≡ from → ⊥) → 1 ≤ length (rising p (from + 1) n)) → 1 ≤ length (cond b (from ∷ rising p (from + 1) n) (rising p (from + 1) n))
    go true e o rest = omega arith
    go false e (inl here) rest = absurd (both_ways (p from) e (ap p (sym here) ∙ h))
    go false e (inr later) rest = rest later

-- tests that no number passes both
pub count_either : (p q r : ℕ → Bool) (n from : ℕ) → ((i : ℕ) → r i ≡ (p i || q i)) → ((i : ℕ) → from ≤ i → i < from + n → p i ≡ true → q i ≡ true → ⊥)
    → length (rising r from n) ≡ length (rising p from n) + length (rising q from n)
unfolding rising
count_either p q r zero from either never = refl
count_either p q r (suc n) from either never =
    go (p from) (q from) (r from) (either from) (never from (omega arith) (omega arith))
    (count_either p q r n (from + 1) either (λ i low high. never i (omega arith) (omega arith)))
  where
    go : (a b d : Bool) → d ≡ (a || b) → (a ≡ true → b ≡ true → ⊥)
        → length (rising r (from + 1) n) ≡ length (rising p (from + 1) n) + length (rising q (from + 1) n)
        → length (cond d (from ∷ rising r (from + 1) n) (rising r (from + 1) n))
        ≡ length (cond a (from ∷ rising p (from + 1) n) (rising p (from + 1) n)) + length (cond b (from ∷ rising q (from + 1) n) (rising q (from + 1) n))
    go true true d e no-two rest = absurd (no-two refl refl)
    go true false true e no-two rest = omega arith
    go true false false e no-two rest = absurd (false≢true e)
    go false true true e no-two rest = omega arith
    go false true false e no-two rest = absurd (false≢true e)
    go false false true e no-two rest = absurd (false≢true (sym e))
    go false false false e no-two rest = rest

-- past the last number that passes there is nothing
pub rising_none : (p : ℕ → Bool) (n from : ℕ) → ((i : ℕ) → from ≤ i → p i ≡ false) → rising p from n ≡ []
unfolding rising
rising_none p zero from never = refl
rising_none p (suc n) from never =
    ap (λ b. cond b (from ∷ rising p (from + 1) n) (rising p (from + 1) n)) (never from (omega arith))
    ∙ rising_none p n (from + 1) (λ i low. never i (omega arith))

pub rising_same : (p : ℕ → Bool) (m n from : ℕ) → m ≤ n → ((i : ℕ) → from + m ≤ i → p i ≡ false) → rising p from m ≡ rising p from n
unfolding rising
rising_same p zero n from le never = sym (rising_none p n from (λ i low. never i (omega arith)))
rising_same p (suc m) zero from le never = absurd (omega arith)
rising_same p (suc m) (suc n) from le never =
    ap (λ rest. cond (p from) (from ∷ rest) rest) (rising_same p m n (from + 1) (omega arith) (λ i low. never i (omega arith)))

-- a view made of a number that passes
pub among_made : (f : ℕ → View) (p : ℕ → Bool) (n from i : ℕ) → from ≤ i → i < from + n → p i ≡ true → among (f i) (map f (rising p from n)) ≡ true
unfolding rising
among_made f p zero from i low high h = absurd (omega arith)
among_made f p (suc n) from i low high h = go (p from) refl (cases_eq i from) (λ later. among_made f p n (from + 1) i (omega arith) (omega arith) h)
  where
    go : (b : Bool) → p from ≡ b → (i ≡ from) ⊎ (i ≡ from → ⊥) → ((i ≡ from → ⊥) → among (f i) (map f (rising p (from + 1) n)) ≡ true)
        → among (f i) (map f (cond b (from ∷ rising p (from + 1) n) (rising p (from + 1) n))) ≡ true
    go true e (inl here) rest = or_left (same_view (f i) (f from)) (among (f i) (map f (rising p (from + 1) n))) (is_same_view (f i) (f from) (ap f here))
    go true e (inr later) rest = or_right (same_view (f i) (f from)) (among (f i) (map f (rising p (from + 1) n))) (rest later)
    go false e (inl here) rest = absurd (both_ways (p from) e (ap p (sym here) ∙ h))
    go false e (inr later) rest = rest later

pub made_among : (f : ℕ → View) (p : ℕ → Bool) (n from : ℕ) (v : View) → among v (map f (rising p from n)) ≡ true → (i : ℕ) × (p i ≡ true) × (v ≡ f i)
unfolding rising
made_among f p zero from v h = absurd (false≢true h)
made_among f p (suc n) from v h = go (p from) refl h (made_among f p n (from + 1) v)
  where
    go : (b : Bool) → p from ≡ b → among v (map f (cond b (from ∷ rising p (from + 1) n) (rising p (from + 1) n))) ≡ true
        → (among v (map f (rising p (from + 1) n)) ≡ true → (i : ℕ) × (p i ≡ true) × (v ≡ f i)) → (i : ℕ) × (p i ≡ true) × (v ≡ f i)
    go true e h rest =
        elim (or_cases (same_view v (f from)) (among v (map f (rising p (from + 1) n))) h)
        [ inl s ↦ (from, e, same_view_is v (f from) s) | inr k ↦ rest k ]
    go false e h rest = rest h

-- a view of a joined list stands in one of its parts
pub among_joined : (f : View → List View) (v w : View) (xs : List View) → among w xs ≡ true → among v (f w) ≡ true → among v (flat_map f xs) ≡ true
among_joined f v w [] h k = absurd (false≢true h)
among_joined f v w (x ∷ xs) h k =
    elim (or_cases (same_view w x) (among w xs) h) [
      | inl s ↦ among_left v (f x) (flat_map f xs) (ap (λ u. among v (f u)) (sym (same_view_is w x s)) ∙ k)
      | inr a ↦ among_right v (f x) (flat_map f xs) (among_joined f v w xs a k)
    ]

pub joined_among : (f : View → List View) (v : View) (xs : List View) → among v (flat_map f xs) ≡ true → (w : View) × (among w xs ≡ true) × (among v (f w) ≡ true)
joined_among f v [] h = absurd (false≢true h)
joined_among f v (x ∷ xs) h =
    elim (or_cases (among v (f x)) (among v (flat_map f xs)) (sym (among_append v (f x) (flat_map f xs)) ∙ h)) [
      | inl a ↦ (x, or_left (same_view x x) (among x xs) (is_same_view x x refl), a)
      | inr k ↦ let r = joined_among f v xs k in (r.0, or_right (same_view r.0 x) (among r.0 xs) r.1, r.2)
    ]
