-- Slots that are filled and emptied.
use Rattle.std.proofs.Common.{◌≡◌, ℕ, zero, suc, ◌<◌, ◌≤◌, Bool, true, false, cond, not, ◌||◌, eqb, List, [], ◌∷◌, length, get_or, set, is_some, Some, None, Ok, Err, filter, Option, sym, refl, ap, ◌∙◌, arith, MatchOption, inl, inr, ltb}
use Rattle.std.specs.List.{position, position_or_len, list_all, list_any}
use Rattle.std.proofs.lemmas.List.Sums.{fails_before_first}
use Rattle.std.proofs.lemmas.List.Quantifiers.{position-Some}
use Rattle.std.proofs.lemmas.Bool.{false≢true, true≢false, eqb-true, and_parts, not-true, not_from_true, not_from_false, eq-eqb, ne_eqb, cond-true, cond-false, both_ways, or_left, or_right, or_parts, or_from, and_from, cases_lt, lt-ltb}
use Rattle.rules.specs.declared.view.RuleRecord.{RuleRecord}
use Rattle.rules.specs.declared.rule.Rule.{Rule}
use Rattle.policy.specs.declared.refusal.BookRefusal.TheVariants.{InForce, Full}
use Rattle.std.specs.List.{flat_map}
use Rattle.policy.specs.Viewed.{slot_views}
use Rattle.policy.specs.Reading.{granted}
use Rattle.policy.specs.Same.{Same, keep, swap, chain}
use Rattle.policy.specs.Books.{in_force, apart, place_answer, withdrawal_list}
use Rattle.books.specs.Slots.{held, numbered, is_free, Holds, Free}
use Rattle.policy.proofs.Orders.{same_refl}

clash : {r : Rule} → ◌≡◌ {A = Option Rule} None (Some r) → ⊥
clash h = let z : ◌≡◌ {A = ℕ} 0 1 = cc in omega arith

clash' : {r : Rule} → ◌≡◌ {A = Option Rule} (Some r) None → ⊥
clash' h = let z : ◌≡◌ {A = ℕ} 0 1 = cc in omega arith

-- a rule in a free slot
pub held_filled : (slots : List (Option Rule)) (i : ℕ) (r : Rule) → i < length slots → get_or slots i None ≡ None → Same (held (set slots i (Some r))) (r.given ∷ held slots)
held_filled [] i r below free = absurd (omega arith)
held_filled (None ∷ slots) zero r below free = same_refl (r.given ∷ held slots)
held_filled (Some q ∷ slots) zero r below free = absurd (clash' free)
held_filled (None ∷ slots) (suc i) r below free = held_filled slots i r (omega arith) free
held_filled (Some q ∷ slots) (suc i) r below free = chain (keep q.given (held_filled slots i r (omega arith) free)) (swap q.given r.given (held slots))

pub held_most : (slots : List (Option Rule)) → length (held slots) ≤ length slots
held_most [] = omega arith
held_most (None ∷ slots) = let h = held_most slots in omega arith
held_most (Some q ∷ slots) = let h = held_most slots in omega arith

-- with a free slot there are fewer rules than slots
pub held_fewer : (slots : List (Option Rule)) (i : ℕ) → i < length slots → get_or slots i None ≡ None → length (held slots) < length slots
held_fewer [] i below free = absurd (omega arith)
held_fewer (None ∷ slots) zero below free = let h = held_most slots in omega arith
held_fewer (Some q ∷ slots) zero below free = absurd (clash' free)
held_fewer (None ∷ slots) (suc i) below free = let h = held_fewer slots i (omega arith) free in omega arith
held_fewer (Some q ∷ slots) (suc i) below free = let h = held_fewer slots i (omega arith) free in omega arith

-- the rule of a slot is in force
pub held_there : (slots : List (Option Rule)) (i : ℕ) (r : Rule) → get_or slots i None ≡ Some r → in_force r.given.number (held slots) ≡ true
held_there [] i r at = absurd (clash at)
held_there (None ∷ slots) zero r at = absurd (clash at)
held_there (Some q ∷ slots) zero r at =
    let e : q ≡ r = cc in
    or_left (eqb q.given.number r.given.number) (in_force r.given.number (held slots)) (eq-eqb q.given.number r.given.number (ap (λ (x : Rule). x.given.number) e))
held_there (None ∷ slots) (suc i) r at = held_there slots i r at
held_there (Some q ∷ slots) (suc i) r at =
    or_right (eqb q.given.number r.given.number) (in_force r.given.number (held slots)) (held_there slots i r at)

pub holds_in_force : (slots : List (Option Rule)) (i n : ℕ) → Holds slots i n → in_force n (held slots) ≡ true
holds_in_force slots i n h = ap (λ k. in_force k (held slots)) (sym h.named) ∙ held_there slots i h.rule h.there

-- where no rule has the number, a withdrawal takes none
pub absent : (rules : List RuleRecord) (n : ℕ) → in_force n rules ≡ false → withdrawal_list rules n ≡ rules
absent [] n h = refl
absent (r ∷ rules) n h =
    let p = or_parts (eqb r.number n) (in_force n rules) h in
    cond-true (not (eqb r.number n)) (r ∷ withdrawal_list rules n) (withdrawal_list rules n) (not_from_false (eqb r.number n) p.0) ∙ ap (λ rest. r ∷ rest) (absent rules n p.1)

-- the rule of a slot leaves, and only that one
pub held_emptied : (slots : List (Option Rule)) (i : ℕ) (r : Rule) → get_or slots i None ≡ Some r → apart (held slots) ≡ true → held (set slots i None) ≡ withdrawal_list (held slots) r.given.number
held_emptied [] i r at distinct = absurd (clash at)
held_emptied (None ∷ slots) zero r at distinct = absurd (clash at)
held_emptied (Some q ∷ slots) zero r at distinct =
    let e : q ≡ r = cc in
    let n : q.given.number ≡ r.given.number = ap (λ (x : Rule). x.given.number) e in
    let p = and_parts (not (in_force q.given.number (held slots))) (apart (held slots)) distinct in
    let gone : in_force r.given.number (held slots) ≡ false = ap (λ k. in_force k (held slots)) (sym n) ∙ not-true (in_force q.given.number (held slots)) p.0 in
    sym (cond-false (not (eqb q.given.number r.given.number)) (q.given ∷ withdrawal_list (held slots) r.given.number) (withdrawal_list (held slots) r.given.number)
    (not_from_true (eqb q.given.number r.given.number) (eq-eqb q.given.number r.given.number n))
    ∙ absent (held slots) r.given.number gone)
held_emptied (None ∷ slots) (suc i) r at distinct = held_emptied slots i r at distinct
held_emptied (Some q ∷ slots) (suc i) r at distinct =
    let p = and_parts (not (in_force q.given.number (held slots))) (apart (held slots)) distinct in
    let free = not-true (in_force q.given.number (held slots)) p.0 in
    let there = held_there slots i r at in
    let other : eqb q.given.number r.given.number ≡ false =
    ne_eqb q.given.number r.given.number (λ n. both_ways (in_force r.given.number (held slots)) (ap (λ k. in_force k (held slots)) (sym n) ∙ free) there) in
    ap (λ rest. q.given ∷ rest) (held_emptied slots i r at p.1)
    ∙ sym (cond-true (not (eqb q.given.number r.given.number)) (q.given ∷ withdrawal_list (held slots) r.given.number) (withdrawal_list (held slots) r.given.number) (not_from_false (eqb q.given.number r.given.number) other))

-- the rule of a number leaves, and only that one
pub number_emptied : (slots : List (Option Rule)) (i n : ℕ) → Holds slots i n → apart (held slots) ≡ true → held (set slots i None) ≡ withdrawal_list (held slots) n
number_emptied slots i n h distinct = held_emptied slots i h.rule h.there distinct ∙ ap (withdrawal_list (held slots)) h.named

or_alone : (b : Bool) → (b || false) ≡ true → b ≡ true
or_alone true k = refl
or_alone false k = k

-- where a search for the first element that passes finds none, none passes
none_passes : {X : Type 0} (p : X → Bool) (xs : List X) → None ≡ position p xs → (k : ℕ) (d : X) → k < length xs → p (get_or xs k d) ≡ false
none_passes p xs h k d below = elim (cases_lt (position_or_len p xs) (length xs)) [
  | inl found ↦ absurd (let e = sym (cond-true (ltb (position_or_len p xs) (length xs)) (Some (position_or_len p xs)) None (lt-ltb (position_or_len p xs) (length xs) found)) ∙ sym h in let z : ◌≡◌ {A = ℕ} 0 1 = cc in omega arith)
  | inr past ↦ fails_before_first p xs k d (omega arith)
]

not_in_force : (slots : List (Option Rule)) (n : ℕ) → ((k : ℕ) → k < length slots → numbered n (get_or slots k None) ≡ false) → in_force n (held slots) ≡ false
not_in_force [] n h = refl
not_in_force (None ∷ slots) n h = not_in_force slots n (λ k below. h (suc k) (omega arith))
not_in_force (Some r ∷ slots) n h =
    or_from (eqb r.given.number n) (in_force n (held slots)) (or_parts (eqb r.given.number n) false (h 0 (omega arith))).0 (not_in_force slots n (λ k below. h (suc k) (omega arith)))

no_slot_free : (slots : List (Option Rule)) → ((k : ℕ) → k < length slots → is_free (get_or slots k None) ≡ false) → length (held slots) ≡ length slots
no_slot_free [] h = refl
no_slot_free (None ∷ slots) h = absurd (true≢false (h 0 (omega arith)))
no_slot_free (Some r ∷ slots) h = ap suc (no_slot_free slots (λ k below. h (suc k) (omega arith)))

module _ (slots : List (Option Rule)) where
  -- the slot found holds the number; where none is found, no rule has it
  pub found_number : (n : ℕ) (o : Option ℕ) → o ≡ position (numbered n) slots → MatchOption o (in_force n (held slots) ≡ false) (λ i. Holds slots i n)
  found_number n None h = not_in_force slots n (λ k below. none_passes (numbered n) slots h k None below)
  found_number n (Some i) h = let f = position-Some (numbered n) slots i None (sym h) in go (get_or slots i None) refl f.0 f.1
    where
      go : (x : Option Rule) → get_or slots i None ≡ x → i < length slots → numbered n x ≡ true → Holds slots i n
      go None e below k = absurd (false≢true k)
      go (Some r) e below k = record { within = below; rule = r; there = e; named = eqb-true r.given.number n (or_alone (eqb r.given.number n) k) }

  -- the slot found is free; where none is found, none is
  pub found_free : (o : Option ℕ) → o ≡ position is_free slots → MatchOption o (length (held slots) ≡ length slots) (λ i. Free slots i)
  found_free None h = no_slot_free slots (λ k below. none_passes is_free slots h k None below)
  found_free (Some i) h = let f = position-Some is_free slots i None (sym h) in go (get_or slots i None) refl f.0 f.1
    where
      go : (x : Option Rule) → get_or slots i None ≡ x → i < length slots → is_free x ≡ true → Free slots i
      go None e below k = record { within = below; empty = e }
      go (Some r) e below k = absurd (false≢true k)

-- whether a slot was found says whether the number is in force
pub found_in_force : (slots : List (Option Rule)) (n : ℕ) (o : Option ℕ) → MatchOption o (in_force n (held slots) ≡ false) (λ i. Holds slots i n) → is_some o ≡ in_force n (held slots)
found_in_force slots n None h = sym h
found_in_force slots n (Some i) h = sym (holds_in_force slots i n h)

-- a book's answer to an entry, by its two questions
module _ (fits : List RuleRecord → Bool) (rules : List RuleRecord) (r : RuleRecord) where
  pub place_taken : in_force r.number rules ≡ true → Err InForce ≡ place_answer fits rules r
  place_taken h = ap (λ b. cond (not b) (cond (fits (r ∷ rules)) (Ok tt) (Err Full)) (Err InForce)) (sym h)

  pub place_unfit : in_force r.number rules ≡ false → fits (r ∷ rules) ≡ false → Err Full ≡ place_answer fits rules r
  place_unfit h k = sym (ap (λ b. cond (not b) (cond (fits (r ∷ rules)) (Ok tt) (Err Full)) (Err InForce)) h ∙ ap (λ b. cond b (Ok tt) (Err Full)) k)

  pub place_fit : in_force r.number rules ≡ false → fits (r ∷ rules) ≡ true → Ok tt ≡ place_answer fits rules r
  place_fit h k = sym (ap (λ b. cond (not b) (cond (fits (r ∷ rules)) (Ok tt) (Err Full)) (Err InForce)) h ∙ ap (λ b. cond b (Ok tt) (Err Full)) k)

-- a rule of a new number leaves the numbers apart
pub apart_more : (rules : List RuleRecord) (r : RuleRecord) → in_force r.number rules ≡ false → apart rules ≡ true → apart (r ∷ rules) ≡ true
apart_more rules r free distinct = and_from (not (in_force r.number rules)) (apart rules) (not_from_false (in_force r.number rules) free) distinct

-- rules that pass a test still do when one leaves
pub all_fewer : {X : Type 0} (p q : X → Bool) (xs : List X) → list_all p xs ≡ true → list_all p (filter q xs) ≡ true
all_fewer p q [] h = refl
all_fewer p q (x ∷ xs) h = let b = and_parts (p x) (list_all p xs) h in go (q x) b.0 (all_fewer p q xs b.1)
  where
    go : (b : Bool) → p x ≡ true → list_all p (filter q xs) ≡ true → list_all p (cond b (x ∷ filter q xs) (filter q xs)) ≡ true
    go true now rest = and_from (p x) (list_all p (filter q xs)) now rest
    go false now rest = rest

any_fewer : {X : Type 0} (p q : X → Bool) (xs : List X) → list_any p xs ≡ false → list_any p (filter q xs) ≡ false
any_fewer p q [] h = refl
any_fewer p q (x ∷ xs) h = let b = or_parts (p x) (list_any p xs) h in go (q x) b.0 (any_fewer p q xs b.1)
  where
    go : (b : Bool) → p x ≡ false → list_any p (filter q xs) ≡ false → list_any p (cond b (x ∷ filter q xs) (filter q xs)) ≡ false
    go true now rest = or_from (p x) (list_any p (filter q xs)) now rest
    go false now rest = rest

pub apart_fewer : (q : RuleRecord → Bool) (rules : List RuleRecord) → apart rules ≡ true → apart (filter q rules) ≡ true
apart_fewer q [] h = refl
apart_fewer q (r ∷ rules) h =
    let b = and_parts (not (in_force r.number rules)) (apart rules) h in
    go (q r) (any_fewer (λ x. eqb x.number r.number) q rules (not-true (in_force r.number rules) b.0)) (apart_fewer q rules b.1)
  where
    go : (b : Bool) → in_force r.number (filter q rules) ≡ false → apart (filter q rules) ≡ true → apart (cond b (r ∷ filter q rules) (filter q rules)) ≡ true
    go true free rest = apart_more (filter q rules) r free rest
    go false free rest = rest

-- the views that the slots hold are those that their rules grant
pub granted_held : (slots : List (Option Rule)) → flat_map slot_views slots ≡ granted (held slots)
granted_held [] = refl
granted_held (None ∷ slots) = granted_held slots
granted_held (Some r ∷ slots) = ap (λ vs. r.given.view ∷ vs) (granted_held slots)
