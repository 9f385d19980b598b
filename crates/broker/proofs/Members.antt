-- Rules among lists, and lists with the same rules.
use Rattle.std.proofs.Common.{◌≡◌, Bool, true, false, cond, not, eqb, ◌⊎◌, List, [], ◌∷◌, filter, sym, refl, ap, ◌∙◌, subst, inl, inr, ⊎_elim}
use Rattle.std.specs.List.{list_any}
use Rattle.std.proofs.lemmas.Bool.{and_parts, or_cases, or_left, or_right, eq-eqb, not-true, both_ways, false≢true}
use Rattle.rules.specs.declared.view.RuleRecord.{RuleRecord}
use Rattle.policy.specs.Same.{Same, done, keep, swap, chain}
use Rattle.policy.specs.Books.{in_force, apart}
use Rattle.policy.proofs.Orders.{same_refl, same_sym, same_apart}
use Rattle.broker.specs.Histories.{Among}

pub among_same : {xs ys : List RuleRecord} → Same xs ys → (r : RuleRecord) → Among r xs → Among r ys
among_same done r h = h
among_same (keep x s) r (inl e) = inl e
among_same (keep x s) r (inr h) = inr (among_same s r h)
among_same (swap x y xs) r (inl e) = inr (inl e)
among_same (swap x y xs) r (inr (inl e)) = inl e
among_same (swap x y xs) r (inr (inr h)) = inr (inr h)
among_same (chain s t) r h = among_same t r (among_same s r h)

-- a test that some rule of the list passes, and one that none does
pub among_any : (p : RuleRecord → Bool) (xs : List RuleRecord) (r : RuleRecord) → Among r xs → p r ≡ true → list_any p xs ≡ true
among_any p [] r h e = absurd h
among_any p (x ∷ xs) r (inl z) e = or_left (p x) (list_any p xs) (sym (ap p z) ∙ e)
among_any p (x ∷ xs) r (inr h) e = or_right (p x) (list_any p xs) (among_any p xs r h e)

pub any_among : (p : RuleRecord → Bool) (xs : List RuleRecord) → list_any p xs ≡ true → (r : RuleRecord) × Among r xs × (p r ≡ true)
any_among p [] h = absurd (false≢true h)
any_among p (x ∷ xs) h = go (any_among p xs) (or_cases (p x) (list_any p xs) h)
  where
    go : (list_any p xs ≡ true → (r : RuleRecord) × Among r xs × (p r ≡ true)) → (p x ≡ true) ⊎ (list_any p xs ≡ true) → (r : RuleRecord) × Among r (x ∷ xs) × (p r ≡ true)
    go rest (inl e) = (x, inl refl, e)
    go rest (inr e) = let f = rest e in (f.0, inr f.1, f.2)

-- a rule that is kept is one of the list and passes the test
pub kept_among : (p : RuleRecord → Bool) (xs : List RuleRecord) (r : RuleRecord) → Among r (filter p xs) → Among r xs × (p r ≡ true)
kept_among p [] r h = absurd h
kept_among p (x ∷ xs) r h = go (p x) refl h (kept_among p xs r)
  where
    go : (b : Bool) → p x ≡ b → Among r (cond b (x ∷ filter p xs) (filter p xs)) → (Among r (filter p xs) → Among r xs × (p r ≡ true)) → Among r (x ∷ xs) × (p r ≡ true)
    go true e (inl z) rest = (inl z, ap p z ∙ e)
    go true e (inr k) rest = let f = rest k in (inr f.0, f.1)
    go false e k rest = let f = rest k in (inr f.0, f.1)

pub among_kept : (p : RuleRecord → Bool) (xs : List RuleRecord) (r : RuleRecord) → Among r xs → p r ≡ true → Among r (filter p xs)
among_kept p [] r h e = absurd h
among_kept p (x ∷ xs) r h e = go (p x) refl h (λ k. among_kept p xs r k e)
  where
    go : (b : Bool) → p x ≡ b → Among r (x ∷ xs) → (Among r xs → Among r (filter p xs)) → Among r (cond b (x ∷ filter p xs) (filter p xs))
    go true q (inl z) rest = inl z
    go true q (inr k) rest = inr (rest k)
    go false q (inl z) rest = absurd (both_ways (p x) q (sym (ap p z) ∙ e))
    go false q (inr k) rest = rest k

pub number_among : (xs : List RuleRecord) (r : RuleRecord) → Among r xs → in_force r.number xs ≡ true
number_among xs r h = among_any (λ q. eqb q.number r.number) xs r h (eq-eqb r.number r.number refl)

-- ---- lists of distinct numbers with the same members are the same up to order

-- a list with one of its rules taken to the front
record ApartFrom (r : RuleRecord) (ys : List RuleRecord) : Type 0 where
  rest : List RuleRecord
  front : Same ys (r ∷ rest)
  back : (q : RuleRecord) → Among q rest → Among q ys
  split : (q : RuleRecord) → Among q ys → (q ≡ r) ⊎ Among q rest

taken_out : (r : RuleRecord) (ys : List RuleRecord) → Among r ys → ApartFrom r ys
taken_out r [] h = absurd h
taken_out r (y ∷ ys) (inl e) = record {
  rest = ys;
  front = subst (λ (x : RuleRecord). Same (y ∷ ys) (x ∷ ys)) (sym e) (same_refl (y ∷ ys));
  back = λ q k. inr k;
  split = λ q k. ⊎_elim (λ z. inl (z ∙ sym e)) inr k;
}
taken_out r (y ∷ ys) (inr h) =
    let t = taken_out r ys h in
    record {
      rest = y ∷ t.rest;
      front = chain (keep y t.front) (swap y r t.rest);
      back = λ q k. ⊎_elim inl (λ z. inr (t.back q z)) k;
      split = λ q k. ⊎_elim (λ z. inr (inl z)) (λ z. ⊎_elim inl (λ w. inr (inr w)) (t.split q z)) k;
    }

apart_front : (r : RuleRecord) (xs : List RuleRecord) → apart (r ∷ xs) ≡ true → (in_force r.number xs ≡ false) × (apart xs ≡ true)
apart_front r xs h = let b = and_parts (not (in_force r.number xs)) (apart xs) h in (not-true (in_force r.number xs) b.0, b.1)

not_again : (r q : RuleRecord) (xs : List RuleRecord) → in_force r.number xs ≡ false → Among q xs → q ≡ r → ⊥
not_again r q xs h k e = both_ways (in_force r.number xs) h (sym (ap (λ (v : RuleRecord). in_force v.number xs) e) ∙ number_among xs q k)

pub same_from_members : (xs ys : List RuleRecord) → apart xs ≡ true → apart ys ≡ true → ((r : RuleRecord) → Among r xs → Among r ys) → ((r : RuleRecord) → Among r ys → Among r xs) → Same xs ys
same_from_members [] [] a b to from = done
same_from_members [] (y ∷ ys) a b to from = absurd (from y (inl refl))
same_from_members (x ∷ xs) ys a b to from =
    let t = taken_out x ys (to x (inl refl)) in
    let ax = apart_front x xs a in
    let ay = apart_front x t.rest (sym (same_apart t.front) ∙ b) in
    chain
    (keep x (same_from_members xs t.rest ax.1 ay.1
    (λ r h. ⊎_elim (λ e. absurd (not_again x r xs ax.0 h e)) (λ k. k) (t.split r (to r (inr h))))
    (λ r h. ⊎_elim (λ e. absurd (not_again x r t.rest ay.0 h e)) (λ k. k) (from r (t.back r h)))))
    (same_sym t.front)
