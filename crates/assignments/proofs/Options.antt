-- The options of a join: what an open one gives, and what the first of the cheapest of all of them is.
use Rattle.std.proofs.Common.{◌≡◌, ℕ, ◌<◌, Bool, true, false, ◌&&◌, Some, None, Option, sym, refl, ap, ◌∙◌, subst, ⊎_elim, arith}
use Rattle.std.proofs.lemmas.Bool.{and_parts, and_from}
use Rattle.profile.specs.declared.shape.Profile.{Profile}
use Rattle.profile.specs.declared.join.Join.{Join}
use Rattle.tariff.specs.Pricing.{Pricing, Lawful}
use Rattle.assignments.specs.declared.mode.Mode.{Mode}
use Rattle.assignments.specs.declared.mode.Mode.TheVariants.{Local, LeftMaster, LeftSemi, RightMaster, RightSemi}
use Rattle.assignments.specs.declared.parts.Place.{Place}
use Rattle.assignments.specs.Modes.{mode_number, mode_at, fits, left_at, right_at, releases, allowed}
use Rattle.assignments.specs.Assignments.{own_price}
use Rattle.assignments.specs.Table.{holding, weighed, offer, best_of_mode, best}
use Rattle.assignments.specs.Stands.{Before}
use Rattle.assignments.proofs.Modes.{mode_is, number_below, number_is}
use Rattle.assignments.proofs.Cheapest.{First, not_both, cheapest_like, cheapest_offered, cheapest_empty, cheapest_first, dearer_still}

-- what two operand places give when the option is open
record Weighed {P : Type 0} (c : Pricing P) (b : Bool) (m : Mode) (u : ℕ) (own : P) (x y : Option (Place P)) (p : Place P) : Type 0 where
  pub ready : b ≡ true
  pub left : Place P
  pub right : Place P
  pub at_left : x ≡ Some left
  pub at_right : y ≡ Some right
  pub gives : p ≡ holding (c.sum (c.sum left.price right.price) own) m u

unweigh : {P : Type 0} (c : Pricing P) (b : Bool) (m : Mode) (u : ℕ) (own : P) (x y : Option (Place P)) (p : Place P) → weighed c b m u own x y ≡ Some p → Weighed c b m u own x y p
unweigh c false m u own x y p e = absurd (not_both _ p refl e)
unweigh c true m u own None y p e = absurd (not_both _ p refl e)
unweigh c true m u own (Some x) None p e = absurd (not_both _ p refl e)
unweigh c true m u own (Some x) (Some y) p e = record { ready = refl; left = x; right = y; at_left = refl; at_right = refl; gives = cc }

weigh : {P : Type 0} (c : Pricing P) (b : Bool) (m : Mode) (u : ℕ) (own : P) (v w : Option (Place P)) (x y : Place P)
    → b ≡ true → v ≡ Some x → w ≡ Some y → weighed c b m u own v w ≡ Some (holding (c.sum (c.sum x.price y.price) own) m u)
weigh c b m u own v w x y e f g = rw (e, f, g)

module _ {P : Type 0} (c : Pricing P) (may : ℕ → Profile → Bool) (n : ℕ) (j : Join) (L R : ℕ → Option (Place P)) (s : ℕ) where
  -- an option that is open: what it sends is allowed, and both operand places hold a price
  pub record Offered (m : Mode) (u : ℕ) (p : Place P) : Type 0 where
    pub fit : fits m s u ≡ true
    pub safe : allowed may (releases j m (left_at m s u) (right_at m s u)) ≡ true
    pub left : Place P
    pub right : Place P
    pub at_left : L (left_at m s u) ≡ Some left
    pub at_right : R (right_at m s u) ≡ Some right
    pub gives : p ≡ holding (c.sum (c.sum left.price right.price) (own_price c (releases j m (left_at m s u) (right_at m s u)))) m u

  pub offered : (m : Mode) (u : ℕ) (p : Place P) → offer c may n j L R s m u ≡ Some p → Offered m u p
  offered m u p e =
      let sent = releases j m (left_at m s u) (right_at m s u) in
      let w = unweigh c (fits m s u && allowed may sent) m u (own_price c sent) (L (left_at m s u)) (R (right_at m s u)) p e in
      let b = and_parts (fits m s u) (allowed may sent) w.ready in
      record { fit = b.0; safe = b.1; left = w.left; right = w.right; at_left = w.at_left; at_right = w.at_right; gives = w.gives }

  pub offer_is : (m : Mode) (u : ℕ) (x y : Place P) → fits m s u ≡ true → allowed may (releases j m (left_at m s u) (right_at m s u)) ≡ true
      → L (left_at m s u) ≡ Some x → R (right_at m s u) ≡ Some y
      → offer c may n j L R s m u ≡ Some (holding (c.sum (c.sum x.price y.price) (own_price c (releases j m (left_at m s u) (right_at m s u)))) m u)
  offer_is m u x y fit safe a b =
      let sent = releases j m (left_at m s u) (right_at m s u) in
      weigh c (fits m s u && allowed may sent) m u (own_price c sent) (L (left_at m s u)) (R (right_at m s u)) x y (and_from (fits m s u) (allowed may sent) fit safe) a b

  -- a place tells the option that gave it
  told : (m : Mode) (u : ℕ) (p : Place P) → offer c may n j L R s m u ≡ Some p → (m ≡ p.mode) × (u ≡ p.other)
  told m u p e =
      let g = (offered m u p e).gives in
      (sym (ap (λ (q : Place P). q.mode) g), sym (ap (λ (q : Place P). q.other) g))

  retold : (m k : Mode) (u v : ℕ) (p : Place P) → offer c may n j L R s m u ≡ Some p → m ≡ k → u ≡ v → offer c may n j L R s k v ≡ Some p
  retold m k u v p e a b = subst (λ (k : Mode). offer c may n j L R s k v ≡ Some p) a (subst (λ (v : ℕ). offer c may n j L R s m v ≡ Some p) b e)

  -- the best option is one that is open
  pub best_offered : (p : Place P) → best c may n j L R s ≡ Some p → (p.other < n) × (offer c may n j L R s p.mode p.other ≡ Some p)
  best_offered p e =
      let a = cheapest_offered c.leq (λ p. p.price) (λ m. best_of_mode c may n j L R s (mode_at m)) 5 p e in
      let b = cheapest_offered c.leq (λ p. p.price) (offer c may n j L R s (mode_at a.0)) n p a.2 in
      let t = told (mode_at a.0) b.0 p b.2 in
      (omega arith, retold (mode_at a.0) p.mode b.0 p.other p b.2 t.0 t.1)

  -- p is an open option: none is cheaper, and those before it are dearer
  pub record Best (p : Place P) : Type 0 where
    pub below : p.other < n
    pub open_to : offer c may n j L R s p.mode p.other ≡ Some p
    pub least : (m : Mode) (u : ℕ) (q : Place P) → u < n → offer c may n j L R s m u ≡ Some q → c.leq p.price q.price ≡ true
    pub first : (m : Mode) (u : ℕ) (q : Place P) → u < n → Before m u p.mode p.other → offer c may n j L R s m u ≡ Some q → c.leq q.price p.price ≡ false

  module _ (lawful : Lawful c) where
    -- the best of a mode, by the mode's number
    by_number : (m : Mode) (o : Option (Place P)) → best_of_mode c may n j L R s m ≡ o → best_of_mode c may n j L R s (mode_at (mode_number m)) ≡ o
    by_number m o e = subst (λ (k : Mode). best_of_mode c may n j L R s k ≡ o) (sym (mode_is m)) e

    pub best_none : best c may n j L R s ≡ None → (m : Mode) (u : ℕ) → u < n → offer c may n j L R s m u ≡ None
    best_none e m u h =
        let a = cheapest_empty c.leq (λ p. p.price) lawful.total lawful.transitive (λ m. best_of_mode c may n j L R s (mode_at m)) 5 e (mode_number m) (number_below m) in
        let b : best_of_mode c may n j L R s m ≡ None = subst (λ (k : Mode). best_of_mode c may n j L R s k ≡ None) (mode_is m) a in
        cheapest_empty c.leq (λ p. p.price) lawful.total lawful.transitive (offer c may n j L R s m) n b u h

    -- an open option is no cheaper than its mode's best
    of_mode : (m : Mode) (u : ℕ) (q : Place P) → u < n → offer c may n j L R s m u ≡ Some q
        → (r : Place P) × (best_of_mode c may n j L R s m ≡ Some r) × (c.leq r.price q.price ≡ true)
    of_mode m u q h o = go (best_of_mode c may n j L R s m) refl
      where
        go : (b : Option (Place P)) → best_of_mode c may n j L R s m ≡ b
            → (r : Place P) × (best_of_mode c may n j L R s m ≡ Some r) × (c.leq r.price q.price ≡ true)
        go None e = absurd (not_both (offer c may n j L R s m u) q (cheapest_empty c.leq (λ p. p.price) lawful.total lawful.transitive (offer c may n j L R s m) n e u h) o)
        go (Some r) e = (r, e, (cheapest_first c.leq (λ p. p.price) lawful.total lawful.transitive (offer c may n j L R s m) n r e).least u q h o)

    pub best_some : (p : Place P) → best c may n j L R s ≡ Some p → Best p
    best_some p e =
        let a : First c.leq (λ p. p.price) (λ m. best_of_mode c may n j L R s (mode_at m)) 5 p
        = cheapest_first c.leq (λ p. p.price) lawful.total lawful.transitive (λ m. best_of_mode c may n j L R s (mode_at m)) 5 p e in
        let b : First c.leq (λ p. p.price) (offer c may n j L R s (mode_at a.spot)) n p
        = cheapest_first c.leq (λ p. p.price) lawful.total lawful.transitive (offer c may n j L R s (mode_at a.spot)) n p a.offered in
        let t = told (mode_at a.spot) b.spot p b.offered in
        let number : mode_number p.mode ≡ a.spot = ap mode_number (sym t.0) ∙ number_is a.spot a.below in
        record {
          below = omega arith;
          open_to = retold (mode_at a.spot) p.mode b.spot p.other p b.offered t.0 t.1;
          least = λ m u q h o.
              let r = of_mode m u q h o in
              lawful.transitive p.price r.0.price q.price (a.least (mode_number m) r.0 (number_below m) (by_number m (Some r.0) r.1)) r.2;
          first = λ m u q h earlier o.
              ⊎_elim
              (λ lower.
              let r = of_mode m u q h o in
              dearer_still c.leq lawful.total lawful.transitive r.0.price q.price p.price r.2
              (a.first (mode_number m) r.0 (omega arith) (by_number m (Some r.0) r.1)))
              (λ here. b.first u q (omega arith) (retold m (mode_at a.spot) u u q o (here.0 ∙ sym t.0) refl))
              earlier;
        }

-- ---- only the operands' places at known servers count
pub left_below : (n : ℕ) (m : Mode) (s u : ℕ) → s < n → u < n → left_at m s u < n
left_below n Local s u a b = a
left_below n LeftMaster s u a b = a
left_below n LeftSemi s u a b = a
left_below n RightMaster s u a b = b
left_below n RightSemi s u a b = b

pub right_below : (n : ℕ) (m : Mode) (s u : ℕ) → s < n → u < n → right_at m s u < n
right_below n Local s u a b = b
right_below n LeftMaster s u a b = b
right_below n LeftSemi s u a b = b
right_below n RightMaster s u a b = a
right_below n RightSemi s u a b = a

module _ {P : Type 0} (c : Pricing P) (may : ℕ → Profile → Bool) (n : ℕ) (j : Join) (L R V W : ℕ → Option (Place P))
    (left : (u : ℕ) → u < n → L u ≡ V u) (right : (u : ℕ) → u < n → R u ≡ W u) (s : ℕ) (known : s < n) where
  pub offer_like : (m : Mode) (u : ℕ) → u < n → offer c may n j L R s m u ≡ offer c may n j V W s m u
  offer_like m u h =
      let sent = releases j m (left_at m s u) (right_at m s u) in
      let x : L (left_at m s u) ≡ V (left_at m s u) = left (left_at m s u) (left_below n m s u known h) in
      let y : R (right_at m s u) ≡ W (right_at m s u) = right (right_at m s u) (right_below n m s u known h) in
      ap (λ (o : Option (Place P)). weighed c (fits m s u && allowed may sent) m u (own_price c sent) o (R (right_at m s u))) x
      ∙ ap (weighed c (fits m s u && allowed may sent) m u (own_price c sent) (V (left_at m s u))) y

  pub best_of_mode_like : (m : Mode) → best_of_mode c may n j L R s m ≡ best_of_mode c may n j V W s m
  best_of_mode_like m = cheapest_like c.leq (λ p. p.price) (offer c may n j L R s m) (offer c may n j V W s m) n (offer_like m)

  pub best_like : best c may n j L R s ≡ best c may n j V W s
  best_like = cheapest_like c.leq (λ p. p.price) (λ m. best_of_mode c may n j L R s (mode_at m)) (λ m. best_of_mode c may n j V W s (mode_at m)) 5 (λ m _. best_of_mode_like (mode_at m))
