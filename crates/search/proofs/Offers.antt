-- One option after another.
use Rattle.std.proofs.Common.{◌≡◌, ℕ, zero, suc, Bool, true, false, ◌&&◌, List, Some, None, Option, refl, sym, ap, ◌∙◌, ap₂}
use Rattle.profile.specs.declared.shape.Profile.{Profile}
use Rattle.profile.specs.declared.join.Join.{Join}
use Rattle.tariff.specs.Pricing.{Pricing}
use Rattle.assignments.specs.declared.mode.Mode.{Mode}
use Rattle.assignments.specs.declared.parts.Place.{Place}
use Rattle.assignments.specs.declared.parts.Release.{Release}
use Rattle.assignments.specs.Modes.{fits, left_at, right_at, releases, allowed}
use Rattle.assignments.specs.Assignments.{own_price}
use Rattle.assignments.specs.Cheapest.{better, cheapest}
use Rattle.assignments.specs.Table.{holding, weighed, offer, best_of_mode}

module _ {P : Type 0} (c : Pricing P) (open_to : Bool) (m : Mode) (u : ℕ) (own : P) where
  pub weighed_shut : (x y : Option (Place P)) → open_to ≡ false → weighed c open_to m u own x y ≡ None
  weighed_shut x y h = rw h

  pub weighed_open : (x y : Place P) → open_to ≡ true → weighed c open_to m u own (Some x) (Some y) ≡ Some (holding (c.sum (c.sum x.price y.price) own) m u)
  weighed_open x y h = rw h

  pub weighed_no_left : (x y : Option (Place P)) → x ≡ None → weighed c open_to m u own x y ≡ None
  weighed_no_left x y h = ap (λ (z : Option (Place P)). weighed c open_to m u own z y) h ∙ shut open_to
    where
      shut : (b : Bool) → weighed c b m u own None y ≡ None
      shut false = refl
      shut true = refl

  pub weighed_no_right : (x y : Option (Place P)) → y ≡ None → weighed c open_to m u own x y ≡ None
  weighed_no_right x y h = ap (λ (z : Option (Place P)). weighed c open_to m u own x z) h ∙ shut open_to x
    where
      shut : (b : Bool) (z : Option (Place P)) → weighed c b m u own z None ≡ None
      shut false z = refl
      shut true None = refl
      shut true (Some z) = refl

-- the option of a mode at the server i
module _ {P : Type 0} (c : Pricing P) (may : ℕ → Profile → Bool) (n : ℕ) (j : Join) (L R : ℕ → Option (Place P)) (s : ℕ) (m : Mode) (i : ℕ) where
  abbrev sent : List Release
  sent = releases j m (left_at m s i) (right_at m s i)

  abbrev ready : Bool
  ready = fits m s i && allowed may sent

  pub both_there : (u v : ℕ) (o q : Option (Place P)) (x y : Place P) (w : Option (Place P))
      → u ≡ left_at m s i → o ≡ L u → o ≡ Some x → v ≡ right_at m s i → q ≡ R v → q ≡ Some y
      → w ≡ weighed c ready m i (own_price c sent) (Some x) (Some y) → w ≡ offer c may n j L R s m i
  both_there u v o q x y w lu eo ox rv eq qy ew =
      let left : L (left_at m s i) ≡ Some x = sym (eo ∙ ap L lu) ∙ ox in
      let right : R (right_at m s i) ≡ Some y = sym (eq ∙ ap R rv) ∙ qy in
      ew ∙ sym (ap₂ (weighed c ready m i (own_price c sent)) left right)

-- of offers that are all empty none is the cheapest
none_cheapest : {X P : Type 0} (leq : P → P → Bool) (key : X → P) (f : ℕ → Option X) (n : ℕ) → ((i : ℕ) → f i ≡ None) → cheapest leq key f n ≡ None
unfolding cheapest
none_cheapest leq key f zero h = refl
none_cheapest leq key f (suc n) h = ap₂ (better leq key) (none_cheapest leq key f n h) (h n)

-- where an operand that lies at the master has no place there, no option of the mode has
module _ {P : Type 0} (c : Pricing P) (may : ℕ → Profile → Bool) (n : ℕ) (j : Join) (L R : ℕ → Option (Place P)) (s : ℕ) (m : Mode) where
  abbrev ready_at : ℕ → Bool
  ready_at i = fits m s i && allowed may (releases j m (left_at m s i) (right_at m s i))

  abbrev price_at : ℕ → P
  price_at i = own_price c (releases j m (left_at m s i) (right_at m s i))

  pub none_left : ((t u : ℕ) → left_at m t u ≡ t) → L s ≡ None → best_of_mode c may n j L R s m ≡ None
  none_left at h =
      none_cheapest c.leq (λ p. p.price) (offer c may n j L R s m) n
      (λ i. weighed_no_left c (ready_at i) m i (price_at i) (L (left_at m s i)) (R (right_at m s i)) (ap L (at s i) ∙ h))

  pub none_right : ((t u : ℕ) → right_at m t u ≡ t) → R s ≡ None → best_of_mode c may n j L R s m ≡ None
  none_right at h =
      none_cheapest c.leq (λ p. p.price) (offer c may n j L R s m) n
      (λ i. weighed_no_right c (ready_at i) m i (price_at i) (L (left_at m s i)) (R (right_at m s i)) (ap R (at s i) ∙ h))
