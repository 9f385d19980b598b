-- The executor chosen for a whole tree.
use Rattle.std.proofs.Common.{◌≡◌, ℕ, ◌<◌, Bool, true, false, Some, None, Option, sym, refl, ap, ◌∙◌, subst, arith}
use Rattle.chart.specs.Layout.{Layout}
use Rattle.chart.specs.Sound.{Sound}
use Rattle.profile.specs.declared.shape.Profile.{Profile}
use Rattle.tariff.specs.Pricing.{Pricing, Lawful}
use Rattle.queries.specs.Trees.{Tree}
use Rattle.assignments.specs.declared.parts.Place.{Place}
use Rattle.assignments.specs.Assignments.{Steps, cost, Way}
use Rattle.assignments.specs.Table.{place, seated, chosen}
use Rattle.assignments.specs.Stands.{Distinct}
use Rattle.assignments.specs.Theorem.{CheapestAt, Chosen}
use Rattle.assignments.proofs.Cheapest.{not_both, dearer_still, cheapest_empty, cheapest_first}
use Rattle.assignments.proofs.Stands.{executor_below, floor, recorded_reaches}

unseated : {P X : Type 0} (seat : ℕ → P → X) (s : ℕ) (o : Option (Place P)) (r : X) → seated seat s o ≡ Some r → (p : Place P) × (o ≡ Some p) × (r ≡ seat s p.price)
unseated seat s None r e = absurd (not_both _ r refl e)
unseated seat s (Some p) r e = (p, refl, cc)

module _ {P : Type 0} (l : Layout) (c : Pricing P) (may : ℕ → Profile → Bool) (lawful : Lawful c) (sound : Sound l) where
  -- a safe assignment's executor has a seat, at a price at most what it costs
  seat_under : (t : Tree) (e : Steps) (u : ℕ) → Way l may t u e → (u < l.servers) × ((q : Place P) × (place c may l.servers l t u ≡ Some q) × (c.leq q.price (cost l c e t) ≡ true))
  seat_under t e u w =
      let f = floor l c may lawful sound e t w.obeys w.safe in
      (omega (arith, w.at, executor_below l sound e t w.obeys), (f.0, ap (place c may l.servers l t) (sym w.at) ∙ f.1, f.2))

  module _ {X : Type 0} (seat : ℕ → P → X) (key : X → P) (keyed : (s : ℕ) (x : P) → key (seat s x) ≡ x) (t : Tree) (d : Distinct t) where
    abbrev bid : ℕ → Option X
    bid s = seated seat s (place c may l.servers l t s)

    pub chosen_none : chosen c may l.servers seat key l t ≡ None → (e : Steps) (s : ℕ) → Way l may t s e → ⊥
    chosen_none none e s w =
        let u = seat_under t e s w in
        not_both (bid s) (seat s u.1.0.price) (cheapest_empty c.leq key lawful.total lawful.transitive bid l.servers none s u.0) (ap (seated seat s) u.1.1)

    pub chosen_some : (r : X) → chosen c may l.servers seat key l t ≡ Some r → (s : ℕ) × (r ≡ seat s (key r)) × CheapestAt l c may t s (key r)
    chosen_some r held =
        let g = cheapest_first c.leq key lawful.total lawful.transitive bid l.servers r held in
        let s = g.spot in
        let p = unseated seat s (place c may l.servers l t s) r g.offered in
        let price : p.0.price ≡ key r = sym (ap key p.2 ∙ keyed s p.0.price) in (
          s,
          p.2 ∙ ap (seat s) price,
          record {
            below = g.below;
            seat = p.0;
            seated = p.1;
            priced = price;
            reached = recorded_reaches l c may t d s p.0 p.1;
            least = λ e u w.
                let v = seat_under t e u w in
                let q = v.1.0 in
                let under = g.least u (seat u q.price) v.0 (ap (seated seat u) v.1.1) in
                lawful.transitive (key r) q.price (cost l c e t) (subst (λ (x : P). c.leq (key r) x ≡ true) (keyed u q.price) under) v.1.2;
            first = λ e u w before.
                let v = seat_under t e u w in
                let q = v.1.0 in
                let over = g.first u (seat u q.price) before (ap (seated seat u) v.1.1) in
                dearer_still c.leq lawful.total lawful.transitive q.price (cost l c e t) (key r) v.1.2 (subst (λ (x : P). c.leq x (key r) ≡ false) (keyed u q.price) over);
          },
        )

    pub chosen_stands : Chosen l c may seat key t (chosen c may l.servers seat key l t)
    chosen_stands = go (chosen c may l.servers seat key l t) refl
      where
        go : (o : Option X) → chosen c may l.servers seat key l t ≡ o → Chosen l c may seat key t o
        go None e = chosen_none e
        go (Some r) e = chosen_some r e
