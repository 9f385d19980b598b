-- Each place of the table is empty or holds the least price of its tree's safe assignments.
use Rattle.std.proofs.Common.{◌≡◌, ℕ, zero, suc, ◌<◌, Bool, true, false, List, [], ◌∷◌, Some, None, Option, sym, refl, ap, ◌∙◌, subst, arith}
use Rattle.std.specs.List.{AllByRecursion, slice_get}
use Rattle.std.proofs.lemmas.Bool.{eq-eqb, cond-true}
use Rattle.chart.specs.Layout.{Layout}
use Rattle.chart.specs.Lookup.{server_of}
use Rattle.chart.specs.Sound.{Sound}
use Rattle.profile.specs.declared.shape.Profile.{Profile}
use Rattle.tariff.specs.Pricing.{Pricing, Lawful}
use Rattle.queries.specs.Trees.{Tree, leaf, projection, filtering, join, top, pair_of}
use Rattle.assignments.specs.declared.mode.Mode.{Mode}
use Rattle.assignments.specs.declared.mode.Mode.TheVariants.{Local, LeftMaster, LeftSemi, RightMaster, RightSemi}
use Rattle.assignments.specs.declared.parts.Place.{Place}
use Rattle.assignments.specs.Modes.{Joins, other_of, left_at, right_at, releases, allowed}
use Rattle.assignments.specs.Assignments.{Steps, executor, Obeys, Safe, own_price, cost, other, Way}
use Rattle.assignments.specs.Table.{holding, same_server, kept, offer, place, recorded}
use Rattle.assignments.specs.Stands.{Distinct, Before, Stands}
use Rattle.assignments.specs.Theorem.{Reaches}
use Rattle.assignments.proofs.Modes.{joins_fits, joins_left, joins_right}
use Rattle.assignments.proofs.Cheapest.{not_both, same_some, level, dearer_still}
use Rattle.assignments.proofs.Options.{offer_is, best_none, best_some}
use Rattle.assignments.proofs.Follows.{uncond, unkept, recorded_executor, follows_recorded, follows_way}

-- ---- assignments stay within the servers
homed_at : (n : ℕ) (xs : List ℕ) → AllByRecursion (λ s. s < n) xs → (r s : ℕ) → slice_get xs r ≡ Some s → s < n
homed_at n [] h r s e = absurd (not_both _ s refl e)
homed_at n (x ∷ xs) h zero s e = let z : x ≡ s = cc in omega arith
homed_at n (x ∷ xs) h (suc r) s e = homed_at n xs h.1 r s e

joins_below : (n : ℕ) (m : Mode) (s x y : ℕ) → Joins m s x y → x < n → y < n → s < n
joins_below n Local s x y h a b = omega arith
joins_below n LeftMaster s x y h a b = omega (arith, h.0)
joins_below n LeftSemi s x y h a b = omega (arith, h.0)
joins_below n RightMaster s x y h a b = omega (arith, h.0)
joins_below n RightSemi s x y h a b = omega (arith, h.0)

other_below : (n : ℕ) (m : Mode) (x y : ℕ) → x < n → y < n → other_of m x y < n
other_below n Local x y a b = b
other_below n LeftMaster x y a b = b
other_below n LeftSemi x y a b = b
other_below n RightMaster x y a b = a
other_below n RightSemi x y a b = a

pub executor_below : (l : Layout) → Sound l → (e : Steps) (t : Tree) → Obeys l e t → executor e t < l.servers
executor_below l sound e (leaf i r) h = homed_at l.servers l.homes sound.homed r (e i).executor h.0
executor_below l sound e (projection i s t) h = let r = executor_below l sound e t h.2 in omega (arith, h.0)
executor_below l sound e (filtering i s t) h = let r = executor_below l sound e t h.2 in omega (arith, h.0)
executor_below l sound e (join i k a b) h =
    joins_below l.servers (e i).mode (e i).executor (executor e a) (executor e b) h.0 (executor_below l sound e a h.1) (executor_below l sound e b h.2)

-- off joins no option comes before another
no_earlier : (m k : Mode) (u v : ℕ) → m ≡ Local → k ≡ Local → u ≡ v → Before m u k v → ⊥
no_earlier m k u v a b d h = absurd (let z : Before Local v Local v = rw a at (rw b at (rw d at h)) in omega arith)

module _ {P : Type 0} (l : Layout) (c : Pricing P) (may : ℕ → Profile → Bool) where
  abbrev at : Tree → ℕ → Option (Place P)
  at t s = place c may l.servers l t s

  -- the recorded assignment reaches its place
  pub recorded_reaches : (t : Tree) → Distinct t → (s : ℕ) (p : Place P) → place c may l.servers l t s ≡ Some p → Reaches l c may t s p (recorded c may l.servers l t s)
  recorded_reaches t d s p e =
      let f = recorded c may l.servers l t s in
      let z = recorded_executor l c may t s in
      let r = follows_way l c may f t p (ap (at t) z ∙ e) (follows_recorded l c may t d s p e) in
      subst (λ (u : ℕ). Reaches l c may t u p f) z r

  module _ (lawful : Lawful c) (sound : Sound l) where
    -- the place at an assignment's executor holds a price, at most what it costs
    abbrev Floor : Steps → Tree → Type 0
    Floor e t = (p : Place P) × (at t (executor e t) ≡ Some p) × (c.leq p.price (cost l c e t) ≡ true)

    monotone : (x y v w o : P) → c.leq x v ≡ true → c.leq y w ≡ true → c.leq (c.sum (c.sum x y) o) (c.sum (c.sum v w) o) ≡ true
    monotone x y v w o h k =
        lawful.left (c.sum x y) (c.sum v w) o (lawful.transitive (c.sum x y) (c.sum v y) (c.sum v w) (lawful.left x v y h) (lawful.right y w v k))

    -- a join's option under an assignment is open, at a price at most what it costs
    module _ (e : Steps) (i k : ℕ) (a b : Tree) where
      abbrev Open : Type 0
      Open = (q : Place P) × (other e (join i k a b) < l.servers)
          × (offer c may l.servers (pair_of l k a b) (at a) (at b) (e i).executor (e i).mode (other e (join i k a b)) ≡ Some q)
          × (c.leq q.price (cost l c e (join i k a b)) ≡ true)

      opened : Obeys l e (join i k a b) → Safe l may e (join i k a b) → Floor e a → Floor e b → Open
      opened h safe fa fb =
          let j = pair_of l k a b in
          let m = (e i).mode in
          let s = (e i).executor in
          let x = executor e a in
          let y = executor e b in
          let u = other_of m x y in
          let xs : left_at m s u ≡ x = joins_left m s x y h.0 in
          let ys : right_at m s u ≡ y = joins_right m s x y h.0 in
          let sent : releases j m (left_at m s u) (right_at m s u) ≡ releases j m x y = cc in
          let o = offer_is c may l.servers j (at a) (at b) s m u fa.0 fb.0 (joins_fits m s x y h.0) (ap (allowed may) sent ∙ safe.2) (ap (at a) xs ∙ fa.1) (ap (at b) ys ∙ fb.1) in
          let under : c.leq (c.sum (c.sum fa.0.price fb.0.price) (own_price c (releases j m x y))) (cost l c e (join i k a b)) ≡ true
          = monotone fa.0.price fb.0.price (cost l c e a) (cost l c e b) (own_price c (releases j m x y)) fa.2 fb.2 in (
            holding (c.sum (c.sum fa.0.price fb.0.price) (own_price c (releases j m (left_at m s u) (right_at m s u)))) m u,
            other_below l.servers m x y (executor_below l sound e a h.1) (executor_below l sound e b h.2),
            o,
            ap (λ (r : P). c.leq (c.sum (c.sum fa.0.price fb.0.price) r) (cost l c e (join i k a b))) (ap (own_price c) sent) ∙ under,
          )

      join_floor : Open → Floor e (join i k a b)
      join_floor w = go (at (join i k a b) (e i).executor) refl
        where
          go : (o : Option (Place P)) → at (join i k a b) (e i).executor ≡ o → Floor e (join i k a b)
          go None none =
              absurd (not_both (offer c may l.servers (pair_of l k a b) (at a) (at b) (e i).executor (e i).mode (other e (join i k a b))) w.0
              (best_none c may l.servers (pair_of l k a b) (at a) (at b) (e i).executor lawful none (e i).mode (other e (join i k a b)) w.1) w.2)
          go (Some p) held =
              let g = best_some c may l.servers (pair_of l k a b) (at a) (at b) (e i).executor lawful p held in
              (p, held, lawful.transitive p.price w.0.price (cost l c e (join i k a b)) (g.least (e i).mode (other e (join i k a b)) w.0 w.1 w.2) w.3)

    over_floor : (e : Steps) (i : ℕ) (t : Tree) → (e i).executor ≡ executor e t → Floor e t
        → (p : Place P) × (kept (e i).executor (at t (e i).executor) ≡ Some p) × (c.leq p.price (cost l c e t) ≡ true)
    over_floor e i t z f = (holding f.0.price Local (e i).executor, ap (kept (e i).executor) (ap (at t) z ∙ f.1), f.2)

    pub floor : (e : Steps) (t : Tree) → Obeys l e t → Safe l may e t → Floor e t
    floor e (leaf i r) h safe =
        let s = (e i).executor in
        let z : same_server (server_of l r) s ≡ true = ap (λ (o : Option ℕ). same_server o s) h.0 ∙ eq-eqb s s refl in
        (holding c.free Local s, cond-true (same_server (server_of l r) s) (Some (holding c.free Local s)) None z, level c.leq lawful.total lawful.transitive c.free)
    floor e (projection i s t) h safe = over_floor e i t h.0 (floor e t h.2 safe)
    floor e (filtering i s t) h safe = over_floor e i t h.0 (floor e t h.2 safe)
    floor e (join i k a b) h safe = join_floor e i k a b (opened e i k a b h safe (floor e a h.1 safe.0) (floor e b h.2 safe.1))

    -- the price of a place is at most what any safe assignment with that executor costs
    at_least : (t : Tree) (s : ℕ) (p : Place P) → at t s ≡ Some p → (e : Steps) → Way l may t s e → c.leq p.price (cost l c e t) ≡ true
    at_least t s p held e w =
        let f = floor e t w.obeys w.safe in
        let z : f.0 ≡ p = same_some (at t s) f.0 p (ap (at t) (sym w.at) ∙ f.1) held in
        subst (λ (q : Place P). c.leq q.price (cost l c e t) ≡ true) z f.2

    -- and those whose option at the root comes earlier are dearer
    earlier_dearer : (t : Tree) (s : ℕ) (p : Place P) → at t s ≡ Some p → (e : Steps) → Way l may t s e
        → Before (e (top t)).mode (other e t) p.mode p.other → c.leq (cost l c e t) p.price ≡ false
    earlier_dearer (leaf i r) s p held e w b =
        let u = (uncond (same_server (server_of l r) s) (holding c.free Local s) p held).1 in
        absurd (no_earlier (e i).mode p.mode (e i).executor p.other w.obeys.1 (ap (λ (z : Place P). z.mode) u) (w.at ∙ sym (ap (λ (z : Place P). z.other) u)) b)
    earlier_dearer (projection i a t) s p held e w b =
        let u = (unkept s (at t s) p held).2 in
        absurd (no_earlier (e i).mode p.mode (e i).executor p.other w.obeys.1 (ap (λ (z : Place P). z.mode) u) (w.at ∙ sym (ap (λ (z : Place P). z.other) u)) b)
    earlier_dearer (filtering i a t) s p held e w b =
        let u = (unkept s (at t s) p held).2 in
        absurd (no_earlier (e i).mode p.mode (e i).executor p.other w.obeys.1 (ap (λ (z : Place P). z.mode) u) (w.at ∙ sym (ap (λ (z : Place P). z.other) u)) b)
    earlier_dearer (join i k a b) s p held e w before =
        let h = w.obeys in
        let o = opened e i k a b h w.safe (floor e a h.1 w.safe.0) (floor e b h.2 w.safe.1) in
        let g = best_some c may l.servers (pair_of l k a b) (at a) (at b) (e i).executor lawful p (ap (at (join i k a b)) w.at ∙ held) in
        dearer_still c.leq lawful.total lawful.transitive o.0.price (cost l c e (join i k a b)) p.price o.3
        (g.first (e i).mode (other e (join i k a b)) o.0 o.1 before o.2)

    pub stands : (t : Tree) → Distinct t → (s : ℕ) → Stands l c may t s (place c may l.servers l t s)
    stands t d s = go (at t s) refl
      where
        go : (o : Option (Place P)) → at t s ≡ o → Stands l c may t s o
        go None none = λ e w. let f = floor e t w.obeys w.safe in not_both (at t s) f.0 none (ap (at t) (sym w.at) ∙ f.1)
        go (Some p) held =
            let r = recorded_reaches t d s p held in
            record { reached = (recorded c may l.servers l t s, r.way, r.costs, r.by_mode, r.by_other); least = at_least t s p held; first = earlier_dearer t s p held }
