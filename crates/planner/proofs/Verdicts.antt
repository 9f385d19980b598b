-- What is found for the root says of the query's safe assignments what it should.
use Rattle.std.proofs.Common.{◌≡◌, ℕ, ◌-◌, ◌<◌, ◌≤◌, Bool, true, List, length, take, drop, Some, None, Option, sym, refl, ap, ◌∙◌, subst, arith, Ok, Err}
use Rattle.std.proofs.lemmas.List.{take_at}
use Rattle.chart.specs.Layout.{Layout}
use Rattle.chart.specs.Sound as chart
use Rattle.profile.specs.declared.shape.Profile.{Profile}
use Rattle.tariff.specs.Pricing.{Pricing, Lawful}
use Rattle.queries.specs.declared.node.Node.{Node}
use Rattle.queries.specs.Trees.{has_node}
use Rattle.queries.specs.Flat.{tree_of}
use Rattle.queries.specs.Sound.{Sound}
use Rattle.assignments.specs.declared.parts.Step.{Step}
use Rattle.assignments.specs.declared.parts.Place.{Place}
use Rattle.assignments.specs.declared.parts.Release.{Release}
use Rattle.assignments.specs.Modes.{allowed}
use Rattle.assignments.specs.Assignments.{Steps, Way}
use Rattle.assignments.specs.Cheapest.{cheapest}
use Rattle.assignments.specs.Table.{place, recorded, chosen}
use Rattle.assignments.specs.Stands.{Stands}
use Rattle.assignments.specs.Theorem.{CheapestAt}
use Rattle.assignments.proofs.Alike.{way_like, cost_like}
use Rattle.assignments.proofs.Cheapest.{cheapest_empty, cheapest_offered}
use Rattle.assignments.proofs.Stands.{executor_below, recorded_reaches, stands}
use Rattle.assignments.proofs.Chosen.{chosen_none, chosen_some}
use Rattle.assignments.proofs.Nodes.{tree_below, tree_distinct}
use Rattle.search.specs.declared.root.Seat.{Seat}
use Rattle.search.specs.declared.run.Blocked.{Blocked}
use Rattle.search.specs.Rows.{Filled}
use Rattle.search.specs.Root.{seat, seat_of, empty_row, first_of}
use Rattle.search.specs.Outcomes.{seated_or, outcome_of}
use Rattle.search.proofs.Outcomes.{unseated}
use Rattle.search.proofs.Empty.{all_empty, empty_at, some_at, FirstPasses, first_passes}
use Rattle.planner.specs.Plans.{at_step, plan_after, entailed, releases_after}
use Rattle.planner.specs.Queries.{root, assigned, released}
use Rattle.planner.specs.Judged.{NoneSafe, PlacesStand, BlockedAt, PlannedBy}
use Rattle.planner.proofs.Buffers.{at_plan, entailed_like}
use Rattle.planner.proofs.Listed.{listed_allowed}

seated_is : {P : Type 0} (o : Option (Seat P)) (k : ℕ) (q : Seat P) → seated_or o k ≡ Ok q → o ≡ Some q
seated_is None k q h = let z : ◌≡◌ {A = ℕ} 0 1 = cc in absurd (omega arith)
seated_is (Some x) k q h = cc

blocked_is : {P : Type 0} (o : Option (Seat P)) (k : ℕ) (b : Blocked) → seated_or o k ≡ Err b → (o ≡ None) × (k ≡ b.node)
blocked_is None k b h = let e : record { node = k } ≡ b = cc in (refl, ap (λ (v : Blocked). v.node) e)
blocked_is (Some x) k b h = let z : ◌≡◌ {A = ℕ} 0 1 = cc in absurd (omega arith)

none_stands : {P : Type 0} (l : Layout) (c : Pricing P) (may : ℕ → Profile → Bool) (nodes : List Node) (k s : ℕ) (o : Option (Place P)) → o ≡ None → Stands l c may (tree_of nodes k) s o
    → (e : Steps) → Way l may (tree_of nodes k) s e → ⊥
none_stands l c may nodes k s o e h = subst (λ (x : Option (Place _)). Stands l c may (tree_of nodes k) s x) e h

seat_held : {P : Type 0} (s : ℕ) (o : Option (Place P)) (q : Seat P) → seat_of s o ≡ Some q → (p : Place P) × (o ≡ Some p) × (s ≡ q.server)
seat_held s None q h = let z : ◌≡◌ {A = ℕ} 0 1 = cc in absurd (omega arith)
seat_held s (Some p) q h = let e : seat s p.price ≡ q = cc in (p, refl, ap (λ (v : Seat _). v.server) e)

-- a seat that was found is a place of the root that is not empty
pub seat_place : {P : Type 0} (c : Pricing P) (may : ℕ → Profile → Bool) (l : Layout) (nodes : List Node) (q : Seat P) → outcome_of c may l nodes ≡ Ok q
    → (p : Place P) × (place c may l.servers l (root nodes) q.server ≡ Some p) × (q.server < l.servers)
unfolding outcome_of
seat_place {P = P} c may l nodes q h =
    let f : ℕ → Option (Seat P) = λ s. seat_of s (place c may l.servers l (root nodes) s) in
    let found = cheapest_offered c.leq (λ q. q.price) f l.servers q (seated_is (cheapest c.leq (λ q. q.price) f l.servers) _ q h) in
    let held = seat_held found.0 (place c may l.servers l (root nodes) found.0) q found.2 in
    (held.0, subst (λ (s : ℕ). place c may l.servers l (root nodes) s ≡ Some held.0) held.2 held.1, subst (λ (s : ℕ). s < l.servers) held.2 found.1)

module _ {P : Type 0} (c : Pricing P) (lawful : Lawful c) (may : ℕ → Profile → Bool) (l : Layout) (charted : chart.Sound l) (nodes : List Node) (sound : Sound l nodes) where
  abbrev n : ℕ
  n = l.servers

  abbrev places_of : ℕ → ℕ → Option (Place P)
  places_of k = place c may n l (tree_of nodes k)

  abbrev pick : Option (Seat P)
  pick = chosen c may n seat (λ q. q.price) l (root nodes)

  abbrev lowest : ℕ
  lowest = first_of (λ k. empty_row (places_of k) n) 0 (length nodes)

  last_inside : length nodes - 1 < length nodes
  last_inside = let s = sound.some in omega arith

  pub seated_by : (q : Seat P) → outcome_of c may l nodes ≡ Ok q → pick ≡ Some q
  unfolding outcome_of
  seated_by q h = seated_is pick lowest q h

  pub blocked_by : (b : Blocked) → outcome_of c may l nodes ≡ Err b → (pick ≡ None) × (lowest ≡ b.node)
  unfolding outcome_of
  blocked_by b h = blocked_is pick lowest b h

  pub seated_at : (q : Seat P) → pick ≡ Some q → CheapestAt l c may (root nodes) q.server q.price
  seated_at q h =
      let r = chosen_some l c may lawful charted seat (λ q. q.price) (λ s x. refl) (root nodes) (tree_distinct l nodes sound (length nodes - 1) last_inside) q h in
      subst (λ (s : ℕ). CheapestAt l c may (root nodes) s q.price) (sym (ap (λ (v : Seat P). v.server) r.1)) r.2

  -- every place stands
  pub places_stand : (old new : List (Option (Place P))) → Filled c may l nodes (length nodes) old new → PlacesStand c may l nodes new
  places_stand old new filled k s h b =
      subst (λ (o : Option (Place P)). Stands l c may (tree_of nodes k) s o) (sym (filled.rows k s h b)) (stands l c may lawful charted (tree_of nodes k) (tree_distinct l nodes sound k h) s)

  module _ (none : pick ≡ None) where
    root_empty : empty_row (places_of (length nodes - 1)) n ≡ true
    root_empty =
        all_empty (places_of (length nodes - 1)) n
        (λ s b. unseated s (places_of (length nodes - 1) s) (cheapest_empty c.leq (λ q. q.price) lawful.total lawful.transitive (λ s. seat_of s (places_of (length nodes - 1) s)) n none s b))

    lowest_first : FirstPasses (λ k. empty_row (places_of k) n) 0 (length nodes) lowest
    lowest_first = let i = last_inside in first_passes (λ k. empty_row (places_of k) n) (length nodes) 0 (length nodes - 1) (omega arith) (omega arith) root_empty

    -- a node whose row is empty has no safe assignment
    row_none_safe : (k : ℕ) → k < length nodes → empty_row (places_of k) n ≡ true → NoneSafe c may l nodes k
    row_none_safe k h e steps s w =
        let below : s < n = subst (λ (i : ℕ). i < n) w.at (executor_below l charted steps (tree_of nodes k) w.obeys) in
        none_stands l c may nodes k s (places_of k s) (empty_at (places_of k) n e s below) (stands l c may lawful charted (tree_of nodes k) (tree_distinct l nodes sound k h) s) steps w

    pub blocked_at : (old new : List (Option (Place P))) → Filled c may l nodes (length nodes) old new → BlockedAt c may l nodes new lowest
    blocked_at old new filled =
        let f = lowest_first in
        let inside : lowest < length nodes = omega (arith, f.below) in
        record {
          places = places_stand old new filled;
          none = chosen_none l c may lawful charted seat (λ q. q.price) (λ s x. refl) (root nodes) (tree_distinct l nodes sound (length nodes - 1) last_inside) none;
          inside = inside;
          blocked = row_none_safe lowest inside f.passes;
          others = λ j lt.
              let r = some_at (places_of j) n (f.others j (omega arith) lt) in
              (recorded c may n l (tree_of nodes j) r.0, (r.0, (recorded_reaches l c may (tree_of nodes j) (tree_distinct l nodes sound j (omega arith)) r.0 r.2.0 r.2.1).way));
        }

  module _ (q : Seat P) (found : pick ≡ Some q) (old new : List (Option (Place P))) (filled : Filled c may l nodes (length nodes) old new) (plan : List Step) (long : length nodes ≤ length plan) (releases : List Release) where
    abbrev written : Steps
    written = at_step (plan_after (assigned c may l nodes q.server) (length nodes) plan)

    same_steps : (k : ℕ) → k < length nodes → assigned c may l nodes q.server k ≡ written k
    same_steps k h = sym (at_plan (assigned c may l nodes q.server) (length nodes) plan k long h)

    same_in_tree : (k : ℕ) → has_node (root nodes) k ≡ true → assigned c may l nodes q.server k ≡ written k
    same_in_tree k h = let i = last_inside in let b = tree_below l nodes sound (length nodes - 1) k last_inside h in same_steps k (omega arith)

    same_list : released c may l nodes q.server ≡ entailed l nodes written (length nodes)
    same_list = entailed_like l nodes (assigned c may l nodes q.server) written sound.earlier same_steps (length nodes) (omega arith)

    front : take (length (released c may l nodes q.server)) (releases_after (released c may l nodes q.server) releases) ≡ released c may l nodes q.server
    front = take_at (released c may l nodes q.server) (drop (length (released c may l nodes q.server)) releases) (length (released c may l nodes q.server)) refl

    safe_way : Way l may (root nodes) q.server written
    safe_way = way_like (assigned c may l nodes q.server) written l may (root nodes) q.server same_in_tree (seated_at q found).reached.way

    pub planned_by : PlannedBy c may l nodes new (plan_after (assigned c may l nodes q.server) (length nodes) plan) (releases_after (released c may l nodes q.server) releases)
        (record { executor = q.server; price = q.price; releases = length (released c may l nodes q.server) })
    planned_by =
        let best = seated_at q found in
        record {
          places = places_stand old new filled;
          way = safe_way;
          priced = sym (cost_like (assigned c may l nodes q.server) written l c (root nodes) same_in_tree) ∙ best.reached.costs ∙ best.priced;
          least = best.least;
          first = best.first;
          listed = front ∙ same_list;
          let_through = ap (allowed may) (front ∙ same_list) ∙ listed_allowed l may written nodes sound safe_way.safe;
        }
