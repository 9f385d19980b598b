-- What a filled table says of the root.
use Rattle.std.proofs.Common.{◌≡◌, ℕ, ◌-◌, ◌<◌, Bool, false, List, length, MatchOption, Some, None, Option, sym, refl, ap, ◌∙◌, ap₂, arith}
use Rattle.std.specs.Option.{IsSome}
use Rattle.std.proofs.lemmas.Bool.{both_ways}
use Rattle.chart.specs.Layout.{Layout}
use Rattle.profile.specs.declared.shape.Profile.{Profile}
use Rattle.tariff.specs.Pricing.{Pricing, Lawful}
use Rattle.queries.specs.declared.node.Node.{Node}
use Rattle.queries.specs.Flat.{tree_of}
use Rattle.assignments.specs.declared.parts.Place.{Place}
use Rattle.assignments.specs.Table.{place}
use Rattle.assignments.proofs.Cheapest.{cheapest_like, cheapest_empty}
use Rattle.assignments.specs.Cheapest.{cheapest}
use Rattle.search.specs.declared.root.Seat.{Seat}
use Rattle.search.specs.Rows.{place_at, Filled}
use Rattle.search.specs.Root.{seat_of, empty_row, first_of}
use Rattle.search.specs.Outcomes.{seated_or, read_from, outcome_of}
use Rattle.search.proofs.Empty.{all_empty, empty_like, first_like}

-- two tables that agree on the rows say the same
read_like : {P : Type 0} (c : Pricing P) (n count : ℕ) (T U : ℕ → ℕ → Option (Place P)) → 0 < count → ((k s : ℕ) → k < count → s < n → T k s ≡ U k s) → read_from c n count T ≡ read_from c n count U
read_like c n count T U some same =
    ap₂ seated_or
    (cheapest_like c.leq (λ q. q.price) (λ s. seat_of s (T (count - 1) s)) (λ s. seat_of s (U (count - 1) s)) n (λ s b. ap (seat_of s) (same (count - 1) s (omega arith) b)))
    (first_like (λ k. empty_row (T k) n) (λ k. empty_row (U k) n) count 0 (λ k low high. empty_like (T k) (U k) n (λ s b. same k s (omega arith) b)))

pub unseated : {P : Type 0} (s : ℕ) (o : Option (Place P)) → seat_of s o ≡ None → o ≡ None
unseated s None h = refl
unseated s (Some p) h = let z : ◌≡◌ {A = ℕ} 0 1 = cc in absurd (omega arith)

-- where the root has no place, some row is empty: its own
pub one_blocks : {P : Type 0} (c : Pricing P) → Lawful c → (n count : ℕ) (T : ℕ → ℕ → Option (Place P)) (q : Option (Seat P)) → 0 < count
    → q ≡ cheapest c.leq (λ q. q.price) (λ s. seat_of s (T (count - 1) s)) n → q ≡ None
    → (r : Option ℕ) → MatchOption r ((k : ℕ) → k < count → empty_row (T k) n ≡ false) (λ i. i ≡ first_of (λ k. empty_row (T k) n) 0 count) → IsSome r
one_blocks c lawful n count T q some e none None h =
    let f = λ (s : ℕ). seat_of s (T (count - 1) s) in
    let root = all_empty (T (count - 1)) n (λ s b. unseated s (T (count - 1) s) (cheapest_empty c.leq (λ q. q.price) lawful.total lawful.transitive f n (sym e ∙ none) s b)) in
    absurd (both_ways (empty_row (T (count - 1)) n) (h (count - 1) (omega arith)) root)
one_blocks c lawful n count T q some e none (Some i) h = refl

pub outcome_is : {P : Type 0} (c : Pricing P) (may : ℕ → Profile → Bool) (l : Layout) (nodes : List Node) (old new : List (Option (Place P))) → 0 < length nodes → Filled c may l nodes (length nodes) old new
    → read_from c l.servers (length nodes) (place_at new l.servers) ≡ outcome_of c may l nodes
unfolding outcome_of
outcome_is c may l nodes old new some filled =
    read_like c l.servers (length nodes) (place_at new l.servers) (λ k. place c may l.servers l (tree_of nodes k)) some (λ k s h b. filled.rows k s h b)
