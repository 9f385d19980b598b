use Rattle.std.proofs.Common.{◌≡◌, eqb, drop}
use Rattle.sets.specs.Sets.{union}
use Rattle.chart.specs.Lookup.{places}
use Rattle.chart.proofs.lookup.places_of.Given as goal

-- what was found, with the places still to come
abbrev pub invariant-loop-i : goal.invariant-loop-i
invariant-loop-i l =
    union l.found (places (λ x. eqb x.relation l.relation) l.i (drop l.i l.attributes))
    ≡ places (λ x. eqb x.relation l.relation) 0 l.attributes
