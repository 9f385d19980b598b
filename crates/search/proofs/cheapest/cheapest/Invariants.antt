use Rattle.std.proofs.Common.{◌≡◌, ℕ, ◌<◌, Option}
use Rattle.assignments.specs.Cheapest.{cheapest}
use Rattle.search.proofs.cheapest.cheapest.Given as goal

-- the first of the cheapest so far
abbrev pub invariant-loop-i : goal.invariant-loop-i
invariant-loop-i g l =
    (f : ℕ → Option g.row.X.Denot) → ((i : ℕ) (x : Option g.row.X.Denot) → i < l.count → goal.F-post g l.offer i x → x ≡ f i)
    → l.best ≡ cheapest (g.T.Tariff.pricing l.tariff).leq g.X.Priced.priced f l.i
