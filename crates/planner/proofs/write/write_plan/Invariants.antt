use Rattle.std.proofs.Common.{ℕ, Bool, List, Option}
use Rattle.chart.specs.Layout.{Layout}
use Rattle.profile.specs.declared.shape.Profile.{Profile}
use Rattle.tariff.specs.Pricing.{Pricing}
use Rattle.assignments.specs.declared.parts.Place.{Place}
use Rattle.planner.proofs.Written.{Written, Meant, by_table}
use Rattle.planner.proofs.write.write_plan.Given as goal

-- the nodes from i on are written
abbrev pub invariant-loop-i : goal.invariant-loop-i
invariant-loop-i g l =
    (y : Layout) (c : Pricing g.row.P.Denot) (may : ℕ → Profile → Bool) (old : List (Option (Place g.row.P.Denot))) (p : Place g.row.P.Denot)
    → (m : Meant l.nodes l.table.places.now l.table.servers l.executor y c may old p)
    → Written l.nodes (by_table l.nodes l.table.places.now l.table.servers l.executor y c may old p m) l.initial.plan l.i l.plan
