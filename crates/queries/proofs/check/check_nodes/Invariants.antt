use Rattle.std.proofs.Common.{◌≡◌, ℕ, ◌-◌, ◌<◌, length, get_or}
use Rattle.sets.specs.Sets.{has}
use Rattle.chart.specs.Charts.{layout}
use Rattle.queries.specs.Flat.{blank}
use Rattle.queries.specs.Questions.{used_by, stands_in, node_profile, questions_from, answered}
use Rattle.queries.proofs.check.check_nodes.Given as goal

-- what is left of the questions gives the answer, and the sets and profiles are those of the nodes before i
abbrev pub invariant-loop-i : goal.invariant-loop-i
invariant-loop-i l =
    (answered (questions_from (layout l.chart) l.nodes l.i (length l.nodes - l.i)) ≡ answered (questions_from (layout l.chart) l.nodes 0 (length l.nodes)))
    × ((j : ℕ) → j < 64 → has l.seen.used j ≡ used_by l.nodes l.i j)
    × ((r : ℕ) → r < 64 → has l.seen.relations r ≡ stands_in l.nodes l.i r)
    × ((k : ℕ) → k < l.i → get_or l.profiles k blank ≡ node_profile (layout l.chart) l.nodes k)
