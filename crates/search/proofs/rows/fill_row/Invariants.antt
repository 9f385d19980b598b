use Rattle.std.proofs.Common.{◌≡◌, ℕ, ◌<◌, Bool}
use Rattle.std.specs.List.{AllByRecursion}
use Rattle.chart.specs.Layout.{Layout}
use Rattle.profile.specs.declared.shape.Profile.{Profile}
use Rattle.queries.specs.declared.node.Node.{Node}
use Rattle.queries.specs.Flat.{operands}
use Rattle.search.specs.Rows.{place_at, place_from, Row}
use Rattle.search.specs.Sources.{Sourced}
use Rattle.search.proofs.rows.fill_row.Given as goal

-- the first places of the row are written
abbrev pub invariant-loop-server : goal.invariant-loop-server
invariant-loop-server g l =
    let n = l.initial.table.servers in
    let old = l.initial.table.places.now in
    ((k : Layout) (may : ℕ → Profile → Bool) (f : ℕ → Profile) (x : Node) → Sourced k may n f x l.source → AllByRecursion (λ j. j < l.node) (operands x)
    → Row n l.node l.server (place_from (g.T.Tariff.pricing l.tariff) may n k f x (place_at old n)) old l.table.places.now)
    × (l.table.servers ≡ n) × (l.table.places.ghost_name ≡ l.initial.table.places.ghost_name)
