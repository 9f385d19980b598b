use Rattle.std.proofs.Common.{◌≡◌, ℕ, Bool}
use Rattle.profile.specs.declared.shape.Profile.{Profile}
use Rattle.profile.specs.declared.join.Join.{Join}
use Rattle.assignments.specs.Cheapest.{cheapest}
use Rattle.assignments.specs.Modes.{mode_at}
use Rattle.assignments.specs.Table.{best_of_mode}
use Rattle.search.specs.Rows.{place_at}
use Rattle.search.specs.Sends.{Sent}
use Rattle.search.proofs.options.best_option.Given as goal

-- the best of the modes so far
abbrev pub invariant-loop-mode : goal.invariant-loop-mode
invariant-loop-mode g l =
    let c = g.T.Tariff.pricing l.tariff in
    let n = l.table.servers in
    let places = l.table.places.now in
    (may : ℕ → Profile → Bool) (j : Join) → Sent may n j l.sends
    → l.best ≡ cheapest c.leq (λ p. p.price) (λ m. best_of_mode c may n j (place_at places n l.operands.left) (place_at places n l.operands.right) l.master (mode_at m)) l.mode-index
