use Rattle.std.proofs.Common.{◌≡◌, ℕ, ◌<◌, ◌≤◌, false}
use Rattle.sets.specs.Sets.{has}
use Rattle.search.proofs.sends.with_receivers.Given as goal

-- the set tells of the servers below, and has none of the others
abbrev pub invariant-loop-server : goal.invariant-loop-server
invariant-loop-server g l =
    ((s : ℕ) → s < l.server → has l.receivers s ≡ g.P.Policy.reading l.policy (g.P.Policy.rules l.policy) s l.profile)
    × ((s : ℕ) → l.server ≤ s → s < 64 → has l.receivers s ≡ false)
