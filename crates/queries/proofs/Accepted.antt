-- What a checked query carries, on a chart that is its own.
use Rattle.std.proofs.Common.{◌≡◌, ℕ, ◌<◌, ◌≤◌, length, get_or, ap, ◌∙◌, subst, arith}
use Rattle.chart.specs.declared.state.Chart.{Chart}
use Rattle.chart.specs.Charts.{layout}
use Rattle.queries.specs.declared.checked.Checked.{Checked}
use Rattle.queries.specs.Flat.{blank}
use Rattle.queries.specs.Questions.{node_profile}
use Rattle.queries.specs.Sound.{Sound}
use Rattle.queries.proofs.Passed.{sound_tree}

module _ (q : Checked) (chart : Chart) (same : q.chart.now ≡ chart) where
  pub checked_sound : Sound (layout chart) q.nodes.now
  checked_sound = subst (λ (v : Chart). Sound (layout v) q.nodes.now) same (sound_tree (layout q.chart.now) q.nodes.now q.accepted)

  pub checked_profiles : (k : ℕ) → k < length q.nodes.now → get_or q.profiles k blank ≡ node_profile (layout chart) q.nodes.now k
  checked_profiles k below = q.profiled k below ∙ ap (λ (v : Chart). node_profile (layout v) q.nodes.now k) same

  pub checked_room : length q.nodes.now ≤ length q.profiles
  checked_room = omega (arith, q.sized, checked_sound.few)
