-- A layer over a lawful policy is lawful: the terms that the impls give for `lawful`.
use Rattle.std.specs.Prelude.{◌≡◌, ℕ, Bool, false, not, ◌&&◌, ◌||◌, List, Some, None, Option, ◌==◌, refl}
use Rattle.std.proofs.Common.{ap}
use Rattle.std.proofs.lemmas.Bool.{and_right, or_from}
use Rattle.chart.specs.declared.state.Chart.{Chart}
use Rattle.chart.specs.Charts.{layout}
use Rattle.chart.specs.Layout.{Layout}
use Rattle.profile.specs.declared.shape.Profile.{Profile}
use Rattle.rules.specs.declared.view.RuleRecord.{RuleRecord}
use Rattle.policy.specs.Reading.{inside}
use Rattle.policy.specs.Lawful.{Lawful}
use Rattle.layers.specs.declared.denial.Denial.{Denial}
use Rattle.layers.specs.Readings.{denied, carries}

-- what lies outside the chart no carrier sees
kept_inside : (l : Layout) (carrier : Option ℕ) (server : ℕ) (p : Profile) → inside l server p ≡ false → carries l carrier server p ≡ false
kept_inside l None server p out = refl
kept_inside l (Some c) server p out = and_right (c == server) (inside l server p) out

module _ {chart : Chart} {rules : List RuleRecord} {reading : List RuleRecord → ℕ → Profile → Bool} where
  pub denials_lawful : (ds : List Denial) → Lawful chart rules reading → Lawful chart rules (λ xs server p. not (denied ds server p) && reading xs server p)
  denials_lawful ds h = record {
    order = λ xs ys k server p. ap (λ b. not (denied ds server p) && b) (h.order xs ys k server p);
    distinct = h.distinct;
    formed = h.formed;
    outside = λ server p out. and_right (not (denied ds server p)) (reading rules server p) (h.outside server p out);
  }

  pub carrier_lawful : (carrier : Option ℕ) → Lawful chart rules reading → Lawful chart rules (λ xs server p. carries (layout chart) carrier server p || reading xs server p)
  carrier_lawful carrier h = record {
    order = λ xs ys k server p. ap (λ b. carries (layout chart) carrier server p || b) (h.order xs ys k server p);
    distinct = h.distinct;
    formed = h.formed;
    outside = λ server p out. or_from (carries (layout chart) carrier server p) (reading rules server p) (kept_inside (layout chart) carrier server p out) (h.outside server p out);
  }
