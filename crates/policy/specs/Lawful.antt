-- What every policy keeps.
use Rattle.std.specs.Prelude.{◌≡◌, ℕ, Bool, true, false, List}
use Rattle.std.specs.List.{list_all}
use Rattle.chart.specs.declared.state.Chart.{Chart}
use Rattle.chart.specs.Charts.{layout}
use Rattle.profile.specs.declared.shape.Profile.{Profile}
use Rattle.rules.specs.declared.view.RuleRecord.{RuleRecord}
use Rattle.rules.specs.Rules.{well_formed}
use Rattle.policy.specs.Same.{Same}
use Rattle.policy.specs.Reading.{inside}
use Rattle.policy.specs.Books.{apart}

pub record Lawful (chart : Chart) (rules : List RuleRecord) (reading : List RuleRecord → ℕ → Profile → Bool) : Type 0 where
  -- the order of a list never matters
  pub order : (xs ys : List RuleRecord) → Same xs ys → (server : ℕ) (p : Profile) → reading xs server p ≡ reading ys server p
  -- no two rules in force share a number
  pub distinct : apart rules ≡ true
  -- every rule in force passes the questions of a rule on the policy's own chart
  pub formed : list_all (well_formed (layout chart)) rules ≡ true
  -- a server or a set outside the chart gets no
  pub outside : (server : ℕ) (p : Profile) → inside (layout chart) server p ≡ false → reading rules server p ≡ false
