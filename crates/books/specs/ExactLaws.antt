-- The exact reading keeps the laws of a policy, over any well-formed rules of distinct numbers.
use Rattle.std.specs.Prelude.{◌≡◌, true, List}
use Rattle.std.specs.List.{list_all}
use Rattle.chart.specs.declared.state.Chart.{Chart}
use Rattle.chart.specs.Charts.{layout}
use Rattle.rules.specs.declared.view.RuleRecord.{RuleRecord}
use Rattle.rules.specs.Rules.{well_formed}
use Rattle.policy.specs.Reading.{exact_reading}
use Rattle.policy.specs.Books.{apart}
use Rattle.policy.specs.Lawful.{Lawful}
use Rattle.policy.proofs.Lawfully as proof

pub exact_lawful : (chart : Chart) (rules : List RuleRecord) → apart rules ≡ true → list_all (well_formed (layout chart)) rules ≡ true → Lawful chart rules exact_reading
exact_lawful = proof.exact_lawful
