-- The loose reading keeps the laws of a policy.
use Rattle.std.specs.Prelude.{◌≡◌, Bool, true, ◌&&◌, Some, None, Option, refl}
use Rattle.std.specs.List.{list_all, list_any}
use Rattle.std.proofs.Common.{ap}
use Rattle.std.proofs.lemmas.Bool.{and_left}
use Rattle.chart.specs.declared.state.Chart.{Chart}
use Rattle.chart.specs.Charts.{layout}
use Rattle.rules.specs.declared.rule.Rule.{Rule}
use Rattle.rules.specs.Rules.{well_formed}
use Rattle.policy.specs.Reading.{inside}
use Rattle.policy.specs.Books.{apart}
use Rattle.policy.specs.Lawful.{Lawful}
use Rattle.policy.proofs.Orders.{same_any}
use Rattle.odd.specs.Loose.{rules_of, lets, loose_reading}

one_apart : (rule : Option Rule) → apart (rules_of rule) ≡ true
one_apart None = refl
one_apart (Some r) = refl

pub loose_lawful : (chart : Chart) (rule : Option Rule) → list_all (well_formed (layout chart)) (rules_of rule) ≡ true → Lawful chart (rules_of rule) (loose_reading (layout chart))
loose_lawful chart rule formed = record {
  order = λ xs ys h server p. ap (λ (b : Bool). inside (layout chart) server p && b) (same_any (lets server p) h);
  distinct = one_apart rule;
  formed = formed;
  outside = λ server p out. and_left (inside (layout chart) server p) (list_any (lets server p) (rules_of rule)) out;
}
