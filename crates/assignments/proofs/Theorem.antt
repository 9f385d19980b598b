-- The theorem of the table, from its parts.
use Rattle.std.proofs.Common.{ℕ, Bool, refl, ap, ◌∙◌, subst}
use Rattle.chart.specs.Layout.{Layout}
use Rattle.chart.specs.Sound as chart
use Rattle.profile.specs.declared.shape.Profile.{Profile}
use Rattle.tariff.specs.Pricing.{Pricing, Lawful}
use Rattle.assignments.specs.Table.{place}
use Rattle.assignments.specs.Theorem.{Reaches, TableStands}
use Rattle.assignments.proofs.Follows.{recorded_executor, follows_recorded, follows_way, follows_unique}
use Rattle.assignments.proofs.Stands.{stands}
use Rattle.assignments.proofs.Chosen.{chosen_stands}
use Rattle.assignments.proofs.Nodes.{tree_is, tree_below, tree_distinct, tree_covers, follows_below}

pub table_stands : {P : Type 0} (l : Layout) (c : Pricing P) (may : ℕ → Profile → Bool) → Lawful c → chart.Sound l → TableStands l c may
table_stands {P} l c may lawful sound = record {
  stands = stands l c may lawful sound;
  recorded_at = recorded_executor l c may;
  recorded_follows = follows_recorded l c may;
  follows_reaches = λ t s p e z held h. subst (λ (u : ℕ). Reaches l c may t u p e) z (follows_way l c may e t p (ap (place c may l.servers l t) z ∙ held) h);
  follows_recorded = λ t s e. follows_unique l c may e t s;
  chosen_stands = chosen_stands l c may lawful sound {X = ℕ × P} (λ s x. (s, x)) (λ r. r.1) (λ s x. refl);
  subtrees = λ nodes one. record { grown = tree_is l nodes one; below = tree_below l nodes one; distinct = tree_distinct l nodes one; all = tree_covers l nodes one };
  follows_below = λ nodes one e. follows_below l nodes one c may e;
}
