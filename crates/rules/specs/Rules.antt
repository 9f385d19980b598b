-- The questions that a rule has to pass on a chart.
use Rattle.std.specs.Prelude.{Bool, not, ◌&&◌, List, [], ◌∷◌, Result, nat_le}
use Rattle.std.specs.List.{list_all}
use Rattle.sets.specs.Sets.{none, same}
use Rattle.chart.specs.Questions.{asked}
use Rattle.chart.specs.Layout.{Layout, server_known}
use Rattle.chart.specs.Lookup.{attributes_known, links_known}
use Rattle.rules.specs.declared.view.View.{View}
use Rattle.rules.specs.declared.view.RuleRecord.{RuleRecord}
use Rattle.rules.specs.declared.refusal.RuleRefusal.{RuleRefusal}
use Rattle.rules.specs.declared.refusal.RuleRefusal.TheVariants.{Number, Server, Attributes, Path}
use Rattle.rules.specs.Trees.{tree}

-- whether the links of a view are known, and its path joins its relations into one tree
unfoldable pub path_joins : Layout → View → Bool
path_joins l v = links_known l v.path && tree l v.attributes v.path

-- number 1 to 999 (20); server known (21); attributes known, and at least one (22); links known, and the path a tree (23)
abbrev pub rule_questions : Layout → RuleRecord → List (Bool × RuleRefusal)
rule_questions l r =
    (nat_le 1 r.number && nat_le r.number 999, Number) ∷
    (server_known l r.view.server, Server) ∷
    (attributes_known l r.view.attributes && not (same r.view.attributes none), Attributes) ∷
    (path_joins l r.view, Path) ∷ []

-- the rule, or the first refusal
abbrev pub rule_answer : Layout → RuleRecord → Result RuleRecord RuleRefusal
rule_answer l r = asked (rule_questions l r) r

-- a rule that passes every question
abbrev pub well_formed : Layout → RuleRecord → Bool
well_formed l r = list_all (λ (q : Bool × RuleRefusal). q.0) (rule_questions l r)
