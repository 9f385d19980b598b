-- The queries that are planned, and what they are planned under.
use Rattle.std.specs.Prelude.{[], ◌∷◌}
use Rattle.queries.specs.declared.node.Node.TheVariants.{Leaf, Join}
use Rattle.sample.specs.Parts.{set_of, rule_of}
use Rattle.plans.specs.declared.cases.Cases.{Cases}

abbrev pub cases_planned : Cases
cases_planned = record {
  joined = Leaf 0 ∷ Leaf 1 ∷ Join 0 1 0 ∷ [];
  alone = Leaf 0 ∷ [];
  whole = rule_of 1 1 (0 ∷ 1 ∷ 2 ∷ []) [];
  reply = rule_of 2 0 (0 ∷ 3 ∷ 4 ∷ []) (0 ∷ []);
  column = rule_of 3 1 (0 ∷ []) [];
  denial = record { server = 1; attributes = set_of (1 ∷ []) };
}
