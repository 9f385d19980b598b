-- The number of each refusal of a book. 20 to 23 are of layer R, the rule; 24 to 26 of layer B, the book. Their place is
-- the rule's number as given.
use Rattle.std.specs.Prelude.{ℕ}
use Rattle.rules.specs.Refusals as rule
use Rattle.policy.specs.declared.refusal.BookRefusal.{BookRefusal}
use Rattle.policy.specs.declared.refusal.BookRefusal.TheVariants.{Rule, InForce, Full, NotInForce}

abbrev pub refusal_number : BookRefusal → ℕ
refusal_number (Rule e) = rule.refusal_number e
refusal_number InForce = 24
refusal_number Full = 25
refusal_number NotInForce = 26
