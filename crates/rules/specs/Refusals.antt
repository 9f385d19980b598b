-- The number of each refusal of layer R, the rule. Their place is the rule's number as given.
use Rattle.std.specs.Prelude.{ℕ}
use Rattle.rules.specs.declared.refusal.RuleRefusal.{RuleRefusal}
use Rattle.rules.specs.declared.refusal.RuleRefusal.TheVariants.{Number, Server, Attributes, Path}

abbrev pub refusal_number : RuleRefusal → ℕ
refusal_number Number = 20
refusal_number Server = 21
refusal_number Attributes = 22
refusal_number Path = 23
