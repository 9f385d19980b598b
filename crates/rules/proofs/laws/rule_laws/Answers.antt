use Rattle.rules.proofs.Joined.{laws_hold}
use Rattle.rules.proofs.laws.rule_laws.Goals as goal

pub returns : goal.returns
returns c = laws_hold
