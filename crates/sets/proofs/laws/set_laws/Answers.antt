use Rattle.sets.proofs.Sets.{laws_hold}
use Rattle.sets.proofs.laws.set_laws.Goals as goal

pub returns : goal.returns
returns c = laws_hold
