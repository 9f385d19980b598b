use Rattle.members.proofs.Exact.{laws_hold}
use Rattle.members.proofs.laws.members_laws.Goals as goal

pub returns : goal.returns
returns c = laws_hold
