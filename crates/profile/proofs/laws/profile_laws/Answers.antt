use Rattle.profile.proofs.Oriented.{laws_hold}
use Rattle.profile.proofs.laws.profile_laws.Goals as goal

pub returns : goal.returns
returns c = laws_hold
