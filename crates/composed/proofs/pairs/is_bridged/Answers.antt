use Rattle.std.proofs.Common.{rules}
use Rattle.members.specs.Compose.{bridges}
use Rattle.composed.proofs.pairs.is_bridged.Goals as goal

pub returns : goal.returns
unfolding bridges
returns c = search rules
