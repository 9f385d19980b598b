use Rattle.std.proofs.Common.{rules}
use Rattle.members.specs.Compose.{composition}
use Rattle.composed.proofs.pairs.compose.Goals as goal

pub returns : goal.returns
unfolding composition
returns c = search rules
