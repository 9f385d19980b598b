use Rattle.std.proofs.Common.{ap, ◌∙◌}
use Rattle.sets.specs.declared.small_set.SmallSet.{SmallSet}
use Rattle.sets.specs.Sets.{has}
use Rattle.std.proofs.Common.{Option}
use Rattle.std.specs.Option.{unwrap_or}
use Rattle.queries.proofs.Seen.{inserted}
use Rattle.queries.proofs.check.with_number.Goals as goal

pub returns : goal.returns
returns c = λ j h.
    ap (λ (t : SmallSet). has t j) (c.unwrap_or.ensures ∙ ap (λ (r : Option SmallSet). unwrap_or r c.args.set) c.insert.ensures) ∙ inserted c.args.set c.args.i j h
