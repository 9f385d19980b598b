use Rattle.std.proofs.Common.{◌≡◌, true, false, rules}
use Rattle.std.proofs.lemmas.Iterator.{first_from_Range}
use Rattle.sets.specs.Sets.{has}
use Rattle.sets.proofs.Sets.{members_first}
use Rattle.sets.proofs.elements.first_from.Goals as goal

pub returns-clause-value : goal.returns-clause-value
returns-clause-value c =
    let s = c.args.set in
    members_first s c.args.from c.find.result
    (first_from_Range _ _ _ c.find.result (λ i. has s i ≡ true) (λ i. has s i ≡ false) c.find.ensures.ran (λ i state called. search rules) (λ i state called. search rules))
