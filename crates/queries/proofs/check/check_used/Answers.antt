use Rattle.std.proofs.Common.{◌≡◌, true, false, arith, rules, tests}
use Rattle.std.proofs.lemmas.Iterator.{first_from_Range}
use Rattle.sets.specs.Sets.{has}
use Rattle.queries.proofs.Uses.{unused_first}
use Rattle.queries.proofs.check.check_used.Goals as goal

pub returns : goal.returns
returns c =
    unused_first (has c.args.used) c.args.count c.find.result c.map_or.result
    (first_from_Range _ _ _ _ (λ i. has c.args.used i ≡ false) (λ i. has c.args.used i ≡ true) c.find.ensures.ran
    (λ x q k. grind (arith, tests))
    (λ x q k. (search rules, grind (arith, tests))))
    (search rules)
