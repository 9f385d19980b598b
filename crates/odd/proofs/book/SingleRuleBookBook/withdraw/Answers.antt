use Rattle.std.proofs.Common.{arith}
use Rattle.std.proofs.lemmas.Grind.{common_steps}
use Rattle.policy.proofs.Orders.{same_equal}
use Rattle.odd.proofs.book.SingleRuleBookBook.withdraw.Goals as goal

pub returns-in-Some-clause-after : goal.returns-in-Some-clause-after
returns-in-Some-clause-after c = same_equal (grind (arith, common_steps))

pub returns-in_default-clause-after : goal.returns-in_default-clause-after
returns-in_default-clause-after c = same_equal (grind (arith, common_steps))

pub returns-in_default-2-clause-after : goal.returns-in_default-2-clause-after
returns-in_default-2-clause-after c = same_equal (grind (arith, common_steps))
