use Rattle.std.proofs.Common.{Bool, not, eqb, List, sym, ap, ◌∙◌, subst, None, length-set}
use Rattle.std.specs.List.{list_all}
use Rattle.chart.specs.Charts.{layout}
use Rattle.rules.specs.declared.view.RuleRecord.{RuleRecord}
use Rattle.rules.specs.Rules.{well_formed}
use Rattle.policy.specs.Same.{Same}
use Rattle.policy.specs.Books.{apart, withdrawal_list}
use Rattle.policy.proofs.Orders.{same_refl}
use Rattle.books.specs.Slots.{held}
use Rattle.books.proofs.Held.{absent, number_emptied, all_fewer, apart_fewer}
use Rattle.books.proofs.exact.ExactBookBook.withdraw.Goals as goal

pub returns-in_err-i-clause-after : goal.returns-in_err-i-clause-after
returns-in_err-i-clause-after c =
    let rules = held c.args.self.now.slots in
    let unused = rw c.in_err-i.ensures.ok_part at c.slot_of.ensures.finds in
    subst (Same rules) (sym (absent rules c.args.number unused)) (same_refl rules)

pub invariant_of-self : goal.invariant_of-self
invariant_of-self c =
    let book = c.args.self.now in
    let l = layout book.chart in
    let rules = held book.slots in
    let other : RuleRecord → Bool = λ r. not (eqb r.number c.args.number) in
    let there = rw c.in_ok-i.ensures.ok_part at c.slot_of.ensures.finds in
    let gone = number_emptied book.slots c.in_ok-i.i c.args.number there book.distinct in
    record {
      sized = length-set book.slots c.in_ok-i.i None ∙ book.sized;
      distinct = ap apart gone ∙ apart_fewer other rules book.distinct;
      formed = ap (list_all (well_formed l)) gone ∙ all_fewer (well_formed l) other rules book.formed;
    }

pub returns-clause-after : goal.returns-clause-after
returns-clause-after c =
    let book = c.args.self.now in
    let rules = held book.slots in
    let there = rw c.in_ok-i.ensures.ok_part at c.slot_of.ensures.finds in
    let gone = number_emptied book.slots c.in_ok-i.i c.args.number there book.distinct in
    subst (λ (rs : List RuleRecord). Same rs (withdrawal_list rules c.args.number)) (sym gone) (same_refl (withdrawal_list rules c.args.number))
