use Rattle.std.proofs.Common.{◌∷◌, length, sym, ◌∙◌, arith, Some, Ok, Err, refl, length-set}
use Rattle.std.specs.List.{list_all}
use Rattle.std.proofs.lemmas.Bool.{le-leb, lt-leb, and_from}
use Rattle.chart.specs.Charts.{layout}
use Rattle.rules.specs.Rules.{well_formed}
use Rattle.policy.specs.declared.refusal.BookRefusal.TheVariants.{InForce, Full}
use Rattle.policy.proofs.Orders.{same_all, same_apart}
use Rattle.policy.proofs.Entered.{entry_is, entry_after, refused_after, refusal_after}
use Rattle.books.specs.Slots.{held, exact_fits}
use Rattle.books.proofs.Held.{place_taken, place_unfit, place_fit, apart_more, held_filled, held_fewer}
use Rattle.books.proofs.exact.ExactBookBook.enter.Goals as goal

pub returns-in_err-rule-clause-after : goal.returns-in_err-rule-clause-after
returns-in_err-rule-clause-after c =
    refusal_after (layout c.args.self.now.chart) exact_fits (held c.args.self.now.slots) c.args.given c.in_err-rule.field-0.0 c.in_err-rule.ensures.answer

pub returns-then-holds_number-clause-after : goal.returns-then-holds_number-clause-after
returns-then-holds_number-clause-after c =
    let l = layout c.args.self.now.chart in
    let rules = held c.args.self.now.slots in
    let r = c.in_ok-rule.rule.given in
    refused_after l exact_fits rules c.args.given InForce
    (entry_is l exact_fits rules c.args.given (Err InForce) r c.in_ok-rule.ensures.answer (place_taken exact_fits rules r (sym c.if-holds_number.ensures)))

pub returns-in_err-i-clause-after : goal.returns-in_err-i-clause-after
returns-in_err-i-clause-after c =
    let book = c.args.self.now in
    let l = layout book.chart in
    let rules = held book.slots in
    let r = c.in_ok-rule.rule.given in
    let none_free = rw c.in_err-i.ensures.ok_part at c.free_slot.ensures.finds in
    let full = lt-leb (length (r ∷ rules)) 64 (omega (arith, none_free, book.sized)) in
    let answer = entry_is l exact_fits rules c.args.given (Err Full) r c.in_ok-rule.ensures.answer (place_unfit exact_fits rules r (sym c.if-holds_number.ensures) full) in
    refused_after l exact_fits rules c.args.given Full answer

pub invariant_of-self : goal.invariant_of-self
invariant_of-self c =
    let book = c.args.self.now in
    let l = layout book.chart in
    let rules = held book.slots in
    let r = c.in_ok-rule.rule in
    let free = rw c.in_ok-i.ensures.ok_part at c.free_slot.ensures.finds in
    let filled = held_filled book.slots c.in_ok-i.i r free.within free.empty in
    record {
      sized = length-set book.slots c.in_ok-i.i (Some r) ∙ book.sized;
      distinct = same_apart filled ∙ apart_more rules r.given (sym c.if-holds_number.ensures) book.distinct;
      formed = same_all (well_formed l) filled ∙ and_from (well_formed l r.given) (list_all (well_formed l) rules) c.in_ok-rule.ensures.passed book.formed;
    }

pub returns : goal.returns
returns c =
    let book = c.args.self.now in
    let l = layout book.chart in
    let rules = held book.slots in
    let r = c.in_ok-rule.rule in
    let free = rw c.in_ok-i.ensures.ok_part at c.free_slot.ensures.finds in
    let fewer = held_fewer book.slots c.in_ok-i.i free.within free.empty in
    let fits = le-leb (length (r.given ∷ rules)) 64 (omega (arith, fewer, book.sized)) in
    let placed = place_fit exact_fits rules r.given (sym c.if-holds_number.ensures) fits in
    record {
      answer = entry_is l exact_fits rules c.args.given (Ok tt) r.given c.in_ok-rule.ensures.answer placed;
      after = entry_after l exact_fits rules c.args.given (Ok tt) r.given _ c.in_ok-rule.ensures.answer placed (held_filled book.slots c.in_ok-i.i r free.within free.empty);
      chart = refl;
      reads = refl;
      fitting = refl;
    }
