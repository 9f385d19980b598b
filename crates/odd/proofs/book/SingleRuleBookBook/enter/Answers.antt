use Rattle.std.proofs.Common.{◌≡◌, Err, Ok, arith}
use Rattle.std.proofs.lemmas.Grind.{common_steps}
use Rattle.chart.specs.Charts.{layout}
use Rattle.policy.specs.declared.refusal.BookRefusal.TheVariants.{InForce, Full}
use Rattle.policy.specs.Books.{place_answer}
use Rattle.policy.proofs.Orders.{same_equal}
use Rattle.policy.proofs.Entered.{entry_is, entry_after, refused_after, refusal_after}
use Rattle.odd.specs.Loose.{rules_of, one_fits}
use Rattle.odd.proofs.book.SingleRuleBookBook.enter.Goals as goal

pub returns-in_err-rule-clause-after : goal.returns-in_err-rule-clause-after
returns-in_err-rule-clause-after c =
    refusal_after (layout c.args.self.now.chart) one_fits (rules_of c.args.self.now.rule) c.args.given c.in_err-rule.field-0.0 c.in_err-rule.ensures.answer

pub returns-in-Some-clause-after : goal.returns-in-Some-clause-after
returns-in-Some-clause-after c =
    let l = layout c.args.self.now.chart in
    let rules_now = rules_of c.args.self.now.rule in
    let answer : Err InForce ≡ place_answer one_fits rules_now c.in_ok-rule.rule.given = grind (arith, common_steps) in
    refused_after l one_fits rules_now c.args.given InForce (entry_is l one_fits rules_now c.args.given (Err InForce) c.in_ok-rule.rule.given c.in_ok-rule.ensures.answer answer)

pub returns-in-Some-2-clause-after : goal.returns-in-Some-2-clause-after
returns-in-Some-2-clause-after c =
    let l = layout c.args.self.now.chart in
    let rules_now = rules_of c.args.self.now.rule in
    let answer : Err Full ≡ place_answer one_fits rules_now c.in_ok-rule.rule.given = grind (arith, common_steps) in
    refused_after l one_fits rules_now c.args.given Full (entry_is l one_fits rules_now c.args.given (Err Full) c.in_ok-rule.rule.given c.in_ok-rule.ensures.answer answer)

pub returns-in-None-clause-after : goal.returns-in-None-clause-after
returns-in-None-clause-after c =
    let l = layout c.args.self.now.chart in
    let rules_now = rules_of c.args.self.now.rule in
    let answer : Ok tt ≡ place_answer one_fits rules_now c.in_ok-rule.rule.given = grind (arith, common_steps) in
    entry_after l one_fits rules_now c.args.given (Ok tt) c.in_ok-rule.rule.given _ c.in_ok-rule.ensures.answer answer (same_equal (grind (arith, common_steps)))
