use Rattle.std.proofs.Common.{◌∙◌, arith}
use Rattle.chart.specs.Charts.{layout}
use Rattle.policy.specs.declared.refusal.BookRefusal.TheVariants.{Full}
use Rattle.policy.specs.Same.{chain}
use Rattle.policy.proofs.Orders.{same_sym}
use Rattle.policy.proofs.Entered.{refused_after}
use Rattle.books.specs.Slots.{held, exact_fits}
use Rattle.composed.specs.Composed.{composed_fits}
use Rattle.composed.proofs.Calls.{kept_alike, too_many_members, few_members, entered, left_again}
use Rattle.composed.proofs.entries.enter_rule.Goals as goal

pub returns-in_err-enter-clause-kept : goal.returns-in_err-enter-clause-kept
returns-in_err-enter-clause-kept c =
    let book = c.args.exact.now in
    let after = c.enter.new.self in
    let refused = refused_after (layout book.chart) exact_fits (held book.slots) c.args.given c.in_err-enter.field-0.0 c.in_err-enter.ensures.answer in
    kept_alike book.chart after.chart book.slots after.slots c.args.members.now.places c.args.members.now.count c.in_err-enter.ensures.chart after.sized after.distinct after.formed
    (chain c.in_err-enter.ensures.after (same_sym refused)) c.requires

pub returns-in_default-clause-kept : goal.returns-in_default-clause-kept
returns-in_default-clause-kept c =
    let book = c.args.exact.now in
    let more = c.enter.new.self in
    let back = c.withdraw.new.self in
    let left = left_again book.chart (held book.slots) c.args.given (held more.slots) c.in_ok-enter.ensures.answer c.in_ok-enter.ensures.after (held back.slots) c.withdraw.ensures.after in
    kept_alike book.chart back.chart book.slots back.slots c.args.members.now.places c.args.members.now.count (c.withdraw.ensures.chart ∙ c.in_ok-enter.ensures.chart) back.sized back.distinct back.formed left c.requires

pub returns-in_default-clause-answer : goal.returns-in_default-clause-answer
returns-in_default-clause-answer c =
    let book = c.args.exact.now in
    let more = c.enter.new.self in
    too_many_members book.chart (held book.slots) c.args.given (held more.slots) c.in_ok-enter.ensures.answer c.in_ok-enter.ensures.after more.chart c.in_ok-enter.ensures.chart c.in_default.ensures

pub returns-in_default-clause-after : goal.returns-in_default-clause-after
returns-in_default-clause-after c =
    let book = c.args.exact.now in
    let more = c.enter.new.self in
    let rules = held book.slots in
    let left = left_again book.chart rules c.args.given (held more.slots) c.in_ok-enter.ensures.answer c.in_ok-enter.ensures.after (held c.withdraw.new.self.slots) c.withdraw.ensures.after in
    let full = too_many_members book.chart rules c.args.given (held more.slots) c.in_ok-enter.ensures.answer c.in_ok-enter.ensures.after more.chart c.in_ok-enter.ensures.chart c.in_default.ensures in
    chain left (refused_after (layout book.chart) (composed_fits (layout book.chart)) rules c.args.given Full full)

pub returns-clause-answer : goal.returns-clause-answer
returns-clause-answer c =
    let book = c.args.exact.now in
    let more = c.enter.new.self in
    few_members book.chart (held book.slots) c.args.given (held more.slots) c.in_ok-enter.ensures.answer c.in_ok-enter.ensures.after more.chart c.in_ok-enter.ensures.chart
    (omega (arith, c.in-Some.ensures.fits, c.in-Some.ensures.all))

pub returns-clause-after : goal.returns-clause-after
returns-clause-after c =
    let book = c.args.exact.now in
    let more = c.enter.new.self in
    entered book.chart (held book.slots) c.args.given (held more.slots) c.in_ok-enter.ensures.answer c.in_ok-enter.ensures.after more.chart c.in_ok-enter.ensures.chart
    (omega (arith, c.in-Some.ensures.fits, c.in-Some.ensures.all))
