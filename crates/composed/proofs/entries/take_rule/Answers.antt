use Rattle.std.proofs.Common.{◌<◌, length, subst, arith}
use Rattle.chart.specs.declared.state.Chart.{Chart}
use Rattle.chart.specs.Charts.{layout}
use Rattle.policy.specs.Same.{chain}
use Rattle.policy.specs.Books.{withdrawal_list}
use Rattle.policy.proofs.Orders.{same_sym}
use Rattle.books.specs.Slots.{held}
use Rattle.composed.specs.Composed.{composed_members}
use Rattle.composed.specs.Books.{members_same, fewer_few}
use Rattle.composed.proofs.Calls.{kept_alike, not_withdrawn}
use Rattle.composed.proofs.entries.take_rule.Goals as goal

pub returns-in_err-withdraw-clause-kept : goal.returns-in_err-withdraw-clause-kept
returns-in_err-withdraw-clause-kept c =
    let book = c.args.exact.now in
    let after = c.withdraw.new.self in
    let refused = not_withdrawn (held book.slots) c.args.number c.in_err-withdraw.field-0.0 c.in_err-withdraw.ensures.answer in
    kept_alike book.chart after.chart book.slots after.slots c.args.members.now.places c.args.members.now.count c.in_err-withdraw.ensures.chart after.sized after.distinct after.formed
    (chain c.in_err-withdraw.ensures.after (same_sym refused)) c.requires

pub unreachable-requires : goal.unreachable-requires
unreachable-requires c =
    let chart = c.args.exact.now.chart in
    let rules = held c.args.exact.now.slots in
    let fewer = c.withdraw.new.self in
    let many : 256 < length (composed_members (layout chart) (held fewer.slots)) =
    subst (λ (x : Chart). 256 < length (composed_members (layout x) (held fewer.slots))) c.in_ok-withdraw.ensures.chart c.in_default.ensures in
    omega (arith, many, members_same chart (held fewer.slots) (withdrawal_list rules c.args.number) c.in_ok-withdraw.ensures.after, fewer_few chart rules c.args.number c.requires.few)
