use Rattle.std.proofs.Common.{◌≡◌, [], length, sym, ap, ◌∙◌, arith}
use Rattle.chart.specs.Charts.{layout}
use Rattle.members.specs.Members.{among}
use Rattle.books.specs.Slots.{held}
use Rattle.composed.specs.Books.{members_none}
use Rattle.composed.specs.Composed.{composed_members}
use Rattle.composed.proofs.book.ComposedBook.new.Goals as goal

pub invariant_of-result : goal.invariant_of-result
invariant_of-result c =
    let l = layout c.new.result.chart in
    let none : composed_members l (held c.new.result.slots) ≡ [] = ap (composed_members l) c.new.ensures.rules ∙ members_none l in
    record { few = omega (arith, ap length none); grown = λ v. ap (among v) (c.empty.ensures ∙ sym none) }
