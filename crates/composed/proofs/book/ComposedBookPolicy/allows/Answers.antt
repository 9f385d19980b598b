use Rattle.std.proofs.Common.{◌≡◌, sym, ap, ◌∙◌}
use Rattle.chart.specs.Charts.{layout}
use Rattle.policy.specs.Reading.{exact, view_lets}
use Rattle.books.specs.Slots.{held}
use Rattle.composed.specs.Composed.{composed_members}
use Rattle.composed.specs.Lawful.{any_alike}
use Rattle.composed.specs.Table.{listed}
use Rattle.composed.proofs.Turns.{views_alone}
use Rattle.composed.proofs.book.ComposedBookPolicy.allows.Goals as goal

pub returns : goal.returns
returns c =
    let book = c.args.self.now in
    let server = c.args.server in
    let p = c.args.profile.now in
    let read : c.some_view_allows.result ≡ exact (listed book.members) server p =
    c.some_view_allows.ensures ∙ ap (λ vs. exact vs server p) (views_alone c.views.result.now) ∙ ap (λ vs. exact vs server p) c.views.ensures in
    read ∙ any_alike (view_lets server p) (listed book.members) (composed_members (layout book.exact.chart) (held book.exact.slots)) (λ v h. sym (book.grown v) ∙ h) (λ v h. book.grown v ∙ h)
