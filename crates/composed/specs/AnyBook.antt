-- A book of either kind means what the book that it is means.
use Rattle.std.specs.Prelude.{ℕ, Bool, List}
use Rattle.chart.specs.declared.state.Chart.{Chart}
use Rattle.chart.specs.Charts.{layout}
use Rattle.profile.specs.declared.shape.Profile.{Profile}
use Rattle.rules.specs.declared.view.RuleRecord.{RuleRecord}
use Rattle.policy.specs.Reading.{exact_reading}
use Rattle.policy.specs.Lawful.{Lawful}
use Rattle.books.specs.Slots.{held, exact_fits}
use Rattle.books.specs.ExactLaws.{exact_lawful}
use Rattle.composed.specs.declared.any.AnyBook.{AnyBook}
use Rattle.composed.specs.declared.any.AnyBook.TheVariants.{Exact, Composed}
use Rattle.composed.specs.Composed.{composed_reading, composed_fits}
use Rattle.composed.specs.Lawful.{composed_lawful}

abbrev pub any_charted : AnyBook → Chart
any_charted (Exact b) = b.chart
any_charted (Composed b) = b.exact.chart

abbrev pub any_rules : AnyBook → List RuleRecord
any_rules (Exact b) = held b.slots
any_rules (Composed b) = held b.exact.slots

abbrev pub any_reading : AnyBook → List RuleRecord → ℕ → Profile → Bool
any_reading (Exact b) = exact_reading
any_reading (Composed b) = composed_reading (layout b.exact.chart)

abbrev pub any_fits : AnyBook → List RuleRecord → Bool
any_fits (Exact b) = exact_fits
any_fits (Composed b) = composed_fits (layout b.exact.chart)

pub any_lawful : (b : AnyBook) → Lawful (any_charted b) (any_rules b) (any_reading b)
any_lawful (Exact b) = exact_lawful b.chart (held b.slots) b.distinct b.formed
any_lawful (Composed b) = composed_lawful b.exact.chart (held b.exact.slots) b.exact.distinct b.exact.formed
