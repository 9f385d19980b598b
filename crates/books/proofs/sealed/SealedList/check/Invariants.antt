use Rattle.std.proofs.Common.{◌≡◌, drop}
use Rattle.chart.specs.Charts.{layout}
use Rattle.books.specs.Slots.{held}
use Rattle.books.specs.Sealed.{entered_from, sealed_answer}
use Rattle.books.proofs.sealed.SealedList.check.Given as goal

-- the book is for this chart, and entering what is left into it decides
abbrev pub invariant-loop-record : goal.invariant-loop-record
invariant-loop-record l =
    (l.book.chart ≡ l.chart)
    × (entered_from (layout l.chart) (held l.book.slots) (drop l.record-index l.records) ≡ sealed_answer (layout l.chart) l.records)
