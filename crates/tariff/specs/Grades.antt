-- Grades as prices, in rising order: nothing, quay, leased, public.
use Rattle.std.specs.Prelude.{ℕ, cond, Some, None, Option, nat_le}
use Rattle.chart.specs.declared.parts.Grade.{Grade}
use Rattle.chart.specs.declared.parts.Grade.TheVariants.{Quay, Leased, Public}
use Rattle.chart.specs.Layout.{Layout}
use Rattle.chart.specs.Lookup.{grade_of}
use Rattle.tariff.specs.Pricing.{Pricing}

abbrev pub no_grade : Option Grade
no_grade = None

abbrev pub rank : Option Grade → ℕ
rank None = 0
rank (Some Quay) = 1
rank (Some Leased) = 2
rank (Some Public) = 3

-- the worse of two prices
abbrev pub worse : Option Grade → Option Grade → Option Grade
worse a b = cond (nat_le (rank a) (rank b)) b a

-- prices by grade: a release costs the grade of its line, and joined prices the worse of the two; nothing is below quay
abbrev pub grade_pricing : Layout → Pricing (Option Grade)
grade_pricing l = record { free = no_grade; sum = worse; leq = λ x y. nat_le (rank x) (rank y); release = λ sender receiver p. Some (grade_of l sender receiver) }
