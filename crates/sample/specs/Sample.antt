-- The sample chart.
use Rattle.std.specs.Prelude.{[], ◌∷◌, Ok, Result}
use Rattle.chart.specs.declared.refusal.ChartRefusal.{ChartRefusal}
use Rattle.chart.specs.Layout.{Layout}
use Rattle.chart.specs.Build.{bare, with_relation, with_link}

-- three servers; a relation of three, two and two attributes at each; links 0=3 and 3=5
abbrev pub sample : Layout
sample =
    with_link (with_link (with_relation (with_relation (with_relation (bare 3)
    0 (4 ∷ 8 ∷ 4 ∷ [])) 1 (4 ∷ 6 ∷ [])) 2 (4 ∷ 10 ∷ [])) 0 3) 3 5

abbrev pub sample_answer : Result Layout ChartRefusal
sample_answer = Ok sample
