-- The number of each refusal of layer C, the chart. Their place is always 0.
use Rattle.std.specs.Prelude.{ℕ}
use Rattle.chart.specs.declared.refusal.ChartRefusal.{ChartRefusal}
use Rattle.chart.specs.declared.refusal.ChartRefusal.TheVariants.{Servers, Home, Widths, Limits, Ends, LinkLimit, LinkRepeated, Line}

abbrev pub refusal_number : ChartRefusal → ℕ
refusal_number Servers = 10
refusal_number Home = 11
refusal_number Widths = 12
refusal_number Limits = 13
refusal_number Ends = 14
refusal_number LinkLimit = 15
refusal_number LinkRepeated = 16
refusal_number Line = 17
