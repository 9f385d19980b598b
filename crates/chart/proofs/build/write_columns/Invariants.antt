use Rattle.std.proofs.Common.{◌≡◌, ◌+◌, ◌++◌, take}
use Rattle.chart.specs.Build.{columns}
use Rattle.chart.proofs.build.write_columns.Given as goal

-- the first widths are written
abbrev pub invariant-loop-i : goal.invariant-loop-i
invariant-loop-i l = take (l.from + l.i) l.attributes ≡ take l.from l.initial.attributes ++ columns l.relation (take l.i l.widths)
