-- Bytes shown, added up.
use Rattle.std.specs.Prelude.{ℕ, ◌+◌, min, leb, List, [], ◌∷◌}
use Rattle.sets.specs.declared.small_set.SmallSet.{SmallSet}
use Rattle.sets.specs.Sets.{members}
use Rattle.chart.specs.Layout.{Layout}
use Rattle.chart.specs.Lookup.{width_of}
use Rattle.tariff.specs.Pricing.{Pricing}

-- a price stops at 4,294,967,295 instead of passing it
abbrev pub capped : ℕ → ℕ
capped n = min n 4294967295

-- the widths of attributes, added
abbrev pub widths : Layout → List ℕ → ℕ
widths l [] = 0
widths l (a ∷ more) = width_of l a + widths l more

abbrev pub shown_bytes : Layout → SmallSet → ℕ
shown_bytes l shown = capped (widths l (members shown))

-- prices in bytes: a release costs what it shows, and joined prices are added
abbrev pub byte_pricing : Layout → Pricing ℕ
byte_pricing l = record { free = 0; sum = λ x y. capped (x + y); leq = leb; release = λ sender receiver p. shown_bytes l p.shown }
