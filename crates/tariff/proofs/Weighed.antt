-- Widths added one by one, never past the cap.
use Rattle.std.proofs.Common.{◌≡◌, ℕ, ◌+◌, ◌≤◌, List, [], ◌∷◌, ◌∙◌, arith}
use Rattle.std.specs.List.{fold}
use Rattle.chart.specs.Layout.{Layout}
use Rattle.chart.specs.Lookup.{width_of}
use Rattle.tariff.specs.Bytes.{capped, widths}

pub weighed : (l : Layout) (total : ℕ) (xs : List ℕ) → total ≤ 4294967295 → fold (λ t a. capped (t + width_of l a)) total xs ≡ capped (total + widths l xs)
weighed l total [] fits = omega arith
weighed l total (a ∷ xs) fits =
    weighed l (capped (total + width_of l a)) xs (omega arith) ∙ omega arith
