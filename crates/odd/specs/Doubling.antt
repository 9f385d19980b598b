-- Prices that are joined by doubling the first.
use Rattle.std.specs.Prelude.{ℕ, ◌+◌, min, nat_le}
use Rattle.tariff.specs.Pricing.{Pricing}
use Rattle.odd.specs.declared.doubling.Doubled.{Doubled}

-- a cost stops at 4,294,967,295 instead of passing it
abbrev pub capped : ℕ → ℕ
capped n = min n 4294967295

-- twice the first cost and the second, with the second mark; only costs are compared; a release costs the base and its receiver's
-- number, and is marked by its sender
abbrev pub doubling : ℕ → Pricing Doubled
doubling base = record {
  free = record { cost = 0; mark = 0 };
  sum = λ x y. record { cost = capped (capped (x.cost + x.cost) + y.cost); mark = y.mark };
  leq = λ x y. nat_le x.cost y.cost;
  release = λ sender receiver p. record { cost = base + receiver; mark = sender };
}
