-- What a tariff means: a kind of price, and what each release costs.
use Rattle.std.specs.Prelude.{◌≡◌, ℕ, Bool, true, ◌||◌}
use Rattle.profile.specs.declared.shape.Profile.{Profile}

pub record Pricing (P : Type 0) : Type 0 where
  -- the price of nothing
  pub free : P
  -- two prices joined
  pub sum : P → P → P
  -- whether the first price is at most the second; prices that are at most each other may differ
  pub leq : P → P → Bool
  -- the price of a release: sender, receiver, profile
  pub release : ℕ → ℕ → Profile → P

-- The laws of every tariff, as one record: the comparison is total and transitive, and joining an equal or dearer price
-- on either side never gives a cheaper sum.
pub record Lawful {P : Type 0} (c : Pricing P) : Type 0 where
  pub total : (x y : P) → (c.leq x y || c.leq y x) ≡ true
  pub transitive : (x y z : P) → c.leq x y ≡ true → c.leq y z ≡ true → c.leq x z ≡ true
  pub left : (x y z : P) → c.leq x y ≡ true → c.leq (c.sum x z) (c.sum y z) ≡ true
  pub right : (x y z : P) → c.leq x y ≡ true → c.leq (c.sum z x) (c.sum z y) ≡ true
