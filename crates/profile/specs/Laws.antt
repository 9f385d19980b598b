-- What orienting a link means.
use Rattle.std.specs.Prelude.{◌≡◌, ℕ, true, ◌⊎◌, Some, None, ◌≢◌}
use Rattle.sets.specs.declared.small_set.SmallSet.{SmallSet}
use Rattle.sets.specs.Sets.{has}
use Rattle.sets.specs.Laws.{Within}
use Rattle.chart.specs.Layout.{Layout}
use Rattle.chart.specs.Lookup.{ends_of}
use Rattle.profile.specs.Joins.{orient_answer}

-- a and b are the two ends of a link; the left operand shows all of a, the right operand all of b
pub record Fits (ends : SmallSet × SmallSet) (left right a b : SmallSet) : Type 0 where
  pub ends_are : ((a ≡ ends.0) × (b ≡ ends.1)) ⊎ ((a ≡ ends.1) × (b ≡ ends.0))
  pub on_left : Within a left
  pub on_right : Within b right

-- two operands that show no attribute in common
abbrev pub Apart : SmallSet → SmallSet → Type 0
Apart left right = (i : ℕ) → has left i ≡ true → has right i ≢ true

pub record Laws : Type 0 where
  -- a link that is not known has no ends
  pub unknown : (l : Layout) (left right : SmallSet) (link : ℕ) → ends_of l link ≡ None → orient_answer l left right link ≡ None
  -- the ends answered fit the operands, and where none are answered no ends fit
  pub answered : (l : Layout) (left right : SmallSet) (link : ℕ) (ends : SmallSet × SmallSet) (a b : SmallSet)
      → ends_of l link ≡ Some ends → orient_answer l left right link ≡ Some (a, b) → Fits ends left right a b
  pub refused : (l : Layout) (left right : SmallSet) (link : ℕ) (ends : SmallSet × SmallSet) (a b : SmallSet)
      → ends_of l link ≡ Some ends → orient_answer l left right link ≡ None → Fits ends left right a b → ⊥
  -- operands that show nothing in common leave one way round at most
  pub one_way : (l : Layout) (left right : SmallSet) (link : ℕ) (ends : SmallSet × SmallSet) (a b c d : SmallSet)
      → ends_of l link ≡ Some ends → Apart left right → Fits ends left right a b → Fits ends left right c d → (a ≡ c) × (b ≡ d)
