-- Slots for rules, each free or taken.
use Rattle.std.specs.Prelude.{◌≡◌, ℕ, ◌<◌, Bool, not, List, [], ◌∷◌, length, is_some, Some, None, Option, nat_le, slice_index_or}
use Rattle.rules.specs.declared.view.RuleRecord.{RuleRecord}
use Rattle.policy.specs.Books.{in_force}
use Rattle.rules.specs.declared.rule.Rule.{Rule}

-- the rules that the slots hold
abbrev pub held : List (Option Rule) → List RuleRecord
held [] = []
held (None ∷ slots) = held slots
held (Some r ∷ slots) = r.given ∷ held slots

-- whether a slot holds the rule of number n; whether it is free
abbrev pub numbered : ℕ → Option Rule → Bool
numbered n slot = in_force n (held (slot ∷ []))

abbrev pub is_free : Option Rule → Bool
is_free slot = not (is_some slot)

-- slot i holds the rule of number n
pub record Holds (slots : List (Option Rule)) (i n : ℕ) : Type 0 where
  pub within : i < length slots
  pub rule : Rule
  pub there : slice_index_or slots i None ≡ Some rule
  pub named : rule.given.number ≡ n

-- slot i is free
pub record Free (slots : List (Option Rule)) (i : ℕ) : Type 0 where
  pub within : i < length slots
  pub empty : slice_index_or slots i None ≡ None

-- at most 64 rules fit
abbrev pub exact_fits : List RuleRecord → Bool
exact_fits rules = nat_le (length rules) 64
