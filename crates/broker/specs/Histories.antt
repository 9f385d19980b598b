-- Histories of calls, and which rules stand after one.
use Rattle.std.specs.Prelude.{◌≡◌, ℕ, Bool, true, false, ◌⊎◌, List, [], ◌∷◌, Ok, Err, Result, ◌==◌}
use Rattle.std.specs.List.{list_any}
use Rattle.chart.specs.Layout.{Layout}
use Rattle.queries.specs.declared.node.Node.{Node}
use Rattle.rules.specs.declared.view.RuleRecord.{RuleRecord}
use Rattle.policy.specs.declared.refusal.BookRefusal.{BookRefusal}
use Rattle.policy.specs.Same.{Same}
use Rattle.policy.specs.Books.{apart, entry_answer, entry_list, withdrawal_answer, withdrawal_list}

-- whether an entry or a withdrawal was accepted, and why not
abbrev pub Answer : Type 0
Answer = Result (Unit {0}) BookRefusal

-- A call that was made, with its answer; of a query only that it was made, since no list of rules depends on it.
pub data Event : Type 0 where
  entered : RuleRecord → Answer → Event
  withdrew : ℕ → Answer → Event
  queried : List Node → Event

-- r is one of the list
abbrev pub Among : RuleRecord → List RuleRecord → Type 0
Among r [] = ⊥
Among r (x ∷ xs) = (r ≡ x) ⊎ Among r xs

-- an accepted withdrawal of this number
abbrev pub withdraws : ℕ → Event → Bool
withdraws n (entered r a) = false
withdraws n (withdrew m (Ok t)) = m == n
withdraws n (withdrew m (Err e)) = false
withdraws n (queried nodes) = false

abbrev pub withdrawn : ℕ → List Event → Bool
withdrawn n t = list_any (withdraws n) t

-- an accepted entry of r, and no accepted withdrawal of its number after it
abbrev pub Entered : RuleRecord → List Event → Type 0
Entered r [] = ⊥
Entered r (h ∷ t) = ((h ≡ entered r (Ok tt)) × (withdrawn r.number t ≡ false)) ⊎ Entered r t

-- A rule stands after a history if it was there at opening or was put there by an accepted entry, and its number has not been
-- withdrawn since. It is told from the calls and their answers alone.
abbrev pub Stands : List RuleRecord → List Event → RuleRecord → Type 0
Stands first t r = (Among r first × (withdrawn r.number t ≡ false)) ⊎ Entered r t

-- a list of just the standing rules, in any order, no two of one number
pub record Standing (first : List RuleRecord) (t : List Event) (rules : List RuleRecord) : Type 0 where
  pub distinct : apart rules ≡ true
  pub only : (r : RuleRecord) → Among r rules → Stands first t r
  pub all : (r : RuleRecord) → Stands first t r → Among r rules

module _ (l : Layout) (fits : List RuleRecord → Bool) where
  -- the reference broker's list after one call, and after a history
  abbrev pub next : List RuleRecord → Event → List RuleRecord
  next rules (entered r a) = entry_list l fits rules r
  next rules (withdrew n a) = withdrawal_list rules n
  next rules (queried nodes) = rules

  abbrev pub replayed : List RuleRecord → List Event → List RuleRecord
  replayed rules [] = rules
  replayed rules (h ∷ t) = replayed (next rules h) t

  -- the answer of a call is the reference broker's
  abbrev pub Answered : List RuleRecord → Event → Type 0
  Answered rules (entered r a) = a ≡ entry_answer l fits rules r
  Answered rules (withdrew n a) = a ≡ withdrawal_answer rules n
  Answered rules (queried nodes) = Unit {0}

  abbrev pub AllAnswered : List RuleRecord → List Event → Type 0
  AllAnswered rules [] = Unit {0}
  AllAnswered rules (h ∷ t) = Answered rules h × AllAnswered (next rules h) t

  -- The rules in force are what the history led to from the list at opening: fed its calls, the reference broker gives just
  -- its answers, and ends with these rules, in some order.
  pub record Reached (rules first : List RuleRecord) (t : List Event) : Type 0 where
    pub answered : AllAnswered first t
    pub led_to : Same rules (replayed first t)
