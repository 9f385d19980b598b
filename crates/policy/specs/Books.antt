-- What a book answers to entries and withdrawals, and the rules then in force.
use Rattle.std.specs.Prelude.{ℕ, Bool, true, not, ◌&&◌, List, [], ◌∷◌, Ok, Err, filter, Result, ◌==◌, nat_eq}
use Rattle.std.specs.List.{list_any}
use Rattle.chart.specs.Questions.{asked}
use Rattle.chart.specs.Layout.{Layout}
use Rattle.rules.specs.declared.view.RuleRecord.{RuleRecord}
use Rattle.rules.specs.declared.refusal.RuleRefusal.{RuleRefusal}
use Rattle.rules.specs.Rules.{rule_answer}
use Rattle.policy.specs.declared.refusal.BookRefusal.{BookRefusal}
use Rattle.policy.specs.declared.refusal.BookRefusal.TheVariants.{Rule, InForce, Full, NotInForce}

-- whether a rule of this number is in force
abbrev pub in_force : ℕ → List RuleRecord → Bool
in_force n rules = list_any (λ r. nat_eq r.number n) rules

-- no two rules share a number
abbrev pub apart : List RuleRecord → Bool
apart [] = true
apart (r ∷ rules) = not (in_force r.number rules) && apart rules

-- The questions of a book alone: is the number free (24)? Does the longer list fit (25)?
abbrev pub place_answer : (List RuleRecord → Bool) → List RuleRecord → RuleRecord → Result (Unit {0}) BookRefusal
place_answer fits rules r = asked (
    (not (in_force r.number rules), InForce) ∷
    (fits (r ∷ rules), Full) ∷ []) tt

-- the first refusal of the rule's own questions, or else the second answer
abbrev pub own_first : Result RuleRecord RuleRefusal → Result (Unit {0}) BookRefusal → Result (Unit {0}) BookRefusal
own_first (Ok r) answer = answer
own_first (Err e) answer = Err (Rule e)

-- An entry is asked the rule's own questions (20 to 23), then those of the book (24 and 25).
abbrev pub entry_answer : Layout → (List RuleRecord → Bool) → List RuleRecord → RuleRecord → Result (Unit {0}) BookRefusal
entry_answer l fits rules r = own_first (rule_answer l r) (place_answer fits rules r)

-- after an accepted call the second list is in force, after a refused one the first
abbrev pub rules_after : Result (Unit {0}) BookRefusal → List RuleRecord → List RuleRecord → List RuleRecord
rules_after (Ok t) old new = new
rules_after (Err e) old new = old

abbrev pub entry_list : Layout → (List RuleRecord → Bool) → List RuleRecord → RuleRecord → List RuleRecord
entry_list l fits rules r = rules_after (entry_answer l fits rules r) rules (r ∷ rules)

-- A withdrawal is refused unless the number is in force (26); else that rule leaves.
abbrev pub withdrawal_answer : List RuleRecord → ℕ → Result (Unit {0}) BookRefusal
withdrawal_answer rules n = asked ((in_force n rules, NotInForce) ∷ []) tt

abbrev pub withdrawal_list : List RuleRecord → ℕ → List RuleRecord
withdrawal_list rules n = filter (λ r. not (r.number == n)) rules
