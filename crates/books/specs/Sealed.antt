-- A list of rule records that is sealed: checked once, and then only read.
use Rattle.std.specs.Prelude.{ℕ, List, [], ◌∷◌, Ok, Err, Result}
use Rattle.chart.specs.Layout.{Layout}
use Rattle.rules.specs.declared.view.RuleRecord.{RuleRecord}
use Rattle.policy.specs.declared.refusal.BookRefusal.{BookRefusal}
use Rattle.policy.specs.Books.{entry_answer}
use Rattle.books.specs.declared.fault.Fault.{Fault}
use Rattle.books.specs.Slots.{exact_fits}

-- a refusal with its rule's number, or else what comes after
abbrev pub or_else : Result (Unit {0}) BookRefusal → ℕ → Result (Unit {0}) Fault → Result (Unit {0}) Fault
or_else (Ok t) n rest = rest
or_else (Err e) n rest = Err (record { number = n; refusal = e })

-- The records are entered one after another into an exact book that holds these rules: the first refusal is the answer.
abbrev pub entered_from : Layout → List RuleRecord → List RuleRecord → Result (Unit {0}) Fault
entered_from l rules [] = Ok tt
entered_from l rules (r ∷ rs) = or_else (entry_answer l exact_fits rules r) r.number (entered_from l (r ∷ rules) rs)

-- the check of a sealed list: as if entered in an empty exact book
abbrev pub sealed_answer : Layout → List RuleRecord → Result (Unit {0}) Fault
sealed_answer l records = entered_from l [] records

-- the rules of a sealed list: its records, or none where the check refuses them
abbrev pub sealed_if : Result (Unit {0}) Fault → List RuleRecord → List RuleRecord
sealed_if (Ok t) records = records
sealed_if (Err f) records = []

abbrev pub sealed_rules : Layout → List RuleRecord → List RuleRecord
sealed_rules l records = sealed_if (sealed_answer l records) records
