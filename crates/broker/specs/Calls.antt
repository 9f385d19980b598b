-- What the calls of a broker keep, for every history that led to them.
use Rattle.std.specs.Prelude.{◌≡◌, ℕ, Bool, true, List, [], ◌∷◌, ◌++◌, is_ok, Decides, Option, Result, ◌≢◌}
use Rattle.std.specs.List.{list_all}
use Rattle.chart.specs.Layout.{Layout}
use Rattle.tariff.specs.Pricing.{Pricing}
use Rattle.queries.specs.declared.node.Node.{Node}
use Rattle.rules.specs.declared.view.RuleRecord.{RuleRecord}
use Rattle.rules.specs.Rules.{well_formed}
use Rattle.policy.specs.Same.{Same}
use Rattle.policy.specs.Books.{entry_answer, entry_list, withdrawal_answer, withdrawal_list}
use Rattle.assignments.specs.declared.parts.Step.{Step}
use Rattle.assignments.specs.declared.parts.Place.{Place}
use Rattle.assignments.specs.declared.parts.Release.{Release}
use Rattle.planner.specs.declared.answer.Planned.{Planned}
use Rattle.planner.specs.declared.answer.QueryRefusal.{QueryRefusal}
use Rattle.planner.specs.Judged.{Judged}
use Rattle.broker.specs.Reference.{Reading, Queried}
use Rattle.broker.specs.Histories.{Answer, Event, entered, withdrew, queried, Among, Stands, Standing, Reached}

module _ (l : Layout) (fits : List RuleRecord → Bool) where
  -- after one more call the history is longer by it, and before it the rules in force are just those that stand
  pub record GoesOn (old new : List RuleRecord) (h : Event) (first : List RuleRecord) (t : List Event) : Type 0 where
    pub reached : Reached l fits new first (t ++ h ∷ [])
    pub in_force_stands : (r : RuleRecord) → Among r old → Stands first t r
    pub stands_in_force : (r : RuleRecord) → Stands first t r → Among r old

  -- An entry: whatever list of the rules in force is taken, in any order, the answer and the next list are the reference
  -- broker's; and so for the standing rules of every history.
  pub record Enters (old new : List RuleRecord) (r : RuleRecord) (a : Answer) : Type 0 where
    pub answers : (rules : List RuleRecord) → Same old rules → a ≡ entry_answer l fits rules r
    pub rules_then : (rules : List RuleRecord) → Same old rules → Same new (entry_list l fits rules r)
    pub formed : list_all (well_formed l) new ≡ true
    pub goes_on : (first : List RuleRecord) (t : List Event) → Reached l fits old first t → GoesOn old new (entered r a) first t
    pub by_standing : (first : List RuleRecord) (t : List Event) (rules : List RuleRecord) → Reached l fits old first t → Standing first t rules → a ≡ entry_answer l fits rules r
    -- accepted just where the rule passes its questions, no standing rule has its number, and the standing rules with it fit
    pub accepted : (first : List RuleRecord) (t : List Event) (rules : List RuleRecord) → Reached l fits old first t → Standing first t rules
        → Decides (is_ok a) ((well_formed l r ≡ true) × ((q : RuleRecord) → Stands first t q → q.number ≢ r.number) × (fits (r ∷ rules) ≡ true))

  -- a withdrawal, likewise
  pub record Withdraws (old new : List RuleRecord) (n : ℕ) (a : Answer) : Type 0 where
    pub answers : (rules : List RuleRecord) → Same old rules → a ≡ withdrawal_answer rules n
    pub rules_then : (rules : List RuleRecord) → Same old rules → Same new (withdrawal_list rules n)
    pub formed : list_all (well_formed l) new ≡ true
    pub goes_on : (first : List RuleRecord) (t : List Event) → Reached l fits old first t → GoesOn old new (withdrew n a) first t
    pub by_standing : (first : List RuleRecord) (t : List Event) (rules : List RuleRecord) → Reached l fits old first t → Standing first t rules → a ≡ withdrawal_answer rules n
    -- accepted just where a standing rule has the number
    pub accepted : (first : List RuleRecord) (t : List Event) → Reached l fits old first t
        → Decides (is_ok a) ((q : RuleRecord) × Stands first t q × (q.number ≡ n))

  -- A query: the answer and every buffer are the reference broker's, for the rules in force in any order, and for the standing
  -- rules of every history; by the same rules the answer says of the safe assignments what it should.
  pub record Judges {P : Type 0} (reading : Reading) (rules : List RuleRecord) (c : Pricing P) (nodes : List Node) (work work' : List (Option (Place P)))
      (plan plan' : List Step) (releases releases' : List Release) (r : Result (Planned P) QueryRefusal) : Type 0 where
    pub answers : (same : List RuleRecord) → Same rules same → Queried l reading same c nodes work work' plan plan' releases releases' r
    pub judged : (same : List RuleRecord) → Same rules same → Judged c (reading same) l nodes work' plan' releases' r
    pub formed : list_all (well_formed l) rules ≡ true
    pub goes_on : (first : List RuleRecord) (t : List Event) → Reached l fits rules first t → GoesOn rules rules (queried nodes) first t
    pub by_standing : (first : List RuleRecord) (t : List Event) (standing : List RuleRecord) → Reached l fits rules first t → Standing first t standing
        → Queried l reading standing c nodes work work' plan plan' releases releases' r × Judged c (reading standing) l nodes work' plan' releases' r
