-- Whole runs of calls, at one tariff and with one set of buffers.
use Rattle.std.specs.Prelude.{◌≡◌, Bool, List, [], ◌∷◌, ◌++◌, length, drop, Option, Result, nat_le}
use Rattle.chart.specs.Questions.{asked}
use Rattle.chart.specs.Layout.{Layout}
use Rattle.tariff.specs.Pricing.{Pricing}
use Rattle.rules.specs.declared.view.RuleRecord.{RuleRecord}
use Rattle.policy.specs.Same.{Same}
use Rattle.policy.specs.Books.{entry_answer, entry_list, withdrawal_answer, withdrawal_list}
use Rattle.assignments.specs.declared.parts.Step.{Step}
use Rattle.assignments.specs.declared.parts.Place.{Place}
use Rattle.assignments.specs.declared.parts.Release.{Release}
use Rattle.queries.specs.declared.refusal.TreeRefusal.TheVariants.{Room}
use Rattle.planner.specs.declared.answer.QueryRefusal.{QueryRefusal}
use Rattle.planner.specs.declared.answer.QueryRefusal.TheVariants.{Tree}
use Rattle.planner.specs.Queries.{query_answer, work_after, plan_then, releases_then}
use Rattle.broker.specs.declared.run.Call.{Call}
use Rattle.broker.specs.declared.run.Call.TheVariants.{Enter, Withdraw, Query}
use Rattle.broker.specs.declared.run.Answer.{Answer}
use Rattle.broker.specs.declared.run.Answer.TheVariants.{Booked, Planned}
use Rattle.broker.specs.Reference.{Reading}
use Rattle.broker.specs.Histories.{Event, entered, withdrew, queried, Reached}

-- the reference broker's list of rules, with the three buffers that its queries are lent in turn
pub record State (P : Type 0) : Type 0 where
  pub rules : List RuleRecord
  pub work : List (Option (Place P))
  pub plan : List Step
  pub releases : List Release

-- the same buffers with another list of rules
abbrev pub with_rules : {P : Type 0} → State P → List RuleRecord → State P
with_rules s rules = record { rules = rules; work = s.work; plan = s.plan; releases = s.releases }

-- a state by its buffers, for any list of rules
abbrev pub state_by : {P : Type 0} → List (Option (Place P)) → List Step → List Release → List RuleRecord → State P
state_by work plan releases rules = record { rules = rules; work = work; plan = plan; releases = releases }

module _ {P : Type 0} (l : Layout) (fits : List RuleRecord → Bool) (reading : Reading) (c : Pricing P) where
  -- what the reference broker answers to a call, and its state after it
  abbrev pub answer_to : State P → Call → Answer P
  answer_to s (Enter r) = Booked (entry_answer l fits s.rules r)
  answer_to s (Withdraw n) = Booked (withdrawal_answer s.rules n)
  answer_to s (Query q) = Planned (query_answer c (reading s.rules) l q.now s.work s.plan s.releases)

  abbrev pub state_after : State P → Call → State P
  state_after s (Enter r) = with_rules s (entry_list l fits s.rules r)
  state_after s (Withdraw n) = with_rules s (withdrawal_list s.rules n)
  state_after s (Query q) = record {
    rules = s.rules;
    work = work_after c (reading s.rules) l q.now s.work s.plan s.releases;
    plan = plan_then c (reading s.rules) l q.now s.work s.plan s.releases;
    releases = releases_then c (reading s.rules) l q.now s.work s.plan s.releases;
  }

  -- the call, with that answer, as an event of a history
  abbrev pub event_of : State P → Call → Event
  event_of s (Enter r) = entered r (entry_answer l fits s.rules r)
  event_of s (Withdraw n) = withdrew n (withdrawal_answer s.rules n)
  event_of s (Query q) = queried q.now

  -- the same of calls in turn
  abbrev pub answers_to : State P → List Call → List (Answer P)
  answers_to s [] = []
  answers_to s (k ∷ ks) = answer_to s k ∷ answers_to (state_after s k) ks

  abbrev pub state_then : State P → List Call → State P
  state_then s [] = s
  state_then s (k ∷ ks) = state_then (state_after s k) ks

  abbrev pub events_of : State P → List Call → List Event
  events_of s [] = []
  events_of s (k ∷ ks) = event_of s k ∷ events_of (state_after s k) ks

  -- The calls were made from the state s, and led to these rules and buffers, as they lead the reference broker.
  pub record Led (old : List RuleRecord) (s : State P) (ks : List Call) (new : List RuleRecord) (work : List (Option (Place P))) (plan : List Step) (releases : List Release) : Type 0 where
    pub rules_then : Same new (state_then s ks).rules
    pub work_then : work ≡ (state_then s ks).work
    pub plan_then : plan ≡ (state_then s ks).plan
    pub releases_then : releases ≡ (state_then s ks).releases
    -- and every history that led to the start goes on with these calls and answers
    pub goes_on : (first : List RuleRecord) (t : List Event) → Reached l fits old first t → Reached l fits new first (t ++ events_of s ks)

-- A run: whatever list of the rules in force is taken, in any order, every answer is the reference broker's, in the first
-- places of the answers, and later places stay; so are the rules and the buffers after it.
pub record Ran {P : Type 0} (l : Layout) (fits : List RuleRecord → Bool) (reading : Reading) (c : Pricing P) (old : List RuleRecord) (s : List RuleRecord → State P) (ks : List Call)
    (before after : List (Answer P)) (new : List RuleRecord) (work : List (Option (Place P))) (plan : List Step) (releases : List Release) : Type 0 where
  pub answers : (rules : List RuleRecord) → Same old rules → after ≡ answers_to l fits reading c (s rules) ks ++ drop (length ks) before
  pub led : (rules : List RuleRecord) → Same old rules → Led l fits reading c old (s rules) ks new work plan releases

-- one call of a run, likewise
pub record Stepped {P : Type 0} (l : Layout) (fits : List RuleRecord → Bool) (reading : Reading) (c : Pricing P) (old : List RuleRecord) (s : List RuleRecord → State P) (k : Call)
    (a : Answer P) (new : List RuleRecord) (work : List (Option (Place P))) (plan : List Step) (releases : List Release) : Type 0 where
  pub answers : (rules : List RuleRecord) → Same old rules → a ≡ answer_to l fits reading c (s rules) k
  pub led : (rules : List RuleRecord) → Same old rules → Led l fits reading c old (s rules) (k ∷ []) new work plan releases

-- accepted where there is a place for each answer; else refused (35)
abbrev pub run_answer : {P : Type 0} → List Call → List (Answer P) → Result (Unit {0}) QueryRefusal
run_answer ks answers = asked ((nat_le (length ks) (length answers), Tree Room) ∷ []) tt
