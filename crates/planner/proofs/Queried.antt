-- A query by the answer of its check.
use Rattle.std.proofs.Common.{◌≡◌, ℕ, ◌*◌, ◌≤◌, Bool, true, false, cond, ◌&&◌, leb, List, length, Ok, Err, Option, Result, sym, refl, ap, ◌∙◌, subst}
use Rattle.std.proofs.lemmas.Bool.{cond-true, and_from, le-leb}
use Rattle.chart.specs.Layout.{Layout}
use Rattle.chart.specs.Sound as chart
use Rattle.profile.specs.declared.shape.Profile.{Profile}
use Rattle.tariff.specs.Pricing.{Pricing, Lawful}
use Rattle.queries.specs.declared.node.Node.{Node}
use Rattle.queries.specs.declared.refusal.TreeRefusal.{TreeRefusal}
use Rattle.queries.specs.declared.refusal.TreeRefusal.TheVariants.{Count, Room}
use Rattle.queries.specs.Questions.{count_fits, tree_questions, answered, tree_answer}
use Rattle.queries.specs.Sound.{Sound}
use Rattle.assignments.specs.declared.parts.Step.{Step}
use Rattle.assignments.specs.declared.parts.Place.{Place}
use Rattle.assignments.specs.declared.parts.Release.{Release}
use Rattle.search.specs.Rows.{Filled}
use Rattle.search.specs.Outcomes.{Outcome, outcome_of, search_answer}
use Rattle.planner.specs.declared.answer.Planned.{Planned}
use Rattle.planner.specs.declared.answer.QueryRefusal.{QueryRefusal}
use Rattle.planner.specs.Queries.{room_fits, query_check, once_checked, table_filled, answer_by, plan_by, releases_by, answer_from, checked, query_answer, work_after, plan_then, releases_then}
use Rattle.planner.specs.Judged.{Judged, BlockedAt}
use Rattle.planner.proofs.Verdicts.{seated_by, blocked_by, blocked_at, planned_by}

-- a tree that the search accepts passes every question of its own
pub tree_accepted : (l : Layout) (nodes : List Node) (w : ℕ) → Ok tt ≡ search_answer l nodes w → tree_answer l nodes ≡ Ok tt
tree_accepted l nodes w h = go (count_fits nodes) (leb (length nodes * l.servers) w) (answered (tree_questions l nodes)) h
  where
    go : (a b : Bool) (r : Result (Unit {0}) TreeRefusal) → Ok tt ≡ cond a (cond b r (Err Room)) (Err Count) → cond a r (Err Count) ≡ Ok tt
    go true true r k = sym k
    go true false r k = cc
    go false b r k = cc

-- the check of a query: its count, the room in its buffers, its nodes
module _ (l : Layout) (nodes : List Node) (w p z : ℕ) where
  module _ (fit : count_fits nodes ≡ true) where
    counted : query_check l nodes w p z ≡ cond (room_fits l nodes w p z) (answered (tree_questions l nodes)) (Err Room)
    counted = cond-true (count_fits nodes) (cond (room_fits l nodes w p z) (answered (tree_questions l nodes)) (Err Room)) (Err Count) fit

    -- with room for the plan and the releases, the check is that of the search
    pub as_searched : length nodes ≤ p → length nodes ≤ z → query_check l nodes w p z ≡ search_answer l nodes w
    as_searched hp hz =
        counted ∙ go (leb (length nodes * l.servers) w)
        ∙ sym (cond-true (count_fits nodes) (cond (leb (length nodes * l.servers) w) (answered (tree_questions l nodes)) (Err Room)) (Err Count) fit)
      where
        both : (leb (length nodes) p && leb (length nodes) z) ≡ true
        both = and_from (leb (length nodes) p) (leb (length nodes) z) (le-leb (length nodes) p hp) (le-leb (length nodes) z hz)

        go : (b : Bool) → cond (b && (leb (length nodes) p && leb (length nodes) z)) (answered (tree_questions l nodes)) (Err Room) ≡ cond b (answered (tree_questions l nodes)) (Err Room)
        go true = ap (λ (b : Bool). cond b (answered (tree_questions l nodes)) (Err Room)) both
        go false = refl

module _ {P : Type 0} (c : Pricing P) (may : ℕ → Profile → Bool) (l : Layout) (nodes : List Node) (work : List (Option (Place P))) (plan : List Step) (releases : List Release) where
  -- an accepted one: what the search found decides
  pub record Accepted : Type 0 where
    pub answer : answer_by c may l nodes (outcome_of c may l nodes) ≡ query_answer c may l nodes work plan releases
    pub filled : table_filled c may l nodes work ≡ work_after c may l nodes work plan releases
    pub planned : plan_by c may l nodes (outcome_of c may l nodes) plan ≡ plan_then c may l nodes work plan releases
    pub listed : releases_by c may l nodes (outcome_of c may l nodes) releases ≡ releases_then c may l nodes work plan releases

  pub accepted_by : checked c may l nodes work plan releases ≡ Ok tt → Accepted
  accepted_by h =
      let o = outcome_of c may l nodes in
      record {
        answer = sym (ap (λ (k : Result (Unit {0}) TreeRefusal). answer_from c may l nodes k o) h);
        filled = sym (ap (λ (k : Result (Unit {0}) TreeRefusal). once_checked k work (table_filled c may l nodes work)) h);
        planned = sym (ap (λ (k : Result (Unit {0}) TreeRefusal). once_checked k plan (plan_by c may l nodes o plan)) h);
        listed = sym (ap (λ (k : Result (Unit {0}) TreeRefusal). once_checked k releases (releases_by c may l nodes o releases)) h);
      }

  module _ (lawful : Lawful c) (charted : chart.Sound l) (sound : Sound l nodes) (new : List (Option (Place P))) (filled : Filled c may l nodes (length nodes) work new) (long : length nodes ≤ length plan) where
    judged_as : (o : Outcome P) → outcome_of c may l nodes ≡ o → Judged c may l nodes new (plan_by c may l nodes o plan) (releases_by c may l nodes o releases) (answer_by c may l nodes o)
    judged_as (Ok q) h = planned_by c lawful may l charted nodes sound q (seated_by c lawful may l charted nodes sound q h) work new filled plan long releases
    judged_as (Err k) h =
        let b = blocked_by c lawful may l charted nodes sound k h in
        subst (λ (j : ℕ). BlockedAt c may l nodes new j) b.1 (blocked_at c lawful may l charted nodes sound b.0 work new filled)

    pub judged_by : (w : List (Option (Place P))) (p : List Step) (z : List Release) (r : Result (Planned P) QueryRefusal) → w ≡ new
        → p ≡ plan_by c may l nodes (outcome_of c may l nodes) plan → z ≡ releases_by c may l nodes (outcome_of c may l nodes) releases → r ≡ answer_by c may l nodes (outcome_of c may l nodes)
        → Judged c may l nodes w p z r
    judged_by w p z r ew ep ez er =
        let o = outcome_of c may l nodes in
        subst (λ (v : Result (Planned P) QueryRefusal). Judged c may l nodes w p z v) (sym er)
        (subst (λ (v : List Release). Judged c may l nodes w p v (answer_by c may l nodes o)) (sym ez)
        (subst (λ (v : List Step). Judged c may l nodes w v (releases_by c may l nodes o releases) (answer_by c may l nodes o)) (sym ep)
        (subst (λ (v : List (Option (Place P))). Judged c may l nodes v (plan_by c may l nodes o plan) (releases_by c may l nodes o releases) (answer_by c may l nodes o)) (sym ew)
        (judged_as o refl))))
