-- The calls of a broker, for every history that led to them.
use Rattle.std.proofs.Common.{◌≡◌, ℕ, Bool, true, List, [], ◌∷◌, ◌++◌, is_ok, Option, Result, ap, ◌∙◌, subst}
use Rattle.std.specs.List.{list_all}
use mathlib.Core.Path.{fun_ext}
use Rattle.std.proofs.lemmas.Bool.Decides.{Decides-like}
use Rattle.chart.specs.declared.state.Chart.{Chart}
use Rattle.chart.specs.Charts.{layout}
use Rattle.chart.specs.Layout.{Layout}
use Rattle.profile.specs.declared.shape.Profile.{Profile}
use Rattle.tariff.specs.Pricing.{Pricing}
use Rattle.queries.specs.declared.node.Node.{Node}
use Rattle.rules.specs.declared.view.RuleRecord.{RuleRecord}
use Rattle.rules.specs.Rules.{well_formed}
use Rattle.policy.specs.Same.{Same, chain}
use Rattle.policy.specs.Lawful.{Lawful}
use Rattle.policy.specs.Books.{apart, entry_answer, entry_list, withdrawal_answer, withdrawal_list}
use Rattle.policy.proofs.Orders.{same_refl}
use Rattle.assignments.specs.declared.parts.Step.{Step}
use Rattle.assignments.specs.declared.parts.Place.{Place}
use Rattle.assignments.specs.declared.parts.Release.{Release}
use Rattle.planner.specs.declared.answer.Planned.{Planned}
use Rattle.planner.specs.declared.answer.QueryRefusal.{QueryRefusal}
use Rattle.planner.specs.Queries.{query_answer, work_after, plan_then, releases_then}
use Rattle.planner.specs.Judged.{Judged}
use Rattle.broker.specs.Reference.{Reading, Queried}
use Rattle.broker.specs.Histories.{Answer, Event, entered, withdrew, queried, Reached}
use Rattle.broker.specs.Calls.{GoesOn, Enters, Withdraws, Judges}
use Rattle.broker.proofs.Replay.{entry_answer_same, entry_list_same, withdrawal_answer_same, withdrawal_list_same, reached_push}
use Rattle.broker.proofs.Standings.{in_force_stands, stands_in_force, standing_same}
use Rattle.broker.specs.Alike.{JudgedAlike}
use Rattle.broker.proofs.Members.{same_from_members}
use Rattle.broker.proofs.Accepted.{entry_accepted, withdrawal_accepted}

-- a broker just opened
pub opened : (l : Layout) (fits : List RuleRecord → Bool) (rules : List RuleRecord) → Reached l fits rules rules []
opened l fits rules = record { answered = tt; led_to = same_refl rules }

module _ (l : Layout) (fits : List RuleRecord → Bool) (old new : List RuleRecord) (distinct : apart old ≡ true) where
  going_on : (h : Event) (first : List RuleRecord) (t : List Event) → Reached l fits old first t → Reached l fits new first (t ++ h ∷ []) → GoesOn l fits old new h first t
  going_on h first t was then = record { reached = then; in_force_stands = in_force_stands l fits old first t was; stands_in_force = stands_in_force l fits old first t was }

  pub enters : ((xs ys : List RuleRecord) → Same xs ys → fits xs ≡ fits ys) → list_all (well_formed l) new ≡ true → (r : RuleRecord) (a : Answer) → a ≡ entry_answer l fits old r → Same new (entry_list l fits old r)
      → Enters l fits old new r a
  enters alike formed r a e s = record {
    answers = λ rules h. e ∙ entry_answer_same l fits alike r h;
    rules_then = λ rules h. chain s (entry_list_same l fits alike r h);
    formed = formed;
    goes_on = λ first t was.
        going_on (entered r a) first t was
        (reached_push l fits new first t (entered r a) was.answered (e ∙ entry_answer_same l fits alike r was.led_to) (chain s (entry_list_same l fits alike r was.led_to)));
    by_standing = λ first t rules was st. e ∙ entry_answer_same l fits alike r (standing_same l fits old first t was rules distinct st);
    accepted = λ first t rules was st.
        let d = entry_accepted l fits rules r a (e ∙ entry_answer_same l fits alike r (standing_same l fits old first t was rules distinct st)) in
        Decides-like (is_ok a) (λ h. (h.0, λ q k. h.1 q (st.all q k), h.2)) (λ h. (h.0, λ q k. h.1 q (st.only q k), h.2)) d;
  }

  pub withdrawing : list_all (well_formed l) new ≡ true → (n : ℕ) (a : Answer) → a ≡ withdrawal_answer old n → Same new (withdrawal_list old n) → Withdraws l fits old new n a
  withdrawing formed n a e s = record {
    answers = λ rules h. e ∙ withdrawal_answer_same n h;
    rules_then = λ rules h. chain s (withdrawal_list_same n h);
    formed = formed;
    goes_on = λ first t was.
        going_on (withdrew n a) first t was
        (reached_push l fits new first t (withdrew n a) was.answered (e ∙ withdrawal_answer_same n was.led_to) (chain s (withdrawal_list_same n was.led_to)));
    by_standing = λ first t rules was st. e ∙ withdrawal_answer_same n (standing_same l fits old first t was rules distinct st);
    accepted = λ first t was.
        let d = withdrawal_accepted old n a e in
        Decides-like (is_ok a) (λ h. (h.0, in_force_stands l fits old first t was h.0 h.1, h.2)) (λ h. (h.0, stands_in_force l fits old first t was h.0 h.1, h.2)) d;
  }

-- the reading of rules in force, in any order
reading_same : (chart : Chart) (rules : List RuleRecord) (reading : Reading) → Lawful chart rules reading → (same : List RuleRecord) → Same rules same → reading rules ≡ reading same
reading_same chart rules reading lawful same h = fun_ext (λ s. fun_ext (λ p. lawful.order rules same h s p))

pub judging : {P : Type 0} (chart : Chart) (fits : List RuleRecord → Bool) (rules : List RuleRecord) (reading : Reading) → Lawful chart rules reading
    → (c : Pricing P) (nodes : List Node) (work work' : List (Option (Place P))) (plan plan' : List Step) (releases releases' : List Release) (r : Result (Planned P) QueryRefusal)
    → Queried (layout chart) reading rules c nodes work work' plan plan' releases releases' r → Judged c (reading rules) (layout chart) nodes work' plan' releases' r
    → Judges (layout chart) fits reading rules c nodes work work' plan plan' releases releases' r
judging chart fits rules reading lawful c nodes work work' plan plan' releases releases' r q j = record {
  answers = answers;
  judged = judged;
  formed = lawful.formed;
  goes_on = λ first t was. record {
    reached = reached_push l fits rules first t (queried nodes) was.answered tt was.led_to;
    in_force_stands = in_force_stands l fits rules first t was;
    stands_in_force = stands_in_force l fits rules first t was;
  };
  by_standing = λ first t standing was st. let s = standing_same l fits rules first t was standing lawful.distinct st in (answers standing s, judged standing s);
}
  where
    l : Layout
    l = layout chart

    answers : (same : List RuleRecord) → Same rules same → Queried (layout chart) reading same c nodes work work' plan plan' releases releases' r
    answers same h =
        let e = reading_same chart rules reading lawful same h in
        record {
          answers = q.answers ∙ ap (λ (may : ℕ → Profile → Bool). query_answer c may (layout chart) nodes work plan releases) e;
          table = q.table ∙ ap (λ (may : ℕ → Profile → Bool). work_after c may (layout chart) nodes work plan releases) e;
          steps = q.steps ∙ ap (λ (may : ℕ → Profile → Bool). plan_then c may (layout chart) nodes work plan releases) e;
          list = q.list ∙ ap (λ (may : ℕ → Profile → Bool). releases_then c may (layout chart) nodes work plan releases) e;
        }

    judged : (same : List RuleRecord) → Same rules same → Judged c (reading same) (layout chart) nodes work' plan' releases' r
    judged same h = subst (λ (may : ℕ → Profile → Bool). Judged c may (layout chart) nodes work' plan' releases' r) (reading_same chart rules reading lawful same h) j

-- the same standing rules, the same judgment
pub alike : {P : Type 0} (chart chart' : Chart) (fits fits' : List RuleRecord → Bool) (reading reading' : Reading) (rules rules' : List RuleRecord) (c : Pricing P)
    → Lawful chart rules reading → Lawful chart' rules' reading' → JudgedAlike chart chart' fits fits' reading reading' rules rules' c
alike chart chart' fits fits' reading reading' rules rules' c lawful lawful' first first' t t' was was' to from one_chart one_reading nodes work plan releases =
    let same = same_from_members rules rules' lawful.distinct lawful'.distinct
    (λ r h. stands_in_force (layout chart') fits' rules' first' t' was' r (to r (in_force_stands (layout chart) fits rules first t was r h)))
    (λ r h. stands_in_force (layout chart) fits rules first t was r (from r (in_force_stands (layout chart') fits' rules' first' t' was' r h))) in
    let e : reading rules ≡ reading' rules' = reading_same chart rules reading lawful rules' same ∙ ap (λ (x : Reading). x rules') one_reading in
    record {
      answers = ap (λ (may : ℕ → Profile → Bool). query_answer c may (layout chart) nodes work plan releases) e;
      table = ap (λ (may : ℕ → Profile → Bool). work_after c may (layout chart) nodes work plan releases) e;
      steps = ap (λ (may : ℕ → Profile → Bool). plan_then c may (layout chart) nodes work plan releases) e;
      list = ap (λ (may : ℕ → Profile → Bool). releases_then c may (layout chart) nodes work plan releases) e;
    }
