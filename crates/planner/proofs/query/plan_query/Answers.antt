use Rattle.std.proofs.Common.{◌≡◌, true, length, Ok, sym, ap, ◌∙◌, subst}
use Rattle.chart.specs.Layout.{Layout}
use Rattle.chart.specs.declared.state.Chart.{Chart}
use Rattle.chart.specs.Charts.{layout}
use Rattle.chart.proofs.Sound.{chart_sound}
use Rattle.queries.specs.Questions.{count_fits, tree_answer, node_profile}
use Rattle.search.specs.Rows.{Filled}
use Rattle.search.specs.Outcomes.{Outcome, outcome_of}
use Rattle.planner.specs.Queries.{AnsweredBy, answer_by, plan_by, releases_by}
use Rattle.planner.proofs.Buffers.{table_is}
use Rattle.planner.proofs.Queried.{as_searched, accepted_by, judged_by, tree_accepted}
use Rattle.planner.proofs.query.plan_query.Goals as goal

pub returns : goal.returns
returns g c =
    let l = layout (g.P.Policy.charted c.args.policy.now) in
    let may = g.P.Policy.reading c.args.policy.now (g.P.Policy.rules c.args.policy.now) in
    let t = c.args.tariff.now in
    let pricing = g.T.Tariff.pricing t in
    let nodes = c.args.nodes.now in
    let work = c.args.work.now in
    let plan = c.args.plan.now in
    let releases = c.args.releases.now in
    let new = c.search_tree.new.work in
    let h = c.in_ok-found.ensures in
    let o = c.in_ok-found.found.outcome in
    let fit : count_fits nodes ≡ true = sym c.has_fit_count.ensures ∙ c.if-not-has_fit_count.false in
    let yes' = accepted_by pricing may l nodes work plan releases
    (as_searched l nodes (length work) (length plan) (length releases) fit c.if-plan-nodes.false c.if-releases-nodes.false ∙ sym h.answer) in
    let wrote = subst
    (λ (v : Layout). Filled pricing may v nodes (length nodes) work new → o ≡ outcome_of pricing may v nodes
    → AnsweredBy pricing may v nodes o plan c.answer_found.new.plan releases c.answer_found.new.releases c.answer_found.result)
    (ap layout c.chart.ensures) (c.answer_found.ensures.wrote pricing may work)
    h.table h.found.outcome in
    let answer = wrote.answer ∙ ap (answer_by pricing may l nodes) h.found.outcome in
    let planned = wrote.plan ∙ ap (λ (x : Outcome g.row.T-Price.Denot). plan_by pricing may l nodes x plan) h.found.outcome in
    let listed = wrote.releases ∙ ap (λ (x : Outcome g.row.T-Price.Denot). releases_by pricing may l nodes x releases) h.found.outcome in
    let charted = chart_sound (g.P.Policy.charted c.args.policy.now) in
    record {
      answer = answer ∙ yes'.answer;
      work = c.answer_found.ensures.work ∙ table_is pricing may l nodes work new charted.some_server h.table ∙ yes'.filled;
      plan = planned ∙ yes'.planned;
      releases = listed ∙ yes'.listed;
      judged = judged_by pricing may l nodes work plan releases (g.met.T.Tariff.lawful t) charted h.found.sound new h.table c.if-plan-nodes.false
          _ _ _ _ c.answer_found.ensures.work planned listed answer;
    }

pub invariant_of-query : goal.invariant_of-query
invariant_of-query g c =
    let nodes = c.args.nodes.now in
    let h = c.in_ok-found.ensures in
    let same = sym c.chart.ensures in
    let accepted = tree_accepted (layout (g.P.Policy.charted c.args.policy.now)) nodes (length c.args.work.now) h.answer in
    record {
      accepted = subst (λ (v : Chart). tree_answer (layout v) nodes ≡ Ok tt) same accepted;
      sized = h.found.sized;
      profiled = λ k below. h.found.profiles k below ∙ ap (λ (v : Chart). node_profile (layout v) nodes k) same;
    }
