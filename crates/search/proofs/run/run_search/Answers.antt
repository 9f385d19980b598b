use Rattle.std.proofs.Common.{◌≡◌, ℕ, length, ap, ◌∙◌, rules}
use Rattle.chart.specs.declared.state.Chart.{Chart}
use Rattle.chart.specs.Charts.{layout}
use Rattle.queries.proofs.Accepted.{checked_sound}
use Rattle.search.specs.Rows.{place_at}
use Rattle.search.specs.Outcomes.{read_from}
use Rattle.search.proofs.Outcomes.{outcome_is}
use Rattle.search.proofs.run.run_search.Goals as goal

pub returns : goal.returns
returns g c =
    let l = layout (g.P.Policy.charted c.args.policy.now) in
    let may = g.P.Policy.reading c.args.policy.now (g.P.Policy.rules c.args.policy.now) in
    let pricing = g.T.Tariff.pricing c.args.tariff.now in
    let nodes = c.args.query.now.nodes.now in
    let new = c.fill_table.new.table.places.now in
    let n : c.fill_table.new.table.servers ≡ l.servers = c.fill_table.ensures.servers ∙ c.servers-servers.ensures ∙ ap (λ (v : Chart). (layout v).servers) c.chart.ensures in
    record {
      outcome = c.read_outcome.ensures ∙ ap (λ (k : ℕ). read_from pricing k (length nodes) (place_at new k)) n ∙ outcome_is pricing may l nodes c.args.work.now new (checked_sound c.args.query.now (g.P.Policy.charted c.args.policy.now) c.requires.chart).some c.fill_table.ensures.filled;
      filled = search rules;
    }
