use Rattle.std.proofs.Common.{◌≡◌, ℕ, ◌+◌, ◌*◌, set, sym, refl, ap, ◌∙◌, subst, arith}
use Rattle.search.specs.Rows.{place_at, place_from, Row}
use Rattle.search.specs.Sources.{Sourced}
use Rattle.search.proofs.RowSteps.{row_none, row_turn}
use Rattle.search.proofs.rows.fill_row.Goals as goal

pub loop-server-init : goal.loop-server-init
loop-server-init g c = (λ l may f x h a. row_none _ _ _ _, refl, refl)

pub loop-server-preserved : goal.loop-server-preserved
loop-server-preserved g c =
    let n = c.args.table.now.servers in
    let e = c.loop-server.invariant.1 in
    let i = c.loop-server.server in
    let t = c.loop-server.table.places.now in
    let pricing = g.T.Tariff.pricing c.args.tariff.now in (
      λ l may f x h a. row_turn pricing may n l f x c.args.node i c.args.table.now.places.now t _ c.place_of-place.result a (omega arith) c.requires (c.loop-server.invariant.0 l may f x h a)
          (c.place_of-place.ensures l may f x (subst (λ (k : ℕ). Sourced l may k f x c.args.source.now) (sym e) h) ∙ ap (λ (k : ℕ). place_from pricing may k l f x (place_at t k) i) e)
          (c.put.ensures.after ∙ ap (λ (k : ℕ). set t (c.args.node * k + i) c.place_of-place.result) e),
      c.put.ensures.servers ∙ e,
      c.put.ensures.lent ∙ c.loop-server.invariant.2,
    )

pub returns : goal.returns
returns g c =
    let n = c.args.table.now.servers in
    let z : c.loop-server.server ≡ n = omega arith in
    record {
      row = λ l may f x h a. subst (λ (k : ℕ). Row n c.args.node k (place_from (g.T.Tariff.pricing c.args.tariff.now) may n l f x (place_at c.args.table.now.places.now n)) c.args.table.now.places.now c.loop-server.table.places.now) z (c.loop-server.invariant.0 l may f x h a);
      servers = c.loop-server.invariant.1;
      lent = c.loop-server.invariant.2;
    }
