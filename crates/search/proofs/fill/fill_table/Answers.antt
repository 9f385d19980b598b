use Rattle.std.proofs.Common.{◌≡◌, ℕ, ◌*◌, ◌<◌, length, get_or, sym, refl, ap, ◌∙◌, subst, arith}
use Rattle.chart.specs.Charts.{layout}
use Rattle.profile.specs.declared.shape.Profile.{Profile}
use Rattle.queries.proofs.Accepted.{checked_sound, checked_profiles, checked_room}
use Rattle.queries.specs.Flat.{node, operands, blank}
use Rattle.search.proofs.RowSteps.{row_ends}
use Rattle.search.specs.Rows.{place_at, place_from, Row, Filled}
use Rattle.search.specs.Sources.{Sourced}
use Rattle.search.proofs.Filling.{all_before, filled_none, filled_more, joinable}
use Rattle.search.proofs.fill.fill_table.Goals as goal

pub loop-i-init : goal.loop-i-init
loop-i-init g c = (filled_none _ _ _ _ _, refl, refl)

pub source_of-source-requires : goal.source_of-source-requires
source_of-source-requires g c =
    let l = layout (g.P.Policy.charted c.args.policy.now) in
    let nodes = c.args.query.now.nodes.now in
    let i = c.loop-i.i in
    let chart = g.P.Policy.charted c.args.policy.now in
    let sound = checked_sound c.args.query.now chart c.requires.chart in
    let early = sound.earlier i c.loop-i-test.true in
    let f : ℕ → Profile = λ k. get_or c.args.query.now.profiles k blank in
    record {
      earlier = all_before (λ j. j < length c.args.query.now.profiles) i (λ j h. omega (arith, checked_room c.args.query.now chart c.requires.chart)) (operands (node nodes i)) early;
      joins = joinable l nodes f i (node nodes i) early (λ k h. checked_profiles c.args.query.now chart c.requires.chart k (omega arith)) (sound.placed i c.loop-i-test.true);
    }

pub fill_row-requires : goal.fill_row-requires
fill_row-requires g c =
    let n = c.loop-i.table.servers in
    let e = ap (λ (k : ℕ). length c.args.query.now.nodes.now * k) c.loop-i.invariant.1 in
    omega (arith, e, row_ends c.loop-i.i (length c.args.query.now.nodes.now) n c.loop-i-test.true, c.loop-i.invariant.0.sized, c.requires.room)

pub loop-i-preserved : goal.loop-i-preserved
loop-i-preserved g c =
    let l = layout (g.P.Policy.charted c.args.policy.now) in
    let may = g.P.Policy.reading c.args.policy.now (g.P.Policy.rules c.args.policy.now) in
    let pricing = g.T.Tariff.pricing c.args.tariff.now in
    let nodes = c.args.query.now.nodes.now in
    let i = c.loop-i.i in
    let x = node nodes i in
    let t = c.loop-i.table.places.now in
    let f : ℕ → Profile = λ k. get_or c.args.query.now.profiles k blank in
    let chart = g.P.Policy.charted c.args.policy.now in
    let sound = checked_sound c.args.query.now chart c.requires.chart in
    let early = sound.earlier i c.loop-i-test.true in
    let e : c.loop-i.table.servers ≡ l.servers = c.loop-i.invariant.1 ∙ c.requires.servers in
    let r = c.fill_row.ensures.row l may f x (subst (λ (k : ℕ). Sourced l may k f x c.source_of-source.result) (sym e) c.source_of-source.ensures) early in (
      filled_more pricing may l nodes c.args.table.now.places.now f i t c.fill_row.new.table.places.now early (λ k h. checked_profiles c.args.query.now chart c.requires.chart k (omega arith)) c.loop-i.invariant.0
          (subst (λ (k : ℕ). Row k i k (place_from pricing may k l f x (place_at t k)) t c.fill_row.new.table.places.now) e r),
      c.fill_row.ensures.servers ∙ c.loop-i.invariant.1,
      c.fill_row.ensures.lent ∙ c.loop-i.invariant.2,
    )

pub returns : goal.returns
returns g c =
    let nodes = c.args.query.now.nodes.now in
    let z : c.loop-i.i ≡ length nodes = omega arith in
    record {
      filled = subst (λ (k : ℕ). Filled (g.T.Tariff.pricing c.args.tariff.now) (g.P.Policy.reading c.args.policy.now (g.P.Policy.rules c.args.policy.now)) (layout (g.P.Policy.charted c.args.policy.now)) nodes k c.args.table.now.places.now c.loop-i.table.places.now) z c.loop-i.invariant.0;
      servers = c.loop-i.invariant.1;
      lent = c.loop-i.invariant.2;
    }
