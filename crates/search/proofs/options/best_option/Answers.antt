use Rattle.std.proofs.Common.{◌≡◌, Option, refl, sym, ap, ◌∙◌, ap₂, arith}
use Rattle.assignments.specs.declared.mode.Mode.{Mode}
use Rattle.assignments.specs.declared.parts.Place.{Place}
use Rattle.assignments.specs.Modes.{mode_at}
use Rattle.assignments.specs.Cheapest.{better, cheapest}
use Rattle.assignments.specs.Table.{best_of_mode}
use Rattle.assignments.proofs.Cheapest.{cheapest_none, cheapest_more}
use Rattle.search.specs.Rows.{place_at}
use Rattle.search.proofs.options.best_option.Goals as goal

pub loop-mode-init : goal.loop-mode-init
loop-mode-init g c = λ may j h. sym (cheapest_none _ _ _)

pub loop-mode-preserved : goal.loop-mode-preserved
loop-mode-preserved g c = λ may j h.
    let t = g.T.Tariff.pricing c.args.tariff.now in
    let n = c.args.table.now.servers in
    let places = c.args.table.now.places.now in
    let by : Mode → Option (Place g.row.T-Price.Denot) = best_of_mode t may n j (place_at places n c.args.operands.left) (place_at places n c.args.operands.right) c.args.master in
    let i = c.loop-mode.mode-index in
    c.better-best.ensures ∙ ap₂ (better {X = Place g.row.T-Price.Denot} t.leq (λ p. p.price)) (c.loop-mode.invariant may j h) (c.best_by-place.ensures may j h ∙ ap by refl)
    ∙ sym (cheapest_more {X = Place g.row.T-Price.Denot} t.leq (λ p. p.price) (λ m. by (mode_at m)) i)

pub returns : goal.returns
returns g c = λ may j h.
    let t = g.T.Tariff.pricing c.args.tariff.now in
    let n = c.args.table.now.servers in
    let places = c.args.table.now.places.now in
    let by : Mode → Option (Place g.row.T-Price.Denot) = best_of_mode t may n j (place_at places n c.args.operands.left) (place_at places n c.args.operands.right) c.args.master in
    let z : c.loop-mode.mode-index ≡ 5 = omega arith in
    c.loop-mode.invariant may j h ∙ ap (cheapest {X = Place g.row.T-Price.Denot} t.leq (λ p. p.price) (λ m. by (mode_at m))) z
