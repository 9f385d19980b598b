use Rattle.std.proofs.Common.{◌≡◌, ◌&&◌, Some, sym, ap, ◌∙◌, ap₂}
use Rattle.assignments.specs.Modes.{fits, left_at, right_at, releases, allowed}
use Rattle.assignments.specs.Assignments.{own_price}
use Rattle.assignments.specs.Table.{holding}
use Rattle.search.proofs.Offers.{weighed_shut, weighed_open}
use Rattle.search.proofs.options.weigh.Goals as goal

pub returns-then-not-is_option : goal.returns-then-not-is_option
returns-then-not-is_option g c = λ may n j h x y.
    let m = c.args.mode in
    let s = c.args.master in
    let u = c.args.other in
    let sent = releases j m (left_at m s u) (right_at m s u) in
    let t = g.T.Tariff.pricing c.args.tariff.now in
    sym (weighed_shut t (fits m s u && allowed may sent) m u (own_price t sent) _ _ (sym (c.is_option.ensures may n j h x y) ∙ c.if-not-is_option.true))

pub returns : goal.returns
returns g c = λ may n j h x y.
    let m = c.args.mode in
    let s = c.args.master in
    let u = c.args.other in
    let sent = releases j m (left_at m s u) (right_at m s u) in
    let t = g.T.Tariff.pricing c.args.tariff.now in
    let own : c.price_of-own.result ≡ own_price t sent =
    c.price_of-own.ensures may n j h ∙ ap₂ (λ a b. own_price t (releases j m a b)) c.left_at-left_at.ensures c.right_at-right_at.ensures in
    let price = c.join.ensures ∙ ap₂ t.sum c.join-operands.ensures own in
    ap (λ v. Some (holding v m u)) price
    ∙ sym (weighed_open t (fits m s u && allowed may sent) m u (own_price t sent) c.args.left c.args.right (sym (c.is_option.ensures may n j h x y) ∙ c.if-not-is_option.false))
