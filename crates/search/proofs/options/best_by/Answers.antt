use Rattle.std.proofs.Common.{sym, ap, ◌∙◌, ⊎_elim}
use Rattle.search.specs.Rows.{place_at}
use Rattle.search.proofs.Offers.{none_left, none_right}
use Rattle.search.proofs.options.best_by.Goals as goal

pub returns-in_err-at : goal.returns-in_err-at
returns-in_err-at g c = λ may j h.
    let t = g.T.Tariff.pricing c.args.tariff.now in
    let n = c.args.table.now.servers in
    let at = place_at c.args.table.now.places.now n in
    let left = c.args.operands.left in
    let right = c.args.operands.right in
    let s = c.args.master in
    let m = c.args.mode in
    let empty = sym c.at.ensures ∙ c.in_err-at.was in
    c.from_residual.ensures ∙ sym (⊎_elim
    (λ own. none_left t may n j (at left) (at right) s m own.1 (ap (λ k. at k s) (sym own.0) ∙ empty))
    (λ own. none_right t may n j (at left) (at right) s m own.1 (ap (λ k. at k s) (sym own.0) ∙ empty))
    c.own_operand.ensures)
