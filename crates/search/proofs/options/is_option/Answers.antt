use Rattle.std.proofs.Common.{ℕ, ◌<◌, Bool, ◌&&◌, sym, ap, ◌∙◌, subst, ap₂}
use Rattle.assignments.specs.Modes.{left_at, right_at, releases, allowed}
use Rattle.search.proofs.options.is_option.Goals as goal

pub returns-then-fits : goal.returns-then-fits
returns-then-fits c = λ may n j h x y.
    let m = c.args.mode in
    let s = c.args.master in
    let u = c.args.other in
    let a = c.left_at-left.ensures in
    let b = c.right_at-right.ensures in
    let e = c.is_open.ensures may n j h (subst (λ (k : ℕ). k < n) (sym a) x) (subst (λ (k : ℕ). k < n) (sym b) y) in
    e ∙ ap₂ (λ k l. allowed may (releases j m k l)) a b
    ∙ sym (ap (λ (t : Bool). t && allowed may (releases j m (left_at m s u) (right_at m s u))) (sym c.if-fits.ensures))
