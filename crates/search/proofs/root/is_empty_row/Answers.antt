use Rattle.std.proofs.Common.{◌≡◌, ℕ, true, false, is_some, Option, refl, arith, rules, tests}
use Rattle.std.proofs.lemmas.Iterator.{cases_from_all, YieldsList-from_range}
use Rattle.assignments.specs.declared.parts.Place.{Place}
use Rattle.search.specs.Rows.{place_at}
use Rattle.search.proofs.Empty.{empty_by}
use Rattle.search.proofs.root.is_empty_row.Goals as goal

pub returns : goal.returns
returns g c =
    let n = c.args.table.now.servers in
    let f : ℕ → Option (Place g.row.P.Denot) = place_at c.args.table.now.places.now n c.args.node in
    empty_by f n c.all.result
    (cases_from_all _ _ _ (λ s. is_some (f s) ≡ false) (λ s. is_some (f s) ≡ true) c.all.ensures.ran (YieldsList-from_range 0 n n refl (omega arith))
    (λ s q k. (search rules, grind (arith, tests)))
    (λ s q k. grind (arith, tests)))
