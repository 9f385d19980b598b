use Rattle.std.proofs.Common.{◌≡◌, ℕ, Bool, true, false, arith, rules, tests}
use Rattle.std.proofs.lemmas.Iterator.{first_from_Range}
use Rattle.search.specs.Rows.{place_at}
use Rattle.search.specs.Root.{empty_row}
use Rattle.search.proofs.Empty.{first_by}
use Rattle.search.proofs.root.lowest_empty.Goals as goal

pub returns : goal.returns
returns g c =
    let n = c.args.table.now.servers in
    let p : ℕ → Bool = λ k. empty_row (place_at c.args.table.now.places.now n k) n in
    first_by p c.args.nodes c.find.result
    (first_from_Range _ _ _ _ (λ k. p k ≡ true) (λ k. p k ≡ false) c.find.ensures.ran
    (λ x q k. grind (arith, tests))
    (λ x q k. (search rules, grind (arith, tests))))
