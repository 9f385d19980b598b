use Rattle.std.proofs.Common.{◌≡◌, ◌∙◌, rules, tests}
use Rattle.std.proofs.lemmas.Bool.Decides.{Decides-at}
use Rattle.std.proofs.lemmas.Iterator.{YieldsList-from_slice}
use Rattle.std.proofs.lemmas.Iterator.Search.{any_from_yields_List}
use Rattle.policy.proofs.Views.{any_listed}
use Rattle.layers.specs.Readings.{hits, denied}
use Rattle.layers.proofs.Meaning.{denied_means}
use Rattle.layers.proofs.denials.some_denial_hits.Goals as goal

pub returns : goal.returns
returns c =
    let ds = c.args.denials.now in
    let server = c.args.server in
    let p = c.args.profile.now in
    let value : c.any.result ≡ denied ds server p =
    any_from_yields_List (hits server p) _ _ c.any.result c.any.ensures.ran (YieldsList-from_slice ds cc) (λ x b q k. search (rules, tests)) ∙ any_listed (hits server p) ds in
    record { value = value; means = Decides-at c.any.result (denied ds server p) value (denied_means ds server p) }
