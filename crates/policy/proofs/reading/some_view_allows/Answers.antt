use Rattle.std.proofs.Common.{rules, tests, ◌∙◌}
use Rattle.std.proofs.lemmas.Iterator.{YieldsList-from_slice}
use Rattle.std.proofs.lemmas.Iterator.Search.{any_from_yields_List}
use Rattle.policy.specs.Reading.{exact}
use Rattle.policy.proofs.Views.{exact_held}
use Rattle.policy.proofs.reading.some_view_allows.Goals as goal

pub returns : goal.returns
returns g c =
    any_from_yields_List (λ x. exact (g.T.Viewed.views x) c.args.server c.args.profile.now) _ _ c.any.result c.any.ensures.ran
    (YieldsList-from_slice c.args.items.now cc) (λ x b q k. search (rules, tests))
    ∙ exact_held g.T.Viewed.views c.args.items.now c.args.server c.args.profile.now
