use Rattle.std.proofs.Common.{ap, ◌∙◌}
use Rattle.policy.specs.Reading.{exact}
use Rattle.books.proofs.Held.{granted_held}
use Rattle.books.proofs.exact.ExactBookPolicy.allows.Goals as goal

pub returns : goal.returns
returns c = c.some_view_allows.ensures ∙ ap (λ vs. exact vs c.args.server c.args.profile.now) (granted_held c.args.self.now.slots)
