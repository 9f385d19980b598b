use Rattle.std.proofs.Common.{refl}
use Rattle.sets.specs.Bits.{rising}
use Rattle.chart.specs.Build.{bare}
use Rattle.members.specs.Compose.{bridges, share_none, composes, composition, compositions}
use Rattle.members.specs.Members.{with_new, round, rounds, members}
use Rattle.queries.specs.Flat.{forest, tree_of}
use Rattle.queries.specs.Questions.{used_by, stands_in, node_profile, questions_from, uses_from}
use Rattle.assignments.specs.Cheapest.{cheapest}
use Rattle.search.specs.Root.{empty_row, first_of}
use Rattle.search.specs.Outcomes.{outcome_of}
use Rattle.planner.specs.Plans.{entailed}
use Rattle.tour.proofs.parts.worked_cases.Goals as goal

pub returns : goal.returns
unfolding bare rising bridges share_none composes composition compositions with_new round rounds members forest tree_of used_by stands_in node_profile questions_from uses_from cheapest empty_row first_of outcome_of entailed
returns c = record {
  projected = refl;
  joined = refl;
  repeated = refl;
  covered = refl;
  uncovered = refl;
  composed = refl;
  let_through = refl;
  denied_both = refl;
  sent_whole = refl;
  blocked = refl;
  semi_joined = refl;
  alone = refl;
}
