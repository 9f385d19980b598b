-- The query of the tour, its sets and its refusal.
use Rattle.std.specs.Prelude.{ℕ, [], ◌∷◌, Some, None, Ok, Err, Option, Result}
use Rattle.sets.specs.Sets.{single, union}
use Rattle.chart.specs.declared.refusal.ChartRefusal.{ChartRefusal}
use Rattle.chart.specs.Refusals.{refusal_number}
use Rattle.chart.specs.Layout.{Layout}
use Rattle.profile.specs.declared.shape.Profile.{Profile}
use Rattle.profile.specs.declared.join.Join.{Join}
use Rattle.profile.specs.declared.join.Side.TheVariants.{Left}
use Rattle.profile.specs.Profiles.{leaf_answer, project, filter}
use Rattle.profile.specs.Joins.{join_answer, joined, column, reply}
use Rattle.sample.specs.Parts.{set_of}
use Rattle.tour.specs.declared.parts.Steps.{Steps}
use Rattle.tour.specs.declared.parts.Sets.{Sets}

-- a profile, if there is one, filtered by 2 and then projected on 0 and 1
abbrev pub trimmed : Profile → Profile
trimmed p = project (filter p (single 2)) (union (single 0) (single 1))

-- the steps of the query, given the join
abbrev pub steps_with : Profile → Profile → Option Join → Option Steps
steps_with p q None = None
steps_with p q (Some j) = Some (record {
  leaf = p;
  filtered = filter p (single 2);
  projected = trimmed p;
  other = q;
  joined = joined j;
  column = column j Left;
  reply = reply j Left;
})

abbrev pub steps_from : Layout → Option Profile → Option Profile → Option Steps
steps_from l None q = None
steps_from l (Some p) None = None
steps_from l (Some p) (Some q) = steps_with p q (join_answer l (trimmed p) q 0)

abbrev pub steps_of : Layout → Option Steps
steps_of l = steps_from l (leaf_answer l 0) (leaf_answer l 1)

-- the number of a refusal; none where the call was accepted
abbrev pub refusal_of : Result ℕ ChartRefusal → Option ℕ
refusal_of (Ok n) = None
refusal_of (Err e) = Some (refusal_number e)

-- the sets of the tour's rules and questions
abbrev pub sets_of_tour : Sets
sets_of_tour = record {
  lots = set_of (0 ∷ 1 ∷ []);
  berths = set_of (3 ∷ 4 ∷ []);
  ends = set_of (0 ∷ 4 ∷ []);
  denied = set_of (0 ∷ 3 ∷ []);
  wide = set_of (0 ∷ 3 ∷ 4 ∷ []);
  link = set_of (0 ∷ []);
}
