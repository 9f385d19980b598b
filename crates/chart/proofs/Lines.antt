-- Lines and their grades.
use Rattle.std.proofs.Common.{◌≡◌, ℕ, Bool, true, false, cond, get_or, replicate, refl, ap, ◌∙◌, inl, inr, arith}
use Rattle.std.proofs.lemmas.List.{get_or-replicate, get_or_past, length-replicate}
use Rattle.std.proofs.lemmas.Bool.{cases_lt}
use Rattle.std.proofs.lemmas.Bool.Decides.{nat_tests}
use Rattle.chart.specs.declared.parts.Grade.{Grade}
use Rattle.chart.specs.declared.parts.Grade.TheVariants.{Public}
use Rattle.chart.specs.Layout.{Layout}
use Rattle.chart.specs.Lookup.{line_place, line_known, grade_of}
use Rattle.chart.specs.Build.{bare}

pub grade_both_ways : (l : Layout) (a b : ℕ) → grade_of l a b ≡ grade_of l b a
grade_both_ways l a b =
    let place : line_place a b ≡ line_place b a = omega arith in
    let known : line_known l a b ≡ line_known l b a = grind (arith, nat_tests) in
    ap (λ n. cond (line_known l a b) (get_or l.grades n Public) Public) place ∙ ap (λ k. cond k (get_or l.grades (line_place b a) Public) Public) known

always : (b : Bool) (g : Grade) → g ≡ Public → cond b g Public ≡ Public
always true g e = e
always false g e = refl

pub grade_bare : (n a b : ℕ) → grade_of (bare n) a b ≡ Public
unfolding bare
grade_bare n a b = always (line_known (bare n) a b) (get_or (bare n).grades (line_place a b) Public)
    (elim (cases_lt (line_place a b) 256) [
      | inl below ↦ get_or-replicate {A = Grade} 256 (line_place a b) Public Public below
      | inr past ↦ get_or_past {X = Grade} (replicate 256 Public) (line_place a b) Public (omega (arith, length-replicate {A = Grade} 256 Public))
    ])
