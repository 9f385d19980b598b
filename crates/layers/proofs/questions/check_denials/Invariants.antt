use Rattle.std.proofs.Common.{◌≡◌, take, drop}
use Rattle.chart.specs.Charts.{layout}
use Rattle.chart.specs.Questions.{asked}
use Rattle.layers.specs.Questions.{denials_questions, denials_answer}
use Rattle.layers.proofs.questions.check_denials.Given as goal

-- those before are held, and what is left decides
abbrev pub invariant-loop-denial : goal.invariant-loop-denial
invariant-loop-denial l =
    (l.held.items ≡ take l.denial-index l.denials)
    × (asked (denials_questions (layout l.chart) l.denial-index (drop l.denial-index l.denials)) tt ≡ denials_answer (layout l.chart) l.denials)
