use Rattle.std.proofs.Common.{◌≡◌, List, ◌++◌, take, drop}
use Rattle.chart.specs.Charts.{layout}
use Rattle.rules.specs.declared.view.RuleRecord.{RuleRecord}
use Rattle.policy.specs.Same.{Same}
use Rattle.broker.specs.Runs.{state_by, answers_to, Led}
use Rattle.broker.proofs.run.run_all.Given as goal

-- the calls so far were answered, and led here
abbrev pub invariant-loop-i : goal.invariant-loop-i
invariant-loop-i g l =
    let b = l.initial.broker.book in
    let chart = layout (g.B.Policy.charted b) in
    let fits = g.B.Book.fits b in
    let reading = g.B.Policy.reading b in
    let c = g.T.Tariff.pricing l.tariff in
    ((rules : List RuleRecord) → Same (g.B.Policy.rules b) rules
    → (l.answers ≡ answers_to chart fits reading c (state_by l.initial.work l.initial.plan l.initial.releases rules) (take l.i l.calls) ++ drop l.i l.initial.answers)
    × Led chart fits reading c (g.B.Policy.rules b) (state_by l.initial.work l.initial.plan l.initial.releases rules) (take l.i l.calls) (g.B.Policy.rules l.broker.book) l.work l.plan l.releases)
    × (g.B.Policy.charted l.broker.book ≡ g.B.Policy.charted b) × (g.B.Policy.reading l.broker.book ≡ g.B.Policy.reading b) × (g.B.Book.fits l.broker.book ≡ g.B.Book.fits b)
