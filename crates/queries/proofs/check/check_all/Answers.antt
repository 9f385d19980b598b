use Rattle.std.proofs.Common.{◌-◌, ◌≤◌, leb, length, Err, sym, ap, ◌∙◌, arith}
use Rattle.std.proofs.lemmas.Bool.{and_parts, leb-true}
use Rattle.std.proofs.lemmas.Result.{err_from_is_err_and}
use Rattle.sets.specs.Sets.{has}
use Rattle.chart.specs.Charts.{layout}
use Rattle.queries.specs.Questions.{used_by, questions_from, uses_from, answered}
use Rattle.queries.proofs.Turns.{refused_on, passed_on}
use Rattle.queries.proofs.Uses.{uses_same}
use Rattle.queries.proofs.check.check_all.Goals as goal

pub returns-in_err-used-clause-answer : goal.returns-in_err-used-clause-answer
returns-in_err-used-clause-answer c =
    let l = layout c.args.chart.now in
    let nodes = c.args.nodes.now in
    let p = err_from_is_err_and c.from_residual.result c.from_residual.ensures.1 in
    p.1 ∙ ap Err p.2 ∙ sym (refused_on tt tt (questions_from l nodes 0 (length nodes)) (uses_from (used_by nodes (length nodes)) 0 (length nodes - 1)) _ (sym c.in_err-used.ensures.answer))

pub returns-clause-answer : goal.returns-clause-answer
returns-clause-answer c =
    let l = layout c.args.chart.now in
    let nodes = c.args.nodes.now in
    let h = c.in_ok-used.ensures in
    let few : length nodes ≤ 63 = leb-true (length nodes) 63 (and_parts (leb 1 (length nodes)) (leb (length nodes) 63) c.requires.1).1 in
    c.check_used.ensures
    ∙ ap answered (uses_same (has c.in_ok-used.used) (used_by nodes (length nodes)) (length nodes - 1) 0 (λ k b. h.used k (omega arith)))
    ∙ sym (passed_on tt tt (questions_from l nodes 0 (length nodes)) (uses_from (used_by nodes (length nodes)) 0 (length nodes - 1)) tt (sym h.answer))
