use Rattle.std.proofs.Common.{Err, sym, ◌∙◌}
use Rattle.std.proofs.lemmas.Bool.{cond-true}
use Rattle.chart.specs.Charts.{layout}
use Rattle.queries.specs.declared.refusal.TreeRefusal.TheVariants.{Count}
use Rattle.queries.specs.Questions.{tree_questions, answered, count_fits}
use Rattle.queries.proofs.Passed.{sound_tree}
use Rattle.queries.proofs.check.check_tree.Goals as goal

pub returns-clause-sound : goal.returns-clause-sound
returns-clause-sound c =
    let l = layout c.args.chart.now in
    let nodes = c.args.nodes.now in
    sound_tree l nodes
    (cond-true (count_fits nodes) (answered (tree_questions l nodes)) (Err Count) (sym c.has_fit_count.ensures ∙ c.if-not-has_fit_count.false) ∙ sym c.in_ok-check_all.ensures.answer)
