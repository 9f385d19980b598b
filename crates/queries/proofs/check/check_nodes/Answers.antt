use Rattle.std.proofs.Common.{◌≡◌, ℕ, ◌<◌, Bool, ◌||◌, length, get_or, Err, sym, ap, ◌∙◌, arith, rules}
use Rattle.std.proofs.lemmas.Result.{err_from_is_err_and, IfOk-from_err}
use Rattle.sets.specs.Sets.{has}
use Rattle.chart.specs.Charts.{layout}
use Rattle.chart.proofs.Sound.{chart_sound}
use Rattle.profile.specs.declared.shape.Profile.{Profile}
use Rattle.queries.specs.Flat.{node, blank}
use Rattle.queries.specs.Questions.{uses, is_leaf, used_by, verdict, node_profile}
use Rattle.queries.proofs.Seen.{used_more, stands_more}
use Rattle.queries.proofs.Turns.{refused_at, passed_at, profile_at, questions_none, used_none, stands_none, questions_all, written_more}
use Rattle.queries.proofs.check.check_nodes.Goals as goal

pub loop-i-init : goal.loop-i-init
loop-i-init c =
    let nodes = c.args.nodes.now in
    (questions_none (layout c.args.chart.now) nodes, λ j h. used_none nodes _ (search rules) j, λ r h. stands_none nodes _ (search rules) r, λ k h. absurd (omega arith))

pub loop-i-preserved : goal.loop-i-preserved
loop-i-preserved c =
    let l = layout c.args.chart.now in
    let nodes = c.args.nodes.now in
    let i = c.loop-i.i in
    let inv = c.loop-i.invariant in
    let f : ℕ → Profile = λ k. get_or c.loop-i.profiles k blank in
    let h = c.in_ok-profiles.ensures in
    let sound = chart_sound c.args.chart.now in
    let few : i < 64 = omega arith in
    let below = c.loop-i-test.true in
    let p = c.in_ok-profiles.field-0 in (
      passed_at l sound nodes i few (has c.loop-i.seen.used) (has c.loop-i.seen.relations) f inv.1 inv.2 inv.3 below inv.0 p h,
      λ j k. c.with_node-seen.ensures.used j k ∙ ap (λ (b : Bool). b || uses j (node nodes i)) (inv.1 j k) ∙ sym (used_more nodes i j below),
      λ r k. c.with_node-seen.ensures.relations r k ∙ ap (λ (b : Bool). b || is_leaf r (node nodes i)) (inv.2 r k) ∙ sym (stands_more nodes i r below),
      written_more (node_profile l nodes) c.loop-i.profiles i p (omega arith) inv.3 (profile_at l sound nodes i few (has c.loop-i.seen.used) (has c.loop-i.seen.relations) f inv.1 inv.2 inv.3 below inv.0 p h),
    )

pub returns-in_err-profiles : goal.returns-in_err-profiles
returns-in_err-profiles c =
    let p = err_from_is_err_and c.from_residual.result c.from_residual.ensures.1 in
    let l = layout c.args.chart.now in
    let nodes = c.args.nodes.now in
    let inv = c.loop-i.invariant in
    let f : ℕ → Profile = λ k. get_or c.loop-i.profiles k blank in
    let sound = chart_sound c.args.chart.now in
    record {
      answer = ap verdict p.1 ∙ ap Err p.2 ∙ refused_at l sound nodes c.loop-i.i (omega arith) (has c.loop-i.seen.used) (has c.loop-i.seen.relations) f inv.1 inv.2 inv.3 c.loop-i-test.true inv.0 _ c.in_err-profiles.ensures;
      used = IfOk-from_err _ _ c.from_residual.ensures.0;
      profiles = IfOk-from_err _ _ c.from_residual.ensures.0;
    }

pub returns : goal.returns
returns c =
    let nodes = c.args.nodes.now in
    let z : c.loop-i.i ≡ length nodes = omega arith in
    record {
      answer = questions_all (layout c.args.chart.now) nodes c.loop-i.i z c.loop-i.invariant.0;
      used = λ j k. c.loop-i.invariant.1 j k ∙ ap (λ (i : ℕ). used_by nodes i j) z;
      profiles = λ k h. c.loop-i.invariant.3 k (omega arith);
    }
