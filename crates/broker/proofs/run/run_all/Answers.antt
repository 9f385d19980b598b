use Rattle.std.proofs.Common.{◌≡◌, ℕ, ◌+◌, List, [], ◌∷◌, ◌++◌, length, get_or, take, drop, sym, refl, ap, ◌∙◌, subst, arith}
use Rattle.std.proofs.lemmas.List.{take_more, take_all, length-take-le}
use Rattle.sets.specs.Sets.{none}
use Rattle.chart.specs.declared.state.Chart.{Chart}
use Rattle.chart.specs.Charts.{layout}
use Rattle.broker.specs.declared.run.Call.{Call}
use Rattle.broker.specs.declared.run.Call.TheVariants.{Enter}
use Rattle.broker.specs.Runs.{state_by, answers_to, Led}
use Rattle.broker.proofs.RunSteps.{led_none, stepped_as, answer_more, led_more, answers_more}
use Rattle.broker.proofs.run.run_all.Goals as goal

abbrev no_call : Call
no_call = Enter (record { number = 0; view = record { server = 0; attributes = none; path = none } })

pub loop-i-init : goal.loop-i-init
loop-i-init g c = (λ rules h. (refl, led_none _ _ _ _ _ _ _ _ _ h), refl, refl, refl)

pub loop-i-preserved : goal.loop-i-preserved
loop-i-preserved g c =
    let b = c.args.broker.now.book in
    let b' = c.loop-i.broker.book in
    let l = layout (g.B.Policy.charted b) in
    let fits = g.B.Book.fits b in
    let reading = g.B.Policy.reading b in
    let pricing = g.T.Tariff.pricing c.args.tariff.now in
    let calls = c.args.calls.now in
    let i = c.loop-i.i in
    let k = get_or calls i no_call in
    let inv = c.loop-i.invariant in
    let mid = g.B.Policy.rules b' in
    let new = g.B.Policy.rules c.step.new.broker.book in
    let more : take (i + 1) calls ≡ take i calls ++ k ∷ [] = take_more calls i no_call c.loop-i-test.true in
    let one = stepped_as (layout (g.B.Policy.charted b')) l (g.B.Book.fits b') fits (g.B.Policy.reading b') reading pricing mid (state_by c.loop-i.work c.loop-i.plan c.loop-i.releases) k c.step.result new
    c.step.new.work c.step.new.plan c.step.new.releases (ap (λ (v : Chart). layout v) inv.1) inv.3 inv.2 c.step.ensures.stepped in (
      λ rules h.
          let s = state_by c.args.work.now c.args.plan.now c.args.releases.now rules in
          let was = inv.0 rules h in
          let led = led_more l fits reading pricing (g.B.Policy.rules b) s (take i calls) k mid new c.loop-i.work c.step.new.work c.loop-i.plan c.step.new.plan c.loop-i.releases c.step.new.releases c.step.result was.1 one in
          let said = answer_more l fits reading pricing (g.B.Policy.rules b) s (take i calls) k mid new c.loop-i.work c.step.new.work c.loop-i.plan c.step.new.plan c.loop-i.releases c.step.new.releases c.step.result was.1 one in (
            answers_more l fits reading pricing s (take i calls) k i c.step.result c.args.answers.now c.loop-i.answers (omega (arith, c.requires, c.loop-i-test.true)) (length-take-le i calls (omega (arith, c.loop-i-test.true))) was.0 said
                ∙ ap (λ (ks : List Call). answers_to l fits reading pricing s ks ++ drop (i + 1) c.args.answers.now) (sym more),
            subst (λ (ks : List Call). Led l fits reading pricing (g.B.Policy.rules b) s ks new c.step.new.work c.step.new.plan c.step.new.releases) (sym more) led,
          ),
      c.step.ensures.chart ∙ inv.1,
      c.step.ensures.reads ∙ inv.2,
      c.step.ensures.fitting ∙ inv.3,
    )

pub returns : goal.returns
returns g c =
    let b = c.args.broker.now.book in
    let l = layout (g.B.Policy.charted b) in
    let fits = g.B.Book.fits b in
    let reading = g.B.Policy.reading b in
    let pricing = g.T.Tariff.pricing c.args.tariff.now in
    let calls = c.args.calls.now in
    let inv = c.loop-i.invariant in
    let i = c.loop-i.i in
    let all : take i calls ≡ calls = take_all i calls c.loop-i-test.false in
    let z : i ≡ length calls = omega (arith, c.loop-i.auto.i-end, c.loop-i-test.false) in
    record {
      ran = record {
        answers = λ rules h.
            let s = state_by c.args.work.now c.args.plan.now c.args.releases.now rules in
            (inv.0 rules h).0 ∙ ap (λ (ks : List Call). answers_to l fits reading pricing s ks ++ drop i c.args.answers.now) all
            ∙ ap (λ (n : ℕ). answers_to l fits reading pricing s calls ++ drop n c.args.answers.now) z;
        led = λ rules h.
            let s = state_by c.args.work.now c.args.plan.now c.args.releases.now rules in
            subst (λ (ks : List Call). Led l fits reading pricing (g.B.Policy.rules b) s ks (g.B.Policy.rules c.loop-i.broker.book) c.loop-i.work c.loop-i.plan c.loop-i.releases) all (inv.0 rules h).1;
      };
      chart = inv.1;
      reads = inv.2;
      fitting = inv.3;
    }
