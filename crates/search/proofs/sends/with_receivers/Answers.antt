use Rattle.std.proofs.Common.{ℕ, ◌<◌, Bool, Option, sym, refl, ap, ◌∙◌, inl, inr, arith}
use Rattle.sets.specs.declared.small_set.SmallSet.{SmallSet}
use Rattle.sets.specs.Sets.{has}
use Rattle.std.specs.Option.{unwrap_or}
use Rattle.queries.proofs.Seen.{inserted}
use Rattle.search.proofs.Receivers.{none_told, told_more, rest_more}
use Rattle.search.proofs.sends.with_receivers.Goals as goal
use Rattle.search.proofs.sends.with_receivers.Goals.{then-allows, else-allows}

pub loop-server-init : goal.loop-server-init
loop-server-init g c = (λ s h. absurd (omega arith), λ s h f. none_told _ c.empty-receivers.ensures s)

pub loop-server-preserved : goal.loop-server-preserved
loop-server-preserved g c =
    let may : ℕ → Bool = λ s. g.P.Policy.reading c.args.policy.now (g.P.Policy.rules c.args.policy.now) s c.args.profile in
    let i = c.loop-server.server in
    let old = c.loop-server.receivers in
    let new = c.if-allows.receivers in
    let few : i < 64 = omega arith in
    let inv = c.loop-server.invariant in
    elim c.if-allows.branch [
      | then-allows w ↦
          let came = inl (sym c.allows.ensures ∙ w.if-allows.true, λ s f. ap (λ (t : SmallSet). has t s) (w.receivers-is ∙ w.unwrap_or-receivers.ensures ∙ ap (λ (r : Option SmallSet). unwrap_or r old) w.insert.ensures) ∙ inserted old i s f) in
          (told_more may i few old new inv.0 inv.1 came, rest_more may i few old new inv.0 inv.1 came)
      | else-allows w ↦
          let came = inr (sym c.allows.ensures ∙ w.if-allows.false, w.receivers-is) in
          (told_more may i few old new inv.0 inv.1 came, rest_more may i few old new inv.0 inv.1 came)
    ]

pub returns : goal.returns
returns g c = record { profile = refl; receivers = λ s h. c.loop-server.invariant.0 s (omega arith) }
