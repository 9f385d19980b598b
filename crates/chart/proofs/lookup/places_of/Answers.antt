use Rattle.std.proofs.Common.{◌+◌, Bool, eqb, get_or, drop, sym, ap, ◌∙◌}
use Rattle.std.proofs.lemmas.Bool.{eq-eqb, ne_eqb}
use Rattle.sets.specs.Sets.{union}
use Rattle.chart.specs.Lookup.{places}
use Rattle.chart.specs.declared.parts.Attribute.{Attribute}
use Rattle.chart.proofs.Places.{places_took, places_passed, places_done}
use Rattle.chart.proofs.lookup.places_of.Goals as goal
use Rattle.chart.proofs.lookup.places_of.Goals.{then-attribute-relation, else-attribute-relation}

pub loop-i-preserved : goal.loop-i-preserved
loop-i-preserved c =
    let xs = c.args.attributes.now in
    let i = c.loop-i.i in
    let test : Attribute → Bool = λ x. eqb x.relation c.args.relation in
    let x : Attribute = get_or xs i (record { relation = 0; width = 0 }) in
    elim c.if-attribute-relation.branch [
      | then-attribute-relation w ↦
          ap (λ s. union s (places test (i + 1) (drop (i + 1) xs))) (w.found-is ∙ w.with_place-found.ensures)
          ∙ places_took test xs i (record { relation = 0; width = 0 }) c.loop-i-test.true c.loop-i.found (eq-eqb x.relation c.args.relation w.if-attribute-relation.true)
          ∙ c.loop-i.invariant
      | else-attribute-relation w ↦
          ap (λ s. union s (places test (i + 1) (drop (i + 1) xs))) w.found-is
          ∙ places_passed test xs i (record { relation = 0; width = 0 }) c.loop-i-test.true c.loop-i.found (ne_eqb x.relation c.args.relation w.if-attribute-relation.false)
          ∙ c.loop-i.invariant
    ]

pub returns : goal.returns
returns c = sym (places_done (λ (x : Attribute). eqb x.relation c.args.relation) c.args.attributes.now c.loop-i.i c.loop-i-test.false c.loop-i.found) ∙ c.loop-i.invariant
