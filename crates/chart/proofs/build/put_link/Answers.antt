use Rattle.std.proofs.Common.{length, refl, ◌∙◌, arith, length-set}
use Rattle.std.proofs.lemmas.List.{take_more_set}
use Rattle.chart.specs.declared.parts.Link.{Link}
use Rattle.chart.specs.Layout.{crosses}
use Rattle.chart.specs.Charts.{layout}
use Rattle.chart.proofs.Sound.{links_length}
use Rattle.chart.proofs.Extended.{crosses_told, links_told, front_more, same_layout}
use Rattle.chart.proofs.build.put_link.Goals as goal

pub invariant_of-chart : goal.invariant_of-chart
invariant_of-chart c =
    let ch = c.args.chart.now in
    let n = ch.link_count in
    let x : Link = record { left = c.args.a; right = c.args.b } in
    let room = links_told (layout ch) c.args.a c.args.b (length (layout ch).links) c.requires in
    let crossing = crosses_told (layout ch) c.args.a c.args.b (length (layout ch).links) c.requires in
    let counted = links_length ch in
    record {
      sized = (ch.sized.0, ch.sized.1, length-set ch.links n x ∙ ch.sized.2, ch.sized.3);
      counted = (ch.counted.0, ch.counted.1, omega arith);
      manned = ch.manned;
      homed = ch.homed;
      owned = ch.owned;
      crossed = front_more (λ y. crosses (layout ch).attributes y.left y.right) ch.links n x (omega (arith, ch.sized.2)) ch.crossed crossing;
    }

pub returns : goal.returns
returns c =
    let ch = c.args.chart.now in
    let n = ch.link_count in
    let x : Link = record { left = c.args.a; right = c.args.b } in
    let room = links_told (layout ch) c.args.a c.args.b (length (layout ch).links) c.requires in
    let counted = links_length ch in
    same_layout ch.servers ch.grades refl refl (take_more_set ch.links n x (omega (arith, ch.sized.2)))
