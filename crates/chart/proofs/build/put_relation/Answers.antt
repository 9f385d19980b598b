use Rattle.std.proofs.Common.{◌≡◌, ◌+◌, ltb, ◌++◌, length, take, sym, refl, ap, ◌∙◌, arith, length-set}
use Rattle.std.specs.List.{list_all}
use Rattle.std.proofs.lemmas.List.{take_more_set}
use Rattle.chart.specs.Layout.{proper, crosses}
use Rattle.chart.specs.Build.{columns}
use Rattle.chart.specs.Charts.{layout}
use Rattle.chart.proofs.Sound.{relations_length, attributes_length}
use Rattle.chart.proofs.Extended.{server_told, widths_told, relations_told, attributes_told, owned_more, crossed_more, front_more, same_layout}
use Rattle.chart.proofs.build.put_relation.Goals as goal

-- the attributes after the call
written : (c : goal.After-write_columns)
    → let ch = c.args.chart.now in take (ch.attribute_count + length c.args.widths.now) c.write_columns.new.attributes
    ≡ take ch.attribute_count ch.attributes ++ columns ch.relation_count c.args.widths.now
written c = c.write_columns.ensures

pub invariant_of-chart : goal.invariant_of-chart
invariant_of-chart c =
    let ch = c.args.chart.now in
    let server = c.args.server in
    let ws = c.args.widths.now in
    let n = ch.relation_count in
    let old = take ch.attribute_count ch.attributes in
    let relations = relations_told (layout ch) server ws (length (layout ch).homes) c.requires in
    let attributes = attributes_told (layout ch) server ws (length (layout ch).homes) c.requires in
    let widths = widths_told (layout ch) server ws (length (layout ch).homes) c.requires in
    let known = server_told (layout ch) server ws (length (layout ch).homes) c.requires in
    let counted = relations_length ch in
    let columned = attributes_length ch in
    record {
      sized = (length-set ch.homes n server ∙ ch.sized.0, c.write_columns.auto.attributes ∙ ch.sized.1, ch.sized.2, ch.sized.3);
      counted = (omega arith, omega arith, ch.counted.2);
      manned = ch.manned;
      homed = front_more (λ s. ltb s ch.servers) ch.homes n server (omega (arith, ch.sized.0)) ch.homed known;
      owned = ap (list_all (proper (n + 1))) (written c) ∙ owned_more n old ws ch.owned widths;
      crossed =
          ap (λ xs. list_all (λ x. crosses xs x.left x.right) (take ch.link_count ch.links)) (written c)
          ∙ crossed_more old (columns n ws) (take ch.link_count ch.links) ch.crossed;
    }

pub returns : goal.returns
returns c =
    let ch = c.args.chart.now in
    let ws = c.args.widths.now in
    let n = ch.relation_count in
    let old = take ch.attribute_count ch.attributes in
    let relations = relations_told (layout ch) c.args.server ws (length (layout ch).homes) c.requires in
    let counted = relations_length ch in
    let new : take (ch.attribute_count + length ws) c.write_columns.new.attributes ≡ old ++ columns n ws = c.write_columns.ensures in
    same_layout ch.servers ch.grades
    (take_more_set ch.homes n c.args.server (omega (arith, ch.sized.0)))
    (new ∙ ap (λ k. old ++ columns k ws) (sym counted))
    refl
