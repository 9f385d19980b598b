-- The layout that a chart holds.
use Rattle.chart.specs.declared.state.Chart.{Chart}
use Rattle.chart.specs.Layout.{Layout, laid}

abbrev pub layout : Chart → Layout
layout c = laid c.servers c.relation_count c.homes c.attribute_count c.attributes c.link_count c.links c.grades
