-- The views that a slot for a rule holds: one or none.
use Rattle.std.specs.Prelude.{List, [], ◌∷◌, Some, None, Option}
use Rattle.rules.specs.declared.view.View.{View}
use Rattle.rules.specs.declared.rule.Rule.{Rule}

abbrev pub slot_views : Option Rule → List View
slot_views None = []
slot_views (Some r) = r.given.view ∷ []
