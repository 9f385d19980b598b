-- What is still to come of a set's numbers.
use Rattle.std.specs.Prelude.{ℕ, List}
use Rattle.sets.specs.declared.elements.Elements.{Elements}
use Rattle.sets.specs.Sets.{members_from}

abbrev pub rest : Elements → List ℕ
rest e = members_from e.set e.from
