-- Sets, profiles and rules by their numbers.
use Rattle.std.specs.Prelude.{ℕ, List, [], ◌∷◌}
use Rattle.sets.specs.declared.small_set.SmallSet.{SmallSet}
use Rattle.sets.specs.Sets.{none, single, union}
use Rattle.profile.specs.declared.shape.Profile.{Profile}
use Rattle.rules.specs.declared.view.RuleRecord.{RuleRecord}

-- a rule by its number, server and sets
abbrev pub rule_with : ℕ → ℕ → SmallSet → SmallSet → RuleRecord
rule_with number server attributes path = record { number = number; view = record { server = server; attributes = attributes; path = path } }

-- the set of these numbers
abbrev pub set_of : List ℕ → SmallSet
set_of [] = none
set_of (x ∷ xs) = union (single x) (set_of xs)

-- a profile by its numbers: shown, path, filtered
abbrev pub profile_of : List ℕ → List ℕ → List ℕ → Profile
profile_of shown path filtered = record { shown = set_of shown; path = set_of path; filtered = set_of filtered }

-- a rule by its number, server, attributes and path
abbrev pub rule_of : ℕ → ℕ → List ℕ → List ℕ → RuleRecord
rule_of number server attributes path = rule_with number server (set_of attributes) (set_of path)
