-- What denials forbid, and what a carrier may see.
use Rattle.std.specs.Prelude.{◌≡◌, ℕ, Bool, true, false, not, ◌&&◌, ◌||◌, ◌⊎◌, List, Some, None, Option, ◌==◌}
use Rattle.std.specs.List.{ContainsAt as Has, list_any}
use Rattle.sets.specs.Sets.{has, union, subset}
use Rattle.chart.specs.Layout.{Layout}
use Rattle.profile.specs.declared.shape.Profile.{Profile}
use Rattle.rules.specs.declared.view.RuleRecord.{RuleRecord}
use Rattle.policy.specs.Reading.{inside}
use Rattle.layers.specs.declared.denial.Denial.{Denial}

-- A denial forbids its server what shows or is filtered by all its attributes.
abbrev pub hits : ℕ → Profile → Denial → Bool
hits server p d = d.server == server && subset d.attributes (union p.shown p.filtered)

-- some denial forbids it
abbrev pub denied : List Denial → ℕ → Profile → Bool
denied ds server p = list_any (hits server p) ds

-- The same in words: some denial is for this server, and each of its attributes is shown or filtered.
abbrev pub Denied : List Denial → ℕ → Profile → Type 0
Denied ds server p =
    (d : Denial) × Has ds d × (d.server ≡ server)
    × ((a : ℕ) → has d.attributes a ≡ true → (has p.shown a ≡ true) ⊎ (has p.filtered a ≡ true))

-- A carrier may see all of the chart and nothing outside it.
abbrev pub carries : Layout → Option ℕ → ℕ → Profile → Bool
carries l None server p = false
carries l (Some c) server p = c == server && inside l server p

-- The same in words: the server is the carrier, and the profile lies inside the chart.
abbrev pub Carried : Layout → Option ℕ → ℕ → Profile → Type 0
Carried l carrier server p = (carrier ≡ Some server) × (inside l server p ≡ true)

-- The reading of a layer, given that of the policy below: no to a denial, yes to the carrier, else as below.
abbrev pub denials_reading : List Denial → (List RuleRecord → ℕ → Profile → Bool) → List RuleRecord → ℕ → Profile → Bool
denials_reading ds below rules server p = not (denied ds server p) && below rules server p

abbrev pub carrier_reading : Layout → Option ℕ → (List RuleRecord → ℕ → Profile → Bool) → List RuleRecord → ℕ → Profile → Bool
carrier_reading l carrier below rules server p = carries l carrier server p || below rules server p
