-- A path that joins relations into one tree.
use Rattle.std.specs.Prelude.{◌≡◌, ℕ, zero, suc, ◌+◌, Bool, true, false, cond, ◌&&◌, List, [], ◌∷◌, ◌==◌}
use Rattle.sets.specs.declared.small_set.SmallSet.{SmallSet}
use Rattle.sets.specs.Sets.{has, none, single, union, subset, disjoint, members, count}
use Rattle.chart.specs.Layout.{Layout}
use Rattle.rules.specs.Relations.{gather, link_relations, touched}

-- Relation i leads to relation j over the links of the path: it is j, or leads to a relation that a link joins with j.
pub data Leads (l : Layout) (path : SmallSet) (i : ℕ) : ℕ → Type 0 where
  here : Leads l path i i
  over : {j n : ℕ} (k : ℕ) → Leads l path i j → has path k ≡ true → has (link_relations l k) j ≡ true → has (link_relations l k) n ≡ true → Leads l path i n

-- The path joins the relations into one tree: one link fewer than relations, all connected.
pub record Tree (l : Layout) (attributes path : SmallSet) : Type 0 where
  pub fewer : count (touched l attributes path) ≡ count path + 1
  pub connected : (i j : ℕ) → has (touched l attributes path) i ≡ true → has (touched l attributes path) j ≡ true → Leads l path i j

-- The executable test: from some relation all are reached in 64 rounds, each of which adds both ends of every link of
-- the path that has an end among those reached.
abbrev pub spread : Layout → SmallSet → SmallSet → SmallSet
spread l path from = union from (gather (λ k. cond (disjoint (link_relations l k) from) none (link_relations l k)) (members path))

unfoldable pub rounds : Layout → SmallSet → ℕ → SmallSet → SmallSet
rounds l path zero from = from
rounds l path (suc n) from = rounds l path n (spread l path from)

abbrev pub reached_from : Layout → SmallSet → SmallSet → List ℕ → Bool
reached_from l path all [] = false
reached_from l path all (i ∷ is) = subset all (rounds l path 64 (single i))

abbrev pub tree : Layout → SmallSet → SmallSet → Bool
tree l attributes path =
    (count (touched l attributes path) == count path + 1)
    && reached_from l path (touched l attributes path) (members (touched l attributes path))
