-- The members of a list of views: the views and all that members compose to.
use Rattle.std.specs.Prelude.{◌≡◌, ℕ, zero, suc, Bool, true, false, cond, ◌&&◌, ◌||◌, List, [], ◌∷◌, ◌++◌, length, ◌==◌}
use Rattle.std.specs.List.{flat_map}
use Rattle.sets.specs.Sets.{same}
use Rattle.chart.specs.Layout.{Layout}
use Rattle.rules.specs.declared.view.View.{View}
use Rattle.members.specs.Compose.{composes, composition, compositions}

abbrev pub same_view : View → View → Bool
same_view v w = v.server == w.server && (same v.attributes w.attributes && same v.path w.path)

-- whether the view is in the list
abbrev pub among : View → List View → Bool
among v [] = false
among v (w ∷ ws) = same_view v w || among v ws

-- no view is in the list twice
abbrev pub Distinct : List View → Type 0
Distinct [] = Unit {0}
Distinct (v ∷ vs) = (among v vs ≡ false) × Distinct vs

-- The smallest set that has the given views and what any two of its views compose to.
pub data Member (l : Layout) (given : List View) : View → Type 0 where
  listed : {v : View} → among v given ≡ true → Member l given v
  composed : {a b : View} (k : ℕ) → Member l given a → Member l given b → composes l a b k ≡ true → Member l given (composition a b k)

-- a list with the new ones among other views behind it, each once
unfoldable pub with_new : List View → List View → List View
with_new xs [] = xs
with_new xs (y ∷ ys) = with_new (cond (among y xs) xs (xs ++ y ∷ [])) ys

-- one round adds what any two views of the list compose to
unfoldable pub round : Layout → List View → List View
round l xs = with_new xs (flat_map (λ a. flat_map (compositions l a) xs) xs)

unfoldable pub rounds : Layout → ℕ → List View → List View
rounds l zero xs = xs
rounds l (suc n) xs = rounds l n (round l xs)

-- A view that composes has an attribute, and a composition has those of both, none of them twice: so as many rounds
-- as there are attributes are enough.
unfoldable pub members : Layout → List View → List View
members l given = rounds l (length l.attributes) (with_new [] given)
