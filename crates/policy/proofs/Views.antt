-- The exact reading of views that are held one by one.
use Rattle.std.proofs.Common.{◌≡◌, ℕ, Bool, true, false, ◌||◌, List, [], ◌∷◌, ◌++◌, sym, refl, ap, ◌∙◌}
use Rattle.std.specs.List.{flat_map, list_any}
use Rattle.profile.specs.declared.shape.Profile.{Profile}
use Rattle.rules.specs.declared.view.View.{View}
use Rattle.policy.specs.Reading.{exact, view_lets}

pub any_append : {X : Type 0} (p : X → Bool) (xs ys : List X) → list_any p (xs ++ ys) ≡ (list_any p xs || list_any p ys)
any_append p [] ys = refl
any_append p (x ∷ xs) ys = go (p x) (any_append p xs ys)
  where
    go : (b : Bool) → list_any p (xs ++ ys) ≡ (list_any p xs || list_any p ys) → (b || list_any p (xs ++ ys)) ≡ ((b || list_any p xs) || list_any p ys)
    go true rest = refl
    go false rest = rest

pub any_listed : {X : Type 0} (p : X → Bool) (xs : List X) → list_any p xs ≡ list_any p xs
any_listed p [] = refl
any_listed p (x ∷ xs) = ap (λ b. p x || b) (any_listed p xs)

-- some item's views let the server see it, or the views of all items do
pub exact_held : {T : Type 0} (views : T → List View) (items : List T) (server : ℕ) (p : Profile) → list_any (λ x. exact (views x) server p) items ≡ exact (flat_map views items) server p
exact_held views [] server p = refl
exact_held views (x ∷ items) server p =
    ap (λ b. exact (views x) server p || b) (exact_held views items server p)
    ∙ sym (any_append (view_lets server p) (views x) (flat_map views items))
