-- Lists that are the same up to order.
use Rattle.std.specs.Prelude.{List, [], ◌∷◌}

pub data Same {X : Type 0} : List X → List X → Type 0 where
  done : Same [] []
  keep : {xs ys : List X} (x : X) → Same xs ys → Same (x ∷ xs) (x ∷ ys)
  swap : (x y : X) (xs : List X) → Same (x ∷ y ∷ xs) (y ∷ x ∷ xs)
  chain : {xs ys zs : List X} → Same xs ys → Same ys zs → Same xs zs
