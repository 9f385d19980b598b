-- The first places of a longer list.
use Rattle.std.proofs.Common.{◌≡◌, ℕ, zero, suc, ◌<◌, List, [], ◌∷◌, ◌++◌, length, refl, arith}
use Rattle.std.specs.List.{slice_get}

pub nth_append : {X : Type 0} (xs ys : List X) (i : ℕ) → i < length xs → slice_get (xs ++ ys) i ≡ slice_get xs i
nth_append [] ys i below = absurd (omega arith)
nth_append (x ∷ xs) ys zero below = refl
nth_append (x ∷ xs) ys (suc i) below = nth_append xs ys i (omega arith)
